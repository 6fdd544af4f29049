-- The bytes of a sheet in edition e: how many they are, what stands before the new bytes, and what the trailer's end reads.
-- Assumes nothing.
use Prim.Native.Nat.{ℕ, zero, suc, ◌+◌, ◌*◌, ◌-◌, ◌≤◌, ◌<◌}
use mathlib.Core.Path.{◌≡◌, refl, sym, ap, ◌∙◌}
use mathlib.Core.Bool.{true, cond}
use mathlib.Core.List.{List, [], ◌∷◌, ◌++◌, append-nil}
use native.Mathlib.Omega.{arith}
use lib.Dec.{leb}
use lib.ListN.{length, take, get_or, length-append}
use lib.Seq.{length-take-le, take_at, drop_at, get_or-drop}
use borrow.Author.Tests.{eq-eqb, le-leb}
use Rattle.paper.specs.Bytes.{u8_at, u32}
use Rattle.paper.specs.Trailer.{edition, trailer_size, base, new_byte, mark_ok, total_ok}
use Rattle.paper.specs.Editions.{zeros, in_edition}
use Rattle.paper.proofs.Tests.{and_intro}
use Rattle.paper.proofs.Encoding.{Stands, stands_at, stands_head, stands_tail, stands_byte, stands_next, stands_u32, stands_mark, length_u32}
use Rattle.sheet_trailer.specs.Placed.{Trailed}
use Rattle.editions.specs.Puts.{ending}

-- ---- the new bytes

pub zeros_length : (e : ℕ) → 1 ≤ e → e ≤ 2 → length (zeros e) + 4 ≡ 4 * e
zeros_length zero lo hi = absurd (omega arith)
zeros_length (suc zero) lo hi = refl
zeros_length (suc (suc zero)) lo hi = refl
zeros_length (suc (suc (suc e))) lo hi = absurd (omega arith)

four_zeros : (k : ℕ) (x : List ℕ) → k < 4 → get_or (0 ∷ 0 ∷ 0 ∷ 0 ∷ x) k 0 ≡ 0
four_zeros zero x h = refl
four_zeros (suc zero) x h = refl
four_zeros (suc (suc zero)) x h = refl
four_zeros (suc (suc (suc zero))) x h = refl
four_zeros (suc (suc (suc (suc k)))) x h = absurd (omega arith)

new_zero : (e : ℕ) → 1 ≤ e → e ≤ 2 → (l : List ℕ) (o : ℕ) (x : List ℕ) (k : ℕ) → k < 4 → Stands l o (zeros e ++ x) → cond (leb 2 e) (u8_at l (o + k)) 0 ≡ 0
new_zero zero lo hi l o x k h f = absurd (omega arith)
new_zero (suc zero) lo hi l o x k h f = refl
new_zero (suc (suc zero)) lo hi l o x k h f = sym (get_or-drop o l k 0) ∙ ap (λ (z : List ℕ). get_or z k 0) f.same ∙ four_zeros k (x ++ f.rest) h
new_zero (suc (suc (suc e))) lo hi l o x k h f = absurd (omega arith)

-- ---- the sheet in edition e

module _ (s : List ℕ) (t : Trailed s) (e : ℕ) (lo : 1 ≤ e) (hi : e ≤ 2) where
  front_length : length (take (base s + 24) s) ≡ base s + 24
  unfolding base
  front_length = length-take-le _ s (omega arith)

  pub moved_length : length (in_edition e s) ≡ base s + trailer_size e
  unfolding in_edition
  moved_length =
      rw (length-append (take (base s + 24) s) _, front_length, length-append (zeros e) _, length-append (u32 (base s + trailer_size e)) _, length_u32)
      (omega (arith, zeros_length e lo hi))

  pub moved_front : take (base s + 24) (in_edition e s) ≡ take (base s + 24) s
  unfolding in_edition
  moved_front = take_at _ _ _ front_length

  new_there : Stands (in_edition e s) (base s + 24) (zeros e ++ ending (base s + trailer_size e) e)
  unfolding in_edition
  new_there = record { rest = []; same = drop_at (take (base s + 24) s) _ _ front_length ∙ sym (append-nil (zeros e ++ ending (base s + trailer_size e) e)) }

  total_there : Stands (in_edition e s) (length (in_edition e s) - 8) (ending (base s + trailer_size e) e)
  total_there = stands_at _ (omega (arith, moved_length, zeros_length e lo hi)) (stands_tail (zeros e) _ new_there)

  mark_there : Stands (in_edition e s) (length (in_edition e s) - 4) (80 ∷ 82 ∷ 77 ∷ (48 + e) ∷ [])
  mark_there = stands_at _ (omega (arith, moved_length, length_u32 (base s + trailer_size e))) (stands_tail (u32 (base s + trailer_size e)) _ total_there)

  pub moved_edition : edition (in_edition e s) ≡ e
  unfolding edition
  moved_edition =
      let digit = stands_byte (stands_at (length (in_edition e s) - 1) (omega (arith, moved_length)) (stands_next (stands_next (stands_next mark_there)))) in
      omega (arith, digit)

  pub moved_base : base (in_edition e s) ≡ base s
  unfolding base
  moved_base = rw moved_edition (omega (arith, moved_length))

  pub moved_new : (k : ℕ) → k < 4 → new_byte (in_edition e s) k ≡ 0
  unfolding new_byte
  moved_new k h = rw (moved_edition, moved_base) (new_zero e lo hi (in_edition e s) (base s + 24) _ k h new_there)

  pub moved_mark : (first last : ℕ) → first ≤ e → e ≤ last → mark_ok first last (in_edition e s) ≡ true
  unfolding mark_ok
  moved_mark first last p q = rw moved_edition (and_intro (le-leb _ _ p) (and_intro (le-leb _ _ q) (stands_mark mark_there)))

  pub moved_total : length s < 65536 → total_ok (in_edition e s) ≡ true
  unfolding total_ok base
  moved_total h =
      let total = stands_u32 (base s + trailer_size e) (omega arith) (stands_head (u32 (base s + trailer_size e)) _ total_there) in
      rw moved_edition (and_intro (le-leb (trailer_size e) (length (in_edition e s)) (omega (arith, moved_length))) (eq-eqb _ _ (total ∙ sym moved_length)))
