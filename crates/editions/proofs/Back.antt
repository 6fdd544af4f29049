-- There and back gives the original bytes: a sheet with no rule is what it is in its own edition, and the edition between leaves no trace.
-- Assumes nothing.
use Prim.Native.Nat.{ℕ, zero, suc, ◌+◌, ◌*◌, ◌-◌, ◌≤◌, ◌<◌}
use mathlib.Core.Path.{◌≡◌, refl, sym, ap, ◌∙◌}
use mathlib.Core.Bool.{true}
use mathlib.Core.List.{List, [], ◌∷◌, ◌++◌}
use native.Mathlib.Omega.{arith}
use native.Mathlib.Nat.{mod-eq_of_lt}
use lib.Arith.{digits_div, digits_mod}
use lib.Dec.{eqb}
use lib.ListN.{length, take, drop, take-append-drop, drop_of_length-le}
use lib.Seq.{drop-cons}
use borrow.Author.Tests.{eqb-true}
use Rattle.paper.specs.Bytes.{u8_at, u16_at, u32_at, u16, u32, mark_at, OfBytes}
use Rattle.paper.specs.Trailer.{edition, trailer_size, base, new_byte}
use Rattle.paper.specs.Editions.{zeros, in_edition}
use Rattle.paper.proofs.Tests.{and_left, and_right}
use Rattle.sheet_trailer.specs.Placed.{Trailed}
use Rattle.editions.proofs.Moved.{moved_base, moved_front}

-- ---- numbers from their bytes, and back

u16_bytes : (a b : ℕ) → a < 256 → b < 256 → u16 (a + 256 * b) ≡ a ∷ b ∷ []
unfolding u16
u16_bytes a b p q =
    let n : a + 256 * b ≡ b * 256 + a = omega arith in
    rw (n, digits_mod b p, digits_div b p, mod-eq_of_lt q)

u32_parts : (low high : ℕ) → low < 65536 → u32 (low + 65536 * high) ≡ u16 low ++ u16 high
unfolding u32
u32_parts low high h =
    let n : low + 65536 * high ≡ high * 65536 + low = omega arith in
    rw (n, digits_mod high h, digits_div high h)

u32_bytes : (s : List ℕ) (o : ℕ) → OfBytes s → u32 (u32_at s o) ≡ u8_at s o ∷ u8_at s (o + 1) ∷ u8_at s (o + 2) ∷ u8_at s (o + 3) ∷ []
unfolding u32_at u16_at
u32_bytes s o byte =
    let next : o + 2 + 1 ≡ o + 3 = omega arith in
    u32_parts (u8_at s o + 256 * u8_at s (o + 1)) (u8_at s (o + 2) + 256 * u8_at s (o + 2 + 1)) (omega (arith, byte o, byte (o + 1)))
    ∙ rw (u16_bytes (u8_at s o) (u8_at s (o + 1)) (byte o) (byte (o + 1)), u16_bytes (u8_at s (o + 2)) (u8_at s (o + 2 + 1)) (byte (o + 2)) (byte (o + 2 + 1)), next)

-- the four bytes at o, and what follows
four_at_lem : (s : List ℕ) (o : ℕ) → o + 4 ≤ length s → drop o s ≡ u8_at s o ∷ u8_at s (o + 1) ∷ u8_at s (o + 2) ∷ u8_at s (o + 3) ∷ drop (o + 4) s
four_at_lem s o h = rw (one o (o + 1) (omega arith) (omega arith), one (o + 1) (o + 2) (omega arith) (omega arith), one (o + 2) (o + 3) (omega arith) (omega arith), one (o + 3) (o + 4) (omega arith) (omega arith))
  where
    one : (p q : ℕ) → suc p ≡ q → p < length s → drop p s ≡ u8_at s p ∷ drop q s
    one p q e l = drop-cons s p 0 l ∙ ap (λ (k : ℕ). u8_at s p ∷ drop k s) e

-- ---- a sheet in its own edition

-- what acceptance and no rule give of a trailer's end
pub record Ended (s : List ℕ) : Type 0 where
  pub trailed : Trailed s
  pub low : 1 ≤ edition s
  pub high : edition s ≤ 2
  pub mark : mark_at s (length s - 4) 80 82 77 (48 + edition s) ≡ true
  pub total : u32_at s (length s - 8) ≡ length s
  pub new : (k : ℕ) → k < 4 → new_byte s k ≡ 0

module _ (s : List ℕ) (h : Ended s) (byte : OfBytes s) where
  mark_bytes : drop (length s - 4) s ≡ 80 ∷ 82 ∷ 77 ∷ (48 + edition s) ∷ []
  unfolding mark_at
  mark_bytes =
      let o = length s - 4 in
      let b = and_right (eqb (u8_at s o) 80) _ h.mark in
      let c = and_right (eqb (u8_at s (o + 1)) 82) _ b in
      four_at_lem s o (omega (arith, h.trailed))
      ∙ rw (eqb-true (u8_at s o) 80 (and_left (eqb (u8_at s o) 80) _ h.mark), eqb-true (u8_at s (o + 1)) 82 (and_left (eqb (u8_at s (o + 1)) 82) _ b), eqb-true (u8_at s (o + 2)) 77 (and_left (eqb (u8_at s (o + 2)) 77) _ c), eqb-true (u8_at s (o + 3)) (48 + edition s) (and_right (eqb (u8_at s (o + 2)) 77) _ c))
      (ap (λ (z : List ℕ). 80 ∷ 82 ∷ 77 ∷ (48 + edition s) ∷ z) (drop_of_length-le s {i = o + 4} (omega (arith, h.trailed))))

  ending_bytes_lem : drop (length s - 8) s ≡ u32 (length s) ++ (80 ∷ 82 ∷ 77 ∷ (48 + edition s) ∷ [])
  ending_bytes_lem =
      let o = length s - 8 in
      let four = sym (u32_bytes s o byte) ∙ ap u32 h.total in
      let next : o + 4 ≡ length s - 4 = omega (arith, h.trailed) in
      four_at_lem s o (omega (arith, h.trailed)) ∙ ap (λ (z : List ℕ). (u8_at s o ∷ u8_at s (o + 1) ∷ u8_at s (o + 2) ∷ u8_at s (o + 3) ∷ []) ++ z) (rw next mark_bytes)
      ∙ ap (λ (z : List ℕ). z ++ (80 ∷ 82 ∷ 77 ∷ (48 + edition s) ∷ [])) four

  total_is : base s + trailer_size (edition s) ≡ length s
  unfolding base
  total_is = omega (arith, h.trailed)

  zero_at : edition s ≡ 2 → (k o : ℕ) → k < 4 → base s + 24 + k ≡ o → u8_at s o ≡ 0
  unfolding new_byte
  zero_at e k o l q = rw q at (rw e at (h.new k l))

  new_bytes : (e : ℕ) → edition s ≡ e → drop (base s + 24) s ≡ zeros e ++ drop (length s - 8) s
  new_bytes zero e = absurd (omega (arith, h.low))
  new_bytes (suc zero) e =
      let next : base s + 24 ≡ length s - 8 = omega (arith, total_is) in
      ap (λ (k : ℕ). drop k s) next
  new_bytes (suc (suc zero)) e =
      let o = base s + 24 in
      let next : o + 4 ≡ length s - 8 = omega (arith, total_is) in
      four_at_lem s o (omega (arith, total_is)) ∙ rw (zero_at e 0 o (omega arith) (omega arith), zero_at e 1 (o + 1) (omega arith) refl, zero_at e 2 (o + 2) (omega arith) refl, zero_at e 3 (o + 3) (omega arith) refl, next)
  new_bytes (suc (suc (suc k))) e = absurd (omega (arith, h.high))

  own_edition : in_edition (edition s) s ≡ s
  unfolding in_edition
  own_edition =
      rw total_is
      (ap (λ (z : List ℕ). take (base s + 24) s ++ z) (ap (λ (z : List ℕ). zeros (edition s) ++ z) (sym ending_bytes_lem) ∙ sym (new_bytes (edition s) refl)) ∙ take-append-drop (base s + 24) s)

-- the edition of the sheet at hand is not asked, beyond where its trailer begins
in_same : (e : ℕ) (s t : List ℕ) → base t ≡ base s → take (base s + 24) t ≡ take (base s + 24) s → in_edition e t ≡ in_edition e s
unfolding in_edition
in_same e s t p q = rw (p, q)

-- THERE AND BACK
pub there_and_back : (s : List ℕ) → Ended s → OfBytes s → (e : ℕ) → 1 ≤ e → e ≤ 2 → in_edition (edition s) (in_edition e s) ≡ s
there_and_back s h byte e lo hi = in_same (edition s) s (in_edition e s) (moved_base s h.trailed e lo hi) (moved_front s h.trailed e lo hi) ∙ own_edition s h byte
