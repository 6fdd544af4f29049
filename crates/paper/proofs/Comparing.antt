-- Laws of "the same": reflexive, symmetric, of equal lengths, in parts, place by place; and plain equality.
-- Assumes nothing.
use Prim.Native.Nat.{ℕ, zero, suc, ◌<◌}
use mathlib.Core.Path.{◌≡◌, refl, sym, ap}
use mathlib.Core.Bool.{true}
use mathlib.Core.List.{List, [], ◌∷◌, ◌++◌}
use native.Mathlib.Omega.{arith}
use native.Mathlib.Nat.{not-suc-le-zero}
use lib.ListN.{length, get_or}
use Rattle.paper.specs.Compare.{same_byte, Same}
use Rattle.paper.proofs.Tests.{eqb_same, same_eqb}

pub byte_refl : (b : ℕ) → same_byte b b ≡ true
byte_refl b = same_eqb b b refl

pub byte_sym : (b c : ℕ) → same_byte b c ≡ true → same_byte c b ≡ true
byte_sym b c h = same_eqb c b (sym (eqb_same b c h))

pub same_refl : (w : List ℕ) → Same w w
same_refl [] = tt
same_refl (b ∷ w) = (byte_refl b, same_refl w)

pub same_sym : (u w : List ℕ) → Same u w → Same w u
same_sym [] [] h = tt
same_sym [] (c ∷ w) h = absurd h
same_sym (b ∷ u) [] h = absurd h
same_sym (b ∷ u) (c ∷ w) h = (byte_sym b c h.0, same_sym u w h.1)

pub same_length : (u w : List ℕ) → Same u w → length u ≡ length w
same_length [] [] h = refl
same_length [] (c ∷ w) h = absurd h
same_length (b ∷ u) [] h = absurd h
same_length (b ∷ u) (c ∷ w) h = ap suc (same_length u w h.1)

-- ---- in parts

pub same_append : (u w x y : List ℕ) → Same u w → Same x y → Same (u ++ x) (w ++ y)
same_append [] [] x y h k = k
same_append [] (c ∷ w) x y h k = absurd h
same_append (b ∷ u) [] x y h k = absurd h
same_append (b ∷ u) (c ∷ w) x y h k = (h.0, same_append u w x y h.1 k)

-- what is the same as two words joined is two words joined
pub record Parted (u v w : List ℕ) : Type 0 where
  pub first : List ℕ
  pub second : List ℕ
  pub joined : w ≡ first ++ second
  pub same_first : Same u first
  pub same_second : Same v second

pub same_parts : (u v w : List ℕ) → Same (u ++ v) w → Parted u v w
same_parts [] v w h = record { first = []; second = w; joined = refl; same_first = tt; same_second = h }
same_parts (b ∷ u) v [] h = absurd h
same_parts (b ∷ u) v (c ∷ w) h =
    let p = same_parts u v w h.1 in
    record {
      first = c ∷ p.first;
      second = p.second;
      joined = ap (λ (l : List ℕ). c ∷ l) p.joined;
      same_first = (h.0, p.same_first);
      same_second = p.same_second;
    }

-- ---- place by place

pub same_at : (u w : List ℕ) → length u ≡ length w → ((p : ℕ) → p < length u → same_byte (get_or u p 0) (get_or w p 0) ≡ true) → Same u w
same_at [] [] n h = tt
same_at [] (c ∷ w) n h = absurd (omega arith)
same_at (b ∷ u) [] n h = absurd (omega arith)
same_at (b ∷ u) (c ∷ w) n h = (h 0 (omega arith), same_at u w (omega arith) (λ p l. h (suc p) (omega arith)))

pub at_same : (u w : List ℕ) → Same u w → (p : ℕ) → p < length u → same_byte (get_or u p 0) (get_or w p 0) ≡ true
at_same [] w h p l = absurd (not-suc-le-zero l)
at_same (b ∷ u) [] h p l = absurd h
at_same (b ∷ u) (c ∷ w) h zero l = h.0
at_same (b ∷ u) (c ∷ w) h (suc p) l = at_same u w h.1 p (omega arith)

-- ---- plain equality

pub same_equal : (u w : List ℕ) → Same u w → u ≡ w
same_equal [] [] h = refl
same_equal [] (c ∷ w) h = absurd h
same_equal (b ∷ u) [] h = absurd h
same_equal (b ∷ u) (c ∷ w) h =
    let p = eqb_same b c h.0 in
    let q = same_equal u w h.1 in
    cc
