-- A byte and a stretch of the text in a word, and when each kind of option holds of it.
-- Assumes nothing.
use Prim.Native.Nat.{ℕ, suc, ◌+◌, ◌-◌, ◌≤◌, ◌<◌}
use mathlib.Core.Path.{◌≡◌, refl, sym, ap}
use mathlib.Core.Bool.{true, ◌&&◌}
use mathlib.Core.List.{List, [], ◌∷◌}
use native.Mathlib.Omega.{arith}
use lib.Dec.{eqb, leb}
use lib.ListN.{length, get_or, take, drop, length-take, length-drop}
use Rattle.std.specs.Cmp.Lexicographic.{pointwise}
use Rattle.std.proofs.Common.{drop-cons}
use borrow.Author.Tests.{eq-eqb, eqb-true, le-leb, leb-true}
use Rattle.paper.specs.Decide.{Test, exactly, fits, some_in}
use Rattle.paper.specs.Cuts.{Byte, Stretch, Split, Nil}
use Rattle.paper.specs.Gate.{holds}
use Rattle.paper.proofs.Tests.{and_left, and_right, and_intro, same_test, any_intro, any_elim}
use Rattle.paper.proofs.Derivation.{stretch_part}

-- ---- a byte, and a stretch of the text, in a word

module _ (word : List ℕ) (i : ℕ) where
  pub byte_in : (lo hi : ℕ) → some_in (exactly word) i lo hi ≡ (leb lo (get_or word i 0) && leb (get_or word i 0) hi)
  unfolding some_in exactly
  byte_in lo hi = same_test _ _ there back
    where
      there : some_in (exactly word) i lo hi ≡ true → (leb lo (get_or word i 0) && leb (get_or word i 0) hi) ≡ true
      there e =
          let w = any_elim (suc hi - lo) (λ k. eqb (lo + k) (get_or word i 0)) e in
          let p : lo + w.0 ≡ get_or word i 0 = eqb-true _ _ w.2 in
          let l : w.0 < suc hi - lo = w.1 in
          and_intro (le-leb lo (get_or word i 0) (omega arith)) (le-leb (get_or word i 0) hi (omega arith))

      back : (leb lo (get_or word i 0) && leb (get_or word i 0) hi) ≡ true → some_in (exactly word) i lo hi ≡ true
      back e =
          let p = leb-true lo (get_or word i 0) (and_left (leb lo (get_or word i 0)) _ e) in
          let q = leb-true (get_or word i 0) hi (and_right (leb lo (get_or word i 0)) _ e) in
          any_intro (suc hi - lo) (λ k. eqb (lo + k) (get_or word i 0)) (get_or word i 0 - lo) (omega arith) (eq-eqb (lo + (get_or word i 0 - lo)) (get_or word i 0) (omega arith))

-- the part stands in the word from place i on
same_fits : (word part : List ℕ) (i : ℕ) → i + length part ≤ length word → pointwise eqb part (take (length part) (drop i word)) ≡ fits (exactly word) i part
unfolding fits exactly
same_fits word [] i h = refl
same_fits word (b ∷ part) i h =
    let l : i < length word = omega arith in
    rw (drop-cons word i 0) (ap (λ t. eqb b (get_or word i 0) && t) (same_fits word part (suc i) (omega arith)))

-- ---- when an option holds

module _ (text word : List ℕ) (acc : Test) (m i : ℕ) where
  pub holds_byte_lem : (lo hi : ℕ) → holds text (exactly word) acc m i (Byte lo hi) ≡ (leb lo (get_or word i 0) && leb (get_or word i 0) hi)
  unfolding holds
  holds_byte_lem lo hi = byte_in word i lo hi

  pub holds_stretch : (a b : ℕ) → a + b ≤ length text → i + b ≤ length word → holds text (exactly word) acc m i (Stretch a b) ≡ pointwise eqb (take b (drop a text)) (take b (drop i word))
  unfolding holds
  holds_stretch a b h l =
      let part = take b (drop a text) in
      let e : length part ≡ b = simp (length-take, length-drop) (omega arith) in
      rw (stretch_part text a b h) (sym (rw e at (same_fits word part i (rw e l))))

  pub holds_split : (k a b : ℕ) → holds text (exactly word) acc m i (Split k a b) ≡ (acc k i a && acc (m - k) (i + k) b)
  unfolding holds
  holds_split k a b = refl

  pub holds_nil : holds text (exactly word) acc m i Nil ≡ true
  unfolding holds
  holds_nil = refl

pub ruleset holdings = (holds_byte_lem, holds_stretch, holds_split, holds_nil)
