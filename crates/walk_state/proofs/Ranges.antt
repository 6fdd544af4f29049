-- A range of letters joined to a set, a letter at a time.
use mathlib.Core.Path.{◌≡◌, ap, ◌∙◌}
use Prim.Native.Nat.{ℕ, ◌+◌, ◌≤◌, ◌<◌}
use native.Mathlib.Omega.{arith}
use native.Mathlib.Decide.{dec_lt, ℕ_discrete}
use mathlib.Core.Bool.{Bool, ◌&&◌, ◌||◌}
use mathlib.Core.List.{List}
use borrow.Author.Tests.{lt-ltb, le-ltb, le-leb, lt-leb}
use lib.Dec.{leb, ltb}
use lib.ListN.{length}
use Rattle.workspace.specs.Bits.{set_bit}
use Rattle.workspace.proofs.Bits.{set_bit_same, set_bit_other}
use Rattle.walk_state.specs.Letters.{has_letter, Joined}

module _ (of : List ℕ) (low high : ℕ) where
  -- the letters from low up to b are joined, b not among them
  abbrev pub JoinedTo : ℕ → List ℕ → Type 0
  JoinedTo b r = (x : ℕ) → has_letter r x ≡ ((leb low x && (ltb x b && leb x high)) || has_letter of x)

  pub joined_start : (b : ℕ) → b ≡ low → JoinedTo b of
  joined_start b e x = go (dec_lt x low)
    where
      go : Dec (x < low) → has_letter of x ≡ ((leb low x && (ltb x b && leb x high)) || has_letter of x)
      go (yes h) = rw (lt-leb low x h)
      go (no h) = rw (le-leb low x (omega arith), le-ltb x b (omega arith))

  pub joined_more : (b : ℕ) (r : List ℕ) → low ≤ b → b ≤ high → b < 256 → 4 ≤ length r → JoinedTo b r → JoinedTo (b + 1) (set_bit r 0 b)
  unfolding has_letter
  joined_more b r h l m four j x = go (ℕ_discrete x b)
    where
      up : (x ≡ b → ⊥) → Dec (x < b) → ltb x (b + 1) ≡ ltb x b
      up e (yes y) = rw (lt-ltb x (b + 1) (omega arith), lt-ltb x b y)
      up e (no y) = rw (le-ltb x (b + 1) (omega arith), le-ltb x b (omega arith))

      go : Dec (x ≡ b) → has_letter (set_bit r 0 b) x ≡ ((leb low x && (ltb x (b + 1) && leb x high)) || has_letter of x)
      go (yes e) = rw (e, set_bit_same r 0 b (omega arith) m, le-leb low b h, lt-ltb b (b + 1) (omega arith), le-leb b high l)
      go (no e) = rw (set_bit_other r 0 b x e, up e (dec_lt x b)) (j x)

  pub joined_end : (b : ℕ) (r : List ℕ) → high < b → JoinedTo b r → Joined of low high r
  joined_end b r h j x = j x ∙ ap (λ (t : Bool). (leb low x && t) || has_letter of x) (go (dec_lt x b))
    where
      go : Dec (x < b) → (ltb x b && leb x high) ≡ leb x high
      go (yes y) = rw (lt-ltb x b y)
      go (no y) = rw (le-ltb x b (omega arith), lt-leb x high (omega arith))
