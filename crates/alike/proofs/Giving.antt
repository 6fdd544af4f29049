-- Which bytes may have a slot, and the slots, a byte at a time.
-- Assumes nothing.
use Prim.Native.Nat.{ℕ, ◌+◌, ◌-◌, ◌<◌}
use mathlib.Core.Path.{◌≡◌, refl, sym, ◌∙◌}
use mathlib.Core.Logic.{◌≢◌}
use mathlib.Core.Bool.{Bool, true, false}
use mathlib.Core.List.{List}
use native.Mathlib.Omega.{arith}
use native.Mathlib.Decide.{ℕ_discrete}
use lib.ListN.{length, get_or, set, length-set}
use lib.Seq.{get_or-set_same, get_or-set_other}
use Rattle.std.specs.Prelude.{Option, Some, None}
use Rattle.paper.specs.Sheet.{text_of, grammar_of, sheet_of}
use Rattle.alike.specs.Slots.{SameRows, Letters, Without, Free, PlaceFor, Slotted, Given}

-- ---- which bytes may have a slot

-- of a sheet's text
pub text_free : (s text : List ℕ) (old now : List Bool) → text ≡ text_of s → Letters (sheet_of s) 256 old → Without text old now (length text) → Free (sheet_of s) now
unfolding sheet_of grammar_of
text_free s text old now e o t =
    let u : Without (text_of s) old now (length (text_of s)) = rw e at t in
    record { letters = λ b l z. o b l (t.kept b z); text = λ b z. u.apart b z }

-- ---- slots

pub slotted_none : (ws : List ℕ) (free : List Bool) (owners : List (Option ℕ)) (slot : List ℕ) → length slot ≡ 256 → length owners ≡ 7 → ((b : ℕ) → get_or slot b 0 ≡ 0) → Slotted ws free owners slot 0
slotted_none ws free owners slot l m z = record {
  long = l;
  seven = m;
  below = λ b. omega (arith, z b);
  later = λ b h. z b;
  free = λ b h. absurd (omega (arith, z b));
  like = λ b k h. absurd (omega (arith, z b));
}

module _ (ws : List ℕ) (free : List Bool) (owners : List (Option ℕ)) (slot : List ℕ) (i : ℕ) (s : Slotted ws free owners slot i) where
  -- byte i has none
  pub slotted_same : Slotted ws free owners slot (i + 1)
  slotted_same = record { long = s.long; seven = s.seven; below = s.below; later = λ b l. s.later b (omega arith); free = s.free; like = s.like }

  -- byte i becomes the owner at place k, the old one's rows being its own
  module _ (k : ℕ) (f : PlaceFor ws free owners i k) (byte : i < 256) where
    new : get_or (set slot i (k + 1)) i 0 ≡ k + 1
    new = get_or-set_same slot i (k + 1) 0 (omega (arith, s.long))

    kept : (b : ℕ) → b ≢ i → get_or (set slot i (k + 1)) b 0 ≡ get_or slot b 0
    kept b n = get_or-set_other slot i b (k + 1) 0 n

    owner : get_or (set owners k (Some i)) k None ≡ Some i
    owner = get_or-set_same owners k (Some i) None (omega (arith, s.seven, f.small))

    below : (b : ℕ) → get_or (set slot i (k + 1)) b 0 < 8
    below b = go (ℕ_discrete b i)
      where
        go : Dec (b ≡ i) → get_or (set slot i (k + 1)) b 0 < 8
        go (yes e) = rw (e, new) (omega (arith, f.small))
        go (no e) = rw (kept b e) (s.below b)

    free' : (b : ℕ) → 0 < get_or (set slot i (k + 1)) b 0 → get_or free b false ≡ true
    free' b = go (ℕ_discrete b i)
      where
        go : Dec (b ≡ i) → 0 < get_or (set slot i (k + 1)) b 0 → get_or free b false ≡ true
        go (yes e) h = rw e f.free
        go (no e) h = s.free b (rw (kept b e) at h)

    like : (b m : ℕ) → get_or (set slot i (k + 1)) b 0 ≡ m + 1 → (c : ℕ) × (get_or (set owners k (Some i)) m None ≡ Some c) × SameRows ws b c
    like b m = go (ℕ_discrete b i) (ℕ_discrete m k)
      where
        go : Dec (b ≡ i) → Dec (m ≡ k) → get_or (set slot i (k + 1)) b 0 ≡ m + 1 → (c : ℕ) × (get_or (set owners k (Some i)) m None ≡ Some c) × SameRows ws b c
        go (yes e) (yes n) h = (i, rw n owner, rw e (λ q. refl))
        go (yes e) (no n) h = absurd (n (omega (arith, new, rw e at h)))
        go (no e) (yes n) h =
            let u = s.like b k (rw (kept b e, n) at h) in
            (i, rw n owner, λ q. u.2 q ∙ sym (f.like u.0 u.1 q))
        go (no e) (no n) h =
            let u = s.like b m (rw (kept b e) at h) in
            (u.0, get_or-set_other owners k m (Some i) None n ∙ u.1, u.2)

    pub slotted_more : Slotted ws free (set owners k (Some i)) (set slot i (k + 1)) (i + 1)
    slotted_more = record {
      long = simp length-set s.long;
      seven = simp length-set s.seven;
      below = below;
      later = λ b l. kept b (λ e. omega arith) ∙ s.later b (omega arith);
      free = free';
      like = like;
    }

pub slotted_given : (ws : List ℕ) (free : List Bool) (owners : List (Option ℕ)) (slot : List ℕ) (i : ℕ) → Slotted ws free owners slot i → Given ws free slot
slotted_given ws free owners slot i s = record {
  free = λ b l. s.free b;
  alike = λ b c l m p d.
      let k = get_or slot b 0 in
      let one = s.like b (get_or slot b 0 - 1) (omega arith) in
      let two = s.like c (get_or slot b 0 - 1) (omega arith) in
      let e : one.0 ≡ two.0 = (let z = sym one.1 ∙ two.1 in cc) in
      λ q. one.2 q ∙ rw e (sym (two.2 q));
}
