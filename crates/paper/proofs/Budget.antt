-- The budget: spent is said exactly where the walk's full count is above it, else the whole outcome.
-- Assumes nothing.
use Prim.Native.Nat.{ℕ, zero, suc, ◌+◌, ◌-◌, ◌≤◌, ◌<◌}
use mathlib.Core.Path.{◌≡◌, refl, sym, ◌∙◌}
use mathlib.Core.Bool.{Bool, true, false}
use mathlib.Core.Logic.{◌↔◌, ◌⊎◌, inl, inr}
use mathlib.Core.List.{List, [], ◌∷◌, ◌++◌}
use native.Mathlib.Omega.{arith}
use native.Mathlib.Decide.{dec_lt}
use borrow.Author.Tests.{lt-ltb, le-ltb}
use Rattle.paper.specs.Walk.{Walked, found, none, plus, then, pick, count, run, rising, every, tree, walk}
use Rattle.paper.specs.Answers.{Spent, whole, under}

-- ---- the count

pub count_plus : (k : ℕ) (o : Walked) → count (plus k o) ≡ k + count o
count_plus k (found w t) = refl
count_plus k (none t) = refl

pub count_then : (o r : Walked) → count o ≤ count (then o r)
count_then (found w t) r = omega arith
count_then (none t) r = omega (arith, count_plus t r)

module _ (is : ℕ → Bool) (opens : ℕ → List ℕ → Bool) where
  -- the prefix itself is judged
  pub count_tree : (n d : ℕ) (p : List ℕ) → 1 ≤ count (tree is opens n d p)
  unfolding tree
  count_tree n zero p = go (opens n p)
    where
      go : (b : Bool) → 1 ≤ count (pick b (found p 1) (none 1))
      go true = omega arith
      go false = omega arith
  count_tree n (suc d) p = go (opens n p) (rising is (λ b. tree is opens n d (p ++ (b ∷ []))) 256 0)
    where
      go : (b : Bool) (o : Walked) → 1 ≤ count (pick b (plus 1 o) (none 1))
      go true o = omega (arith, count_plus 1 o)
      go false o = omega arith

  -- a walk of at least one length judges the empty prefix
  pub count_walk : (lo hi : ℕ) → lo ≤ hi → 1 ≤ count (walk is opens lo hi)
  unfolding walk rising run
  count_walk lo hi h =
      let z : suc hi - lo ≡ suc (hi - lo) = omega arith in
      let o = tree is opens lo lo [] in
      let r = run every (λ n. tree is opens n n []) (suc lo) (hi - lo) in
      let c : 1 ≤ count (then o r) = omega (arith, count_tree lo lo [], count_then o r) in
      rw z c

-- ---- what is said under a budget

pub whole_not_spent : (w : Walked) (b : ℕ) → whole w ≡ Spent b → ⊥
whole_not_spent (found w t) b e = let z : ◌≡◌ {A = ℕ} 0 1 = cc in omega arith
whole_not_spent (none t) b e = let z : ◌≡◌ {A = ℕ} 0 1 = cc in omega arith

module _ (b : ℕ) (w : Walked) where
  pub under_above : b < count w → under b w ≡ Spent b
  unfolding under
  under_above h = rw (lt-ltb b (count w) h)

  pub under_within : count w ≤ b → under b w ≡ whole w
  unfolding under
  under_within h = rw (le-ltb b (count w) h)

  -- spent exactly where the count is above the budget
  pub under_spent : (under b w ≡ Spent b) ↔ (b < count w)
  under_spent = (λ e. go (dec_lt b (count w)) e, under_above)
    where
      go : Dec (b < count w) → under b w ≡ Spent b → b < count w
      go (yes l) e = l
      go (no l) e = absurd (whole_not_spent w b (sym (under_within (omega arith)) ∙ e))

  -- spent, or the whole outcome within the budget
  pub under_cases : ((b < count w) × (under b w ≡ Spent b)) ⊎ ((count w ≤ b) × (under b w ≡ whole w))
  under_cases = go (dec_lt b (count w))
    where
      go : Dec (b < count w) → ((b < count w) × (under b w ≡ Spent b)) ⊎ ((count w ≤ b) × (under b w ≡ whole w))
      go (yes l) = inl (l, under_above l)
      go (no l) = inr (omega arith, under_within (omega arith))
