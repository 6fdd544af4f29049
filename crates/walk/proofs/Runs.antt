-- Laws of walks one after the other, of runs of walks, and of their counts.
use mathlib.Core.Path.{◌≡◌, ap, ◌∙◌}
use Prim.Native.Nat.{ℕ, zero, suc, ◌+◌, ◌-◌, ◌≤◌, ◌<◌}
use native.Mathlib.Nat.{add_assoc, zero-add}
use native.Mathlib.Omega.{arith}
use mathlib.Core.Bool.{Bool, true, false}
use mathlib.Core.List.{List, [], ◌∷◌, ◌++◌}
use Rattle.paper.specs.Walk.{Walked, found, none, plus, then, run, rising, tree}

pub plus_zero : (o : Walked) → plus 0 o ≡ o
plus_zero (found w t) = ap (found w) (zero-add t)
plus_zero (none t) = ap none (zero-add t)

pub plus_plus : (a b : ℕ) (o : Walked) → plus (a + b) o ≡ plus a (plus b o)
plus_plus a b (found w t) = ap (found w) (add_assoc a b t)
plus_plus a b (none t) = ap none (add_assoc a b t)

-- ---- a run of walks over the numbers from c up to e
module _ (is : ℕ → Bool) (f : ℕ → Walked) (e : ℕ) where
  pub rising_end : (c : ℕ) → e ≤ c → rising is f e c ≡ none 0
  unfolding rising run
  rising_end c h =
      let z : e - c ≡ 0 = omega arith in
      rw z

  pub rising_take : (c : ℕ) → c < e → is c ≡ true → rising is f e c ≡ then (f c) (rising is f e (suc c))
  unfolding rising run
  rising_take c h t =
      let z : e - c ≡ suc (e - suc c) = omega arith in
      rw (z, t)

  rising_skip : (c : ℕ) → c < e → is c ≡ false → rising is f e c ≡ rising is f e (suc c)
  unfolding rising run
  rising_skip c h t =
      let z : e - c ≡ suc (e - suc c) = omega arith in
      rw (z, t)

  skips : (k c b : ℕ) → c + k ≡ b → b ≤ e → ((x : ℕ) → x < b → c ≤ x → is x ≡ false) → rising is f e c ≡ rising is f e b
  skips zero c b p h gap =
      let z : c ≡ b = omega arith in
      rw z
  skips (suc k) c b p h gap =
      rising_skip c (omega arith) (gap c (omega arith) (omega arith)) ∙ skips k (suc c) b (omega arith) h (λ x l m. gap x l (omega arith))

  -- where there is none from c up to b, b is as good a start
  pub rising_from : (c b : ℕ) → c ≤ b → b ≤ e → ((x : ℕ) → x < b → c ≤ x → is x ≡ false) → rising is f e c ≡ rising is f e b
  rising_from c b l h gap = skips (b - c) c b (omega arith) h gap

-- ---- the walk of a prefix
module _ (is : ℕ → Bool) (opens : ℕ → List ℕ → Bool) where
  pub tree_shut : (n d : ℕ) (p : List ℕ) → opens n p ≡ false → tree is opens n d p ≡ none 1
  unfolding tree
  tree_shut n zero p e = rw e
  tree_shut n (suc d) p e = rw e

  pub tree_open : (n k : ℕ) (p : List ℕ) → k < n → opens n p ≡ true
      → tree is opens n (n - k) p ≡ plus 1 (rising is (λ b. tree is opens n (n - suc k) (p ++ (b ∷ []))) 256 0)
  unfolding tree
  tree_open n k p h e =
      let z : n - k ≡ suc (n - suc k) = omega arith in
      rw (z, e)

  pub tree_word : (n : ℕ) (p : List ℕ) → opens n p ≡ true → tree is opens n 0 p ≡ found p 1
  unfolding tree
  tree_word n p e = rw e
