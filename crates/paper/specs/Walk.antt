-- The walk and its trials, over the letters `is` and the judgement `opens n p`: is the prefix p open at n?
use Rattle.std.specs.Prelude.{ℕ, zero, suc, ◌+◌, ◌-◌, Bool, true, false, List, [], ◌∷◌, ◌++◌}

-- what a walk comes to: the word found, or none, and the number of prefixes judged, "the found one included"
pub data Walked : Type 0 where
  found : List ℕ → ℕ → Walked
  none : ℕ → Walked

-- "the trial count is the number of prefixes judged"
abbrev pub count : Walked → ℕ
count (found w t) = t
count (none t) = t

-- k more prefixes judged
abbrev pub plus : ℕ → Walked → Walked
plus k (found w t) = found w (k + t)
plus k (none t) = none (k + t)

-- a walk, and where it finds nothing another: "the walk stops there"
abbrev pub then : Walked → Walked → Walked
then (found w t) r = found w t
then (none t) r = plus t r

abbrev pub pick : Bool → Walked → Walked → Walked
pick true a b = a
pick false a b = b

-- the walks f c, f (c + 1), .. at the k numbers from c on, rising, at those that `is` says
-- (the lets keep what is not reached from being computed)
unfoldable pub run : (ℕ → Bool) → (ℕ → Walked) → ℕ → ℕ → Walked
run is f c zero = none 0
run is f c (suc k) =
    let r = run is f (suc c) k in
    let s = then (f c) r in
    pick (is c) s r

-- at the numbers from c up to e, e not among them
unfoldable pub rising : (ℕ → Bool) → (ℕ → Walked) → ℕ → ℕ → Walked
rising is f e c = run is f c (e - c)

abbrev pub every : ℕ → Bool
every n = true

module _ (is : ℕ → Bool) (opens : ℕ → List ℕ → Bool) where
  -- at length n, the prefix p, which wants d more letters, "before its extensions, bytes rising, each byte of the union once";
  -- "only open prefixes are extended; an open prefix of n bytes is the word found"
  unfoldable pub tree : ℕ → ℕ → List ℕ → Walked
  tree n zero p = pick (opens n p) (found p 1) (none 1)
  tree n (suc d) p =
      let r = plus 1 (rising is (λ b. tree n d (p ++ (b ∷ []))) 256 0) in
      pick (opens n p) r (none 1)

  -- "lengths n rise from shortest to longest; for each n, prefixes .. are walked from the empty one"
  unfoldable pub walk : ℕ → ℕ → Walked
  walk lo hi = rising every (λ n. tree n n []) (suc hi) lo
