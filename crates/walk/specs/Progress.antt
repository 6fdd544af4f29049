-- How far the walk has come, read from the prefix at hand and the trials at which each of its prefixes was begun.
use Rattle.std.specs.Prelude.{◌≡◌, ℕ, zero, suc, ◌+◌, ◌-◌, ◌≤◌, ◌<◌, Bool, List, [], ◌∷◌, ◌++◌, take, get_or, Some}
use Rattle.paper.specs.Walk.{Walked, none, plus, then, count, rising, tree}
use Rattle.walk_state.specs.declared.state.State.{State}
use Rattle.walk.specs.Counts.{Counts, count_at}

-- bytes that no judgement tells apart: wherever the one stands in a prefix, the other is as good
abbrev pub Alike : (ℕ → List ℕ → Bool) → ℕ → ℕ → Type 0
Alike opens b c = (n : ℕ) (p q : List ℕ) → opens n (p ++ (b ∷ q)) ≡ opens n (p ++ (c ∷ q))

-- bytes of one slot are alike; slot 0 says nothing
abbrev pub Classes : (ℕ → List ℕ → Bool) → List ℕ → Type 0
Classes opens slot = (b c : ℕ) → b < 256 → c < 256 → 0 < get_or slot b 0 → get_or slot b 0 ≡ get_or slot c 0 → Alike opens b c

module _ (is : ℕ → Bool) (opens : ℕ → List ℕ → Bool) where
  -- the walk of the prefix of k bytes with one letter more, from the letter c on
  abbrev pub kids : (n k : ℕ) → List ℕ → ℕ → Walked
  kids n k w c = rising is (λ b. tree is opens n (n - suc k) (take k w ++ (b ∷ []))) 256 c

  -- of the walk of the prefix of j bytes: begun at trial a; its child at hand begun at trial b; that child and the later ones are left
  pub record Part (n j : ℕ) (w : List ℕ) (a b : ℕ) : Type 0 where
    pub order : a ≤ b
    pub left : tree is opens n (n - j) (take j w) ≡ plus (b - a) (then (tree is opens n (n - suc j) (take (suc j) w)) (kids n j w (suc (get_or w j 0))))

  abbrev pub Parts : (n k : ℕ) → List ℕ → List ℕ → Type 0
  Parts n k w s = (j : ℕ) → j < k → Part n j w (get_or s j 0) (get_or s (suc j) 0)

  -- the prefix of k bytes is about to be judged, after t trials
  pub record At (n k : ℕ) (w s : List ℕ) (t : ℕ) : Type 0 where
    pub parts : Parts n k w s
    pub mark : get_or s k 0 ≡ t

  -- the prefix of k bytes and its extensions are done, after t trials
  pub record Done (n k : ℕ) (w s : List ℕ) (t : ℕ) : Type 0 where
    pub parts : Parts n k w s
    pub mark : get_or s k 0 ≤ t
    pub gone : tree is opens n (n - k) (take k w) ≡ none (t - get_or s k 0)

module _ (is : ℕ → Bool) (slot : List ℕ) (opens : ℕ → List ℕ → Bool) where
  -- each count that is remembered at a place of the prefix is that of every letter of its slot there
  pub record Knows (n k : ℕ) (w : List ℕ) (m : Counts) : Type 0 where
    pub each : (j c x : ℕ) → j < k → c < 256 → 0 < get_or slot c 0 → count_at m j (get_or slot c 0) ≡ Some x → tree is opens n (n - suc j) (take j w ++ (c ∷ [])) ≡ none x

  -- the prefix at hand is about to be judged
  abbrev pub Judging : ℕ → State → Counts → Type 0
  Judging n q m = At is opens n q.prefix.len q.prefix.bytes q.begun q.trials × Knows n q.prefix.len q.prefix.bytes m

  -- it and its extensions are done
  abbrev pub Finished : ℕ → State → Counts → Type 0
  Finished n q m = Done is opens n q.prefix.len q.prefix.bytes q.begun q.trials × Knows n q.prefix.len q.prefix.bytes m

  abbrev pub Landing : (n k : ℕ) (w s : List ℕ) (m : Counts) (t : ℕ) → Type 0
  Landing n zero w s m t = Done is opens n zero w s t
  Landing n (suc k) w s m t = At is opens n (suc k) w s t × Knows n (suc k) w m

  -- the prefix at hand is about to be judged, or, where it is the empty one, this length is done
  abbrev pub Landed : ℕ → State → Counts → Type 0
  Landed n q m = Landing n q.prefix.len q.prefix.bytes q.begun m q.trials

  -- the walk of this length alone counts above the budget
  abbrev pub Over : (n budget : ℕ) → State → Type 0
  Over n budget q = budget < get_or q.begun 0 0 + count (tree is opens n n [])
