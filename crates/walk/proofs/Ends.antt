-- The walk as it goes from length to length, and what is said at its ends.
use mathlib.Core.Path.{◌≡◌, refl, ap, sym, ◌∙◌}
use Prim.Native.Nat.{ℕ, suc, ◌+◌, ◌-◌, ◌≤◌, ◌<◌}
use native.Mathlib.Omega.{arith}
use native.Mathlib.Nat.{add-zero}
use native.Mathlib.Numerals.{add-one}
use mathlib.Core.Bool.{Bool, true}
use mathlib.Core.List.{List, []}
use lib.ListN.{take, get_or}
use Rattle.paper.specs.Walk.{Walked, found, none, plus, then, count, rising, every, tree, walk}
use Rattle.paper.specs.Answers.{Found, None, Spent, whole, under}
use Rattle.paper.proofs.Budget.{count_tree, under_above, under_within}
use Rattle.walk_state.specs.declared.state.State.{State}
use Rattle.paper.proofs.Budget.{count_plus, count_then}
use Rattle.walk.specs.Counts.{Counts}
use Rattle.walk.specs.Progress.{At, Done, Knows, Judging, Landed, Over}
use Rattle.walk.proofs.Runs.{plus_zero, plus_plus, rising_end, rising_take, tree_word}
use Rattle.walk.proofs.Steps.{whole_found, whole_count}

module _ (is : ℕ → Bool) (slot : List ℕ) (opens : ℕ → List ℕ → Bool) (lo hi : ℕ) where
  -- the walk of the lengths from n on
  abbrev lengths : ℕ → Walked
  lengths n = rising every (λ m. tree is opens m m []) (suc hi) n

  -- the lengths below n took a trials
  abbrev pub Length : ℕ → ℕ → Type 0
  Length n a = walk is opens lo hi ≡ plus a (lengths n)

  pub first_length : Length lo 0
  unfolding walk
  first_length = sym (plus_zero _)

  length_of : (n a : ℕ) → n ≤ hi → Length n a → walk is opens lo hi ≡ plus a (then (tree is opens n n []) (lengths (suc n)))
  length_of n a h e = e ∙ ap (plus a) (rising_take every _ (suc hi) n (omega arith) refl)

  length_none : (n a t : ℕ) → n ≤ hi → Length n a → a ≤ t → tree is opens n n [] ≡ none (t - a) → Length (suc n) t
  length_none n a t h e l g =
      let z : a + (t - a) ≡ t = omega arith in
      length_of n a h e ∙ rw g (sym (plus_plus a (t - a) (lengths (suc n))) ∙ rw z)

  -- a length that is done
  landed_none : (n a : ℕ) (q : State) (m : Counts) → n ≤ hi → q.prefix.len ≡ 0 → get_or q.begun 0 0 ≡ a → Length n a → Landed is slot opens n q m → Length (suc n) q.trials
  landed_none n a q m h e y g d =
      let k : Done is opens n 0 q.prefix.bytes q.begun q.trials = rw e at d in
      let z : n - 0 ≡ n = omega arith in
      length_none n (get_or q.begun 0 0) q.trials h (rw y g) k.mark (rw z at k.gone)

  pub next_length : (n a : ℕ) (q : State) (m : Counts) → n < hi → q.prefix.len ≡ 0 → get_or q.begun 0 0 ≡ a → Length n a → Landed is slot opens n q m → Length (n + 1) q.trials
  next_length n a q m h e y g d = rw add-one (landed_none n a q m (omega arith) e y g d)

  -- the empty prefix is about to be judged
  pub at_root : (n : ℕ) (w s : List ℕ) (m : Counts) (t : ℕ) → get_or s 0 0 ≡ t → At is opens n 0 w s t × Knows is slot opens n 0 w m
  at_root n w s m t e = (record { parts = λ j h. absurd (omega arith); mark = e }, record { each = λ j c x h l p q. absurd (omega arith) })

  -- ---- the ends
  pub end_over : (budget n a : ℕ) → n ≤ hi → Length n a → budget < a + count (tree is opens n n []) → under budget (walk is opens lo hi) ≡ Spent budget
  end_over budget n a h e l =
      let m : budget < count (walk is opens lo hi) =
      rw (length_of n a h e, count_plus) (omega (arith, count_then (tree is opens n n []) (lengths (suc n)))) in
      under_above budget (walk is opens lo hi) m

  -- a prefix about to be judged where the budget is used up
  pub judging_over : (budget n : ℕ) (q : State) (m : Counts) → Judging is slot opens n q m → budget ≤ q.trials → Over is slot opens n budget q
  judging_over budget n q m a h =
      let y = a.0.mark in
      let c = count_tree is opens n (n - q.prefix.len) (take q.prefix.len q.prefix.bytes) in
      omega (arith, whole_count is opens n q.prefix.len q.prefix.bytes q.begun (suc budget) a.0.parts (omega arith))

  found_told : (n a t budget : ℕ) (v : List ℕ) → n ≤ hi → Length n a → a ≤ t → t ≤ budget → tree is opens n n [] ≡ found v (t - a) → under budget (walk is opens lo hi) ≡ Found v t
  found_told n a t budget v h e l m g =
      let z : a + (t - a) ≡ t = omega arith in
      let y : walk is opens lo hi ≡ found v t = length_of n a h e ∙ rw (g, z) in
      under_within budget (walk is opens lo hi) (rw y m) ∙ ap whole y

  -- an open prefix of n bytes
  pub end_found : (budget n : ℕ) (q : State) (m : Counts) → n ≤ hi → q.prefix.len ≡ n → q.trials < budget → Length n (get_or q.begun 0 0) → Judging is slot opens n q m
      → opens n (take q.prefix.len q.prefix.bytes) ≡ true
      → under budget (walk is opens lo hi) ≡ Found (take q.prefix.len q.prefix.bytes) (q.trials + 1)
  end_found budget n q m h e l g a o =
      let k = a.0.mark in
      let z : n - q.prefix.len ≡ 0 = omega arith in
      let y : q.trials + 1 - get_or q.begun q.prefix.len 0 ≡ 1 = omega arith in
      let w = take q.prefix.len q.prefix.bytes in
      let f = whole_found is opens n q.prefix.len q.prefix.bytes q.begun w (q.trials + 1) a.0.parts (omega arith) (rw (z, y) (tree_word is opens n w o)) in
      found_told n (get_or q.begun 0 0) (q.trials + 1) budget w h g f.0 (omega arith) f.1

  -- the longest length is done
  pub end_none : (budget n a : ℕ) (q : State) (m : Counts) → n ≡ hi → q.prefix.len ≡ 0 → q.trials ≤ budget → get_or q.begun 0 0 ≡ a → Length n a → Landed is slot opens n q m
      → under budget (walk is opens lo hi) ≡ None q.trials
  end_none budget n a q m h e l y g d =
      let f : Length (suc hi) q.trials = rw h at (landed_none n a q m (omega arith) e y g d) in
      let v : walk is opens lo hi ≡ none q.trials = f ∙ rw (rising_end every (λ m. tree is opens m m []) (suc hi) (suc hi) (omega arith), add-zero) in
      under_within budget (walk is opens lo hi) (rw v l) ∙ ap whole v
