-- What the functions of the walk promise to each other.
use Rattle.std.specs.Prelude.{◌≡◌, ℕ, ◌≤◌, ◌<◌, Bool, List, length, get_or, take, Option, Some, None}
use Rattle.walk_state.specs.declared.state.State.{State}
use Rattle.walk_state.specs.Moves.{Marks}
use Rattle.walk.specs.Counts.{Counts}
use Rattle.walk.specs.Progress.{Classes, Judging, Finished, Landed, Over}

-- the walk has come from p to q: q's sizes, its trials within the budget, its root that of p, and its marks
pub record Frame (budget : ℕ) (p q : State) : Type 0 where
  pub short : q.prefix.len ≤ 60
  pub letters : length q.prefix.bytes ≡ 60
  pub notes : length q.begun ≡ 61
  pub more : p.trials ≤ q.trials
  pub most : q.trials ≤ budget
  pub root : get_or q.begun 0 0 ≡ get_or p.begun 0 0
  pub marks : Marks q

-- m and m' are the counts before and after
module _ (is : ℕ → Bool) (slot : List ℕ) (budget : ℕ) where
  -- from q, whose prefix is done, to r
  pub record ClimbedTo (q : State) (m : Counts) (r : State) (m' : Counts) : Type 0 where
    pub shorter : r.prefix.len ≤ q.prefix.len
    pub frame : Frame budget q r
    pub to : (opens : ℕ → List ℕ → Bool) (n : ℕ) → Classes opens slot → Finished is slot opens n q m → Landed is slot opens n r m'

  -- from q, whose prefix is done, the budget does not suffice
  abbrev pub ClimbedOver : State → Counts → Type 0
  ClimbedOver q m = (opens : ℕ → List ℕ → Bool) (n : ℕ) → Classes opens slot → Finished is slot opens n q m → Over is slot opens n budget q

  -- the one or the other
  abbrev pub Climbed : State → Counts → Option State → Counts → Type 0
  Climbed q m (Some r) m' = ClimbedTo q m r m'
  Climbed q m None m' = ClimbedOver q m

  -- from q, whose prefix was judged open or not, to r
  pub record AdvancedTo (n : ℕ) (ok : Bool) (q : State) (m : Counts) (r : State) (m' : Counts) : Type 0 where
    pub within : r.prefix.len ≤ n
    pub more : q.trials < r.trials
    pub frame : Frame budget q r
    pub to : (opens : ℕ → List ℕ → Bool) → Classes opens slot → Judging is slot opens n q m → opens n (take q.prefix.len q.prefix.bytes) ≡ ok → Landed is slot opens n r m'

  -- from q, whose prefix was judged open or not, the budget does not suffice
  abbrev pub AdvancedOver : (n : ℕ) → Bool → State → Counts → Type 0
  AdvancedOver n ok q m =
      (opens : ℕ → List ℕ → Bool) → Classes opens slot → Judging is slot opens n q m → opens n (take q.prefix.len q.prefix.bytes) ≡ ok → Over is slot opens n budget q

  -- the one or the other
  abbrev pub Advanced : (n : ℕ) → Bool → State → Counts → Option State → Counts → Type 0
  Advanced n ok q m (Some r) m' = AdvancedTo n ok q m r m'
  Advanced n ok q m None m' = AdvancedOver n ok q m
