-- What is demanded of an answer of the solver, in the words of meaning.
use Rattle.std.specs.Prelude.{ℕ, ◌≤◌, ◌<◌, ◌≡◌, Bool, true, ◌↔◌, List, length}
use Rattle.paper.specs.Sheet.{Sheet, letter}
use Rattle.paper.specs.Satisfy.{Satisfies}
use Rattle.paper.specs.Open.{Open}
use Rattle.paper.specs.Order.{Before}
use Rattle.paper.specs.Walk.{count, walk}
use Rattle.paper.specs.Answers.{Report, written}

-- k prefixes are judged in the sheet's walk, each judged open exactly when it is `Open`: that leaves one judgement, and one k
pub record Counted (S : Sheet) (k : ℕ) : Type 0 where
  pub judge : ℕ → List ℕ → Bool
  pub right : (n : ℕ) (p : List ℕ) → (judge n p ≡ true) ↔ Open S n p
  pub trials : k ≡ count (walk (letter S) judge S.shortest S.longest)

-- a key of an allowed length satisfies all
abbrev pub SomeKey : Sheet → Type 0
SomeKey S = (w : List ℕ) × Satisfies S w

-- found: the word at the start of the output satisfies, and none that satisfies is shorter, or as long and lower; later output bytes stay
pub record FoundFirst (S : Sheet) (out out' : List ℕ) (r : Report) : Type 0 where
  pub word : List ℕ
  pub long : length word ≡ r.length
  pub bytes : out' ≡ written word out
  pub satisfies : Satisfies S word
  pub first : (u : List ℕ) → Satisfies S u → Before u word → ⊥

-- of a walk that needs k trials: spent exactly when those are more than the budget; else found, or none exactly when no key satisfies
pub record Answered (S : Sheet) (k budget : ℕ) (out out' : List ℕ) (r : Report) : Type 0 where
  pub spent : r.number ≡ 2 ↔ budget < k
  pub none : r.number ≡ 1 ↔ ((k ≤ budget) × (SomeKey S → ⊥))
  pub found : r.number ≡ 0 ↔ ((k ≤ budget) × SomeKey S)
  pub first : r.number ≡ 0 → FoundFirst S out out' r
  pub one_of_three : r.number ≤ 2
  -- "the trials it reports are that walk's, or the budget when spent"
  pub trials : r.number ≤ 1 → r.trials ≡ k
  pub budget_trials : r.number ≡ 2 → r.trials ≡ budget
  -- "budget 0 is always spent"
  pub zero_spent : budget ≡ 0 → r.number ≡ 2
  -- none and spent report length 0 and keep the output
  pub wordless : 0 < r.number → (r.length ≡ 0) × (out' ≡ out)
