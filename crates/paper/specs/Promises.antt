-- What each call promises, on any arguments: its answer, and the final contents of everything lent to it that it may write.
-- A call's contract cites its promise by name, and the theorems about the call cite the same name.
use Rattle.std.specs.Prelude.{ℕ, ◌≡◌, Bool, List, length}
use Rattle.paper.specs.Refusals.{Fault, latest, refusal}
use Rattle.paper.specs.Gate.{well_formed}
use Rattle.paper.specs.Editions.{Move, move_says, move_leaves}
use Rattle.paper.specs.Answers.{Said, out_after, work_after, solver_says, WriteReport, maker_says, space_after, gate_says, gate_leaves}

-- the check of a sheet: its first fault, or none
abbrev pub Checks : {A : Type 0} → (tell : Fault → A) (sheet : List ℕ) → A → Type 0
Checks tell sheet r = r ≡ tell (refusal latest sheet)

-- what is to be said of a sheet and a budget, lent this workspace and this output
abbrev pub says : (sheet : List ℕ) (budget : ℕ) (work out : List ℕ) → Said
says sheet budget work out = solver_says sheet budget (length work) (length out)

-- the solver: its answer, by whatever type tells what is said, the workspace after the call, and the output after it
pub record Solves {A : Type 0} (tell : Said → A) (sheet : List ℕ) (budget : ℕ) (work out : List ℕ) (r : A) (work' out' : List ℕ) : Type 0 where
  pub said : r ≡ tell (says sheet budget work out)
  pub cleared : work' ≡ work_after (says sheet budget work out) work
  pub wrote : out' ≡ out_after (says sheet budget work out) out

-- the maker: its answer, by whatever type tells what is reported, and the space after the call
pub record Makes {A : Type 0} (tell : WriteReport → A) (sheet : List ℕ) (row n : ℕ) (space : List ℕ) (r : A) (space' : List ℕ) : Type 0 where
  pub said : r ≡ tell (maker_says sheet row n (length space))
  pub wrote : space' ≡ space_after sheet row n space

-- a move between editions: its answer, and the space after the call
pub record Moves {A : Type 0} (tell : WriteReport → A) (m : Move) (sheet space : List ℕ) (r : A) (space' : List ℕ) : Type 0 where
  pub said : r ≡ tell (move_says m sheet (length space))
  pub wrote : space' ≡ move_leaves m sheet space

-- the test of a list: whether it is well formed with a text of so many bytes
abbrev pub Admits : (list : List ℕ) (text : ℕ) (r : Bool) → Type 0
Admits list text r = r ≡ well_formed list text

-- the gate: its number, and the workspace after the call
pub record Gates (list text word work : List ℕ) (number : ℕ) (work' : List ℕ) : Type 0 where
  pub said : number ≡ gate_says list text word (length work)
  pub left : work' ≡ gate_leaves number work
