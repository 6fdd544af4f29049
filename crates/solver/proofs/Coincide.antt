-- Two results that the solver's promise allows coincide.
-- Assumes nothing.
use Prim.Native.Nat.{ℕ}
use mathlib.Core.Path.{◌≡◌, refl}
use mathlib.Core.Logic.{◌⊎◌, inl, inr}
use mathlib.Core.Bool.{true, false}
use mathlib.Core.List.{List}
use lib.Dec.{eqb}
use lib.ListN.{length}
use borrow.Author.Tests.{eqb-false}
use Rattle.std.specs.Prelude.{Result}
use Rattle.paper.specs.Sheet.{Sheet, sheet_of}
use Rattle.paper.specs.Answers as paper
use Rattle.paper.specs.Answers.{Said, report_of, under, walk_of, solver_refusal, solver_says}
use Rattle.paper.specs.Promises.{says, Solves}
use Rattle.paper.proofs.Tests.{true_or_false}
use Rattle.paper.proofs.Coincide.{solves_coincide}
use Rattle.paper.proofs.Meaning.{Means, answer_means}
use Rattle.sheet.specs.declared.Fault.{Fault}
use Rattle.sheet.proofs.Telling.{fault_known, solver_known}
use Rattle.solver.specs.declared.Solved.{Solved}
use Rattle.solver.specs.Reported.{solved, reported}

pub coincide : (sheet : List ℕ) (budget : ℕ) (work out : List ℕ) (r q : Result Solved Fault) (work' work'' out' out'' : List ℕ)
    → Solves solved sheet budget work out r work' out' → Solves solved sheet budget work out q work'' out'' → (r ≡ q) × (work' ≡ work'') × (out' ≡ out'')
coincide = solves_coincide solved

-- what a walk comes to is no refusal
walked : (S : Sheet) (budget : ℕ) (a : Said) → Means S budget a → reported (solved a) ≡ report_of a
walked S budget (paper.Found w t) m = refl
walked S budget (paper.None t) m = refl
walked S budget (paper.Spent b) m = refl
walked S budget (paper.Refused f) m = absurd m

-- an answer reports what is said
pub reports : (sheet : List ℕ) (budget : ℕ) (work out : List ℕ) → reported (solved (says sheet budget work out)) ≡ report_of (says sheet budget work out)
unfolding solver_says
reports sheet budget work out = go (true_or_false (eqb (solver_refusal sheet (length work) (length out)).number 0))
  where
    go : (eqb (solver_refusal sheet (length work) (length out)).number 0 ≡ true) ⊎ (eqb (solver_refusal sheet (length work) (length out)).number 0 ≡ false)
        → reported (solved (says sheet budget work out)) ≡ report_of (says sheet budget work out)
    go (inl t) = rw t (walked (sheet_of sheet) budget (under budget (walk_of (sheet_of sheet))) (answer_means (sheet_of sheet) budget))
    go (inr t) = rw (t, fault_known _ (solver_known sheet (length work) (length out)) (eqb-false _ _ t))
