-- What is said where the sheet is refused, where too little is lent, and where the search has ended.
use Prim.Native.Nat.{ℕ, ◌<◌, ◌≤◌}
use mathlib.Core.Path.{◌≡◌, refl, sym, ap, ◌∙◌}
use mathlib.Core.List.{List, ◌++◌}
use native.Mathlib.Omega.{arith}
use borrow.Author.Tests.{le-leb, lt-leb, eq-eqb, ne_eqb}
use lib.ListN.{length, drop, replicate}
use Rattle.paper.specs.Trailer.{longest}
use Rattle.paper.specs.Refusals as paper
use Rattle.paper.specs.Refusals.{plain, latest, refusal}
use Rattle.paper.specs.Sheet.{Sheet, sheet_of}
use Rattle.paper.specs.Answers.{Said, Found, None, Spent, Refused, out_after, work_after, words, zeroed, under, walk_of, solver_refusal, solver_says}
use Rattle.paper.specs.Promises.{says, Solves}
use Rattle.paper.proofs.Meaning.{Means, answer_means}
use Rattle.sheet.specs.declared.Fault.{Fault}
use Rattle.std.specs.Prelude.{Ok, Err}
use Rattle.sheet.specs.Told.{fault_of}
use Rattle.solver.specs.declared.Solved.{Solved}
use Rattle.solver.specs.Reported.{solved}

-- ---- the workspace is cleared

-- whatever is answered
means_zeroed : (S : Sheet) (budget : ℕ) (work : List ℕ) (x : Said) → Means S budget x → work_after x work ≡ zeroed words work
means_zeroed S budget work (Found w t) m = refl
means_zeroed S budget work (None t) m = refl
means_zeroed S budget work (Spent t) m = refl
means_zeroed S budget work (Refused n) m = absurd m

pub work_zeroed : (S : Sheet) (budget : ℕ) (work : List ℕ) → work_after (under budget (walk_of S)) work ≡ zeroed words work
work_zeroed S budget work = means_zeroed S budget work (under budget (walk_of S)) (answer_means S budget)

-- the words that were lent, cleared, before those behind them
pub cleared_same : (s : List ℕ) (budget : ℕ) (work cleared : List ℕ) → cleared ≡ replicate words 0 → cleared ++ drop 7564 work ≡ work_after (under budget (walk_of (sheet_of s))) work
unfolding zeroed words
cleared_same s budget work cleared e = ap (λ (v : List ℕ). v ++ drop 7564 work) e ∙ sym (work_zeroed (sheet_of s) budget work)

-- ---- refusals

module _ (s : List ℕ) (budget : ℕ) (work out : List ℕ) where
  -- a refusal as the promise words it
  pub refusing : (x : paper.Fault) (f : Fault) → says s budget work out ≡ Refused x → f ≡ fault_of x → Solves solved s budget work out (Err f) work out
  refusing x f e t = record { said = rw (e, t); cleared = rw e; wrote = rw e }

  -- an answer as the promise words it
  pub answering : (r : Solved) (work' out' : List ℕ) → let a = under budget (walk_of (sheet_of s)) in
      says s budget work out ≡ a → (Ok r ≡ solved a) × ((work' ≡ work_after a work) × (out' ≡ out_after a out)) → Solves solved s budget work out (Ok r) work' out'
  answering r work' out' e p = record { said = rw e p.0; cleared = rw e p.1.0; wrote = rw e p.1.1 }

  pub says_refused : 0 < (solver_refusal s (length work) (length out)).number → says s budget work out ≡ Refused (solver_refusal s (length work) (length out))
  unfolding solver_says
  says_refused h = rw (ne_eqb (solver_refusal s (length work) (length out)).number 0 (λ e. omega arith))

  pub says_sheet : ((refusal latest s).number ≡ 0 → ⊥) → says s budget work out ≡ Refused (refusal latest s)
  unfolding solver_says solver_refusal
  says_sheet h = rw (ne_eqb (refusal latest s).number 0 h, ne_eqb (refusal latest s).number 0 h)

  pub says_18 : (refusal latest s).number ≡ 0 → length work < 7564 → says s budget work out ≡ Refused (plain 18)
  unfolding solver_says solver_refusal words
  says_18 a h = rw (eq-eqb (refusal latest s).number 0 a, lt-leb 7564 (length work) h)

  pub says_19 : (refusal latest s).number ≡ 0 → 7564 ≤ length work → length out < longest s → says s budget work out ≡ Refused (plain 19)
  unfolding solver_says solver_refusal words
  says_19 a h l = rw (eq-eqb (refusal latest s).number 0 a, le-leb 7564 (length work) h, lt-leb (longest s) (length out) l)

  pub says_answer : (refusal latest s).number ≡ 0 → 7564 ≤ length work → longest s ≤ length out → says s budget work out ≡ under budget (walk_of (sheet_of s))
  unfolding solver_says solver_refusal words
  says_answer a h l = rw (eq-eqb (refusal latest s).number 0 a, le-leb 7564 (length work) h, le-leb (longest s) (length out) l)
