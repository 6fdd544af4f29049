-- The word found has at most 60 bytes.
-- Assumes nothing.
use Prim.Native.Nat.{ℕ, ◌≤◌}
use mathlib.Core.Path.{◌≡◌, refl, ap, ◌∙◌}
use mathlib.Core.Bool.{Bool, true, false}
use mathlib.Core.List.{List}
use native.Mathlib.Omega.{arith}
use lib.Dec.{eqb}
use lib.ListN.{length}
use Rattle.std.specs.Prelude.{Result, Ok}
use Rattle.paper.specs.Trailer.{longest}
use Rattle.paper.specs.Refusals.{latest, refusal}
use Rattle.paper.specs.Sheet.{sheet_of}
use Rattle.paper.specs.Answers as paper
use Rattle.paper.specs.Answers.{Said, Report, report_of, whether, under, walk_of, solver_refusal, solver_says}
use Rattle.paper.specs.Promises.{says, Solves}
use Rattle.paper.proofs.Meaning.{Means, answer_means}
use Rattle.workspace.proofs.Spans.{lt_or_le}
use Rattle.sheet.specs.declared.Fault.{Fault}
use Rattle.sheet.proofs.Good.{good}
use Rattle.solver.specs.declared.Solved.{Solved}
use Rattle.solver.specs.declared.Solved.TheVariants.{Found}
use Rattle.solver.specs.Reported.{solved, reported}
use Rattle.solver.proofs.Solving.{says_sheet}
use Rattle.solver.proofs.Coincide.{reports}

longest_is : (s : List ℕ) → longest s ≡ (sheet_of s).longest
unfolding sheet_of
longest_is s = refl

-- a key that satisfies is no longer than the longest length
word_short : (s : List ℕ) (budget : ℕ) (x : Said) → Means (sheet_of s) budget x → (report_of x).length ≤ longest s
word_short s budget (paper.Found w t) m = omega (arith, m.0.most, longest_is s)
word_short s budget (paper.None t) m = omega arith
word_short s budget (paper.Spent t) m = omega arith
word_short s budget (paper.Refused n) m = absurd m

module _ (s : List ℕ) (budget : ℕ) (work out : List ℕ) where
  pub word_most : (report_of (says s budget work out)).length ≤ 60
  unfolding solver_says
  word_most =
      lt_or_le 0 (refusal latest s).number (λ h. rw (says_sheet s budget work out (λ z. omega arith)) (omega arith))
      (λ h. either (eqb (solver_refusal s (length work) (length out)).number 0) (omega (arith, h)))
    where
      either : (b : Bool) → (refusal latest s).number ≡ 0 → (report_of (whether b (under budget (walk_of (sheet_of s))) (paper.Refused (solver_refusal s (length work) (length out))))).length ≤ 60
      either true e = omega (arith, word_short s budget (under budget (walk_of (sheet_of s))) (answer_means (sheet_of s) budget), (good latest s (omega arith) e).short)
      either false e = omega arith

  -- so the code's answer says
  pub found_short : (length trials : ℕ) (work' out' : List ℕ) → Solves solved s budget work out (Ok (Found length trials)) work' out' → length ≤ 60
  found_short length trials work' out' p =
      omega (arith, word_most, ap (λ (r : Result Solved Fault). (reported r).length) p.said ∙ ap (λ (r : Report). r.length) (reports s budget work out))
