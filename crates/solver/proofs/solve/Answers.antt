use mathlib.Core.Path.{◌≡◌, sym, ◌∙◌}
use mathlib.Core.List.{◌++◌}
use lib.ListN.{drop}
use native.Mathlib.Omega.{arith}
use Rattle.std.proofs.lemmas.List.{take-append-drop}
use Rattle.std.proofs.lemmas.Result.{err_from_is_err_and}
use Rattle.paper.specs.Trailer.{longest}
use Rattle.paper.specs.Refusals.{plain, latest, refusal}
use Rattle.sheet.specs.declared.Fault.TheVariants as case
use Rattle.sheet.proofs.Good.{good}
use Rattle.sheet.proofs.Telling.{told_ok, told_back, told_err, told_fault}
use Rattle.solver.proofs.Solving.{refusing, answering, cleared_same, says_sheet, says_18, says_19, says_answer}
use Rattle.solver.proofs.solve.Goals.{In_ok-check}
use Rattle.solver.proofs.solve.Goals as goal

-- no fault was found
none : (c : In_ok-check) → (refusal latest c.args.sheet.now).number ≡ 0
none c = told_ok _ (sym c.in_ok-check.was ∙ c.check.ensures)

pub of-accepted-requires : goal.of-accepted-requires
of-accepted-requires c = good latest c.args.sheet.now (omega arith) (none (goal.at.of-accepted-requires c).In_ok-check)

pub returns-in_err-check : goal.returns-in_err-check
returns-in_err-check c =
    let a = c.args in
    let f = sym c.in_err-check.was ∙ c.check.ensures in
    let p = err_from_is_err_and c.from_residual.result c.from_residual.ensures.1 in
    rw (p.1, p.2) (refusing _ _ _ _ _ _ (says_sheet a.sheet.now a.budget a.work.now a.out.now (told_err _ f)) (told_fault _ f))

pub returns-in_default : goal.returns-in_default
returns-in_default c =
    let a = c.args in
    refusing _ _ _ _ _ _ (says_18 a.sheet.now a.budget a.work.now a.out.now (none (goal.at.returns-in_default c).In_ok-check) c.in_default.ensures.cases) (told_fault (plain 18) (told_back case.Workspace))

pub returns-then-out-accepted : goal.returns-then-out-accepted
returns-then-out-accepted c =
    let a = c.args in
    let e = c.in-Some.ensures.cases in
    let long : c.of-accepted.result.longest ≡ longest a.sheet.now = rw (← c.of-accepted.ensures) c.of-accepted.result.longest_is in
    let same : c.in-Some.work.now ++ drop 7564 a.work.now ≡ a.work.now = rw e.same (take-append-drop 7564 a.work.now) in
    rw same (refusing _ _ _ _ _ _ (says_19 a.sheet.now a.budget a.work.now a.out.now (none (goal.at.returns-then-out-accepted c).In_ok-check) e.enough (omega (arith, c.if-out-accepted.true, long))) (told_fault (plain 19) (told_back case.Output)))

pub returns : goal.returns
returns c =
    let a = c.args in
    let e = c.in-Some.ensures.cases in
    let long : c.of-accepted.result.longest ≡ longest a.sheet.now = rw (← c.of-accepted.ensures) c.of-accepted.result.longest_is in
    let x = rw c.of-accepted.ensures at c.answer.ensures in
    let said = says_answer a.sheet.now a.budget a.work.now a.out.now (none (goal.at.returns c).In_ok-check) e.enough (omega (arith, c.if-out-accepted.false, long)) in
    answering _ _ _ _ _ _ _ said (x.said, (cleared_same a.sheet.now a.budget a.work.now _ x.cleared, x.wrote))
