use mathlib.Core.Path.{◌≡◌, sym, ◌∙◌}
use native.Mathlib.Omega.{arith}
use Rattle.std.proofs.lemmas.Result.{err_from_is_err_and}
use Rattle.paper.specs.Trailer.{count_of}
use Rattle.paper.specs.Refusals.{plain, refusal, latest, Accepted}
use Rattle.sheet.specs.declared.Fault.TheVariants as case
use Rattle.sheet.proofs.Good.{good}
use Rattle.sheet.proofs.Telling.{told_ok, told_err, told_back}
use Rattle.maker.proofs.Answers.{refused_sheet, refused_row, refused_length, answer_refused}
use Rattle.maker.proofs.make.Goals.{In_ok-check}
use Rattle.maker.proofs.make.Goals as goal

-- no fault was found
accepted : (p : In_ok-check) → Accepted p.args.s.now
accepted p = told_ok _ (sym p.in_ok-check.was ∙ p.check.ensures)

pub of-sheet-requires : goal.of-sheet-requires
of-sheet-requires c = good latest c.args.s.now (omega arith) (accepted (goal.at.of-sheet-requires c).In_ok-check)

pub returns-in_err-check : goal.returns-in_err-check
returns-in_err-check c =
    let a = c.args in
    let x = refusal latest a.s.now in
    let told = sym c.in_err-check.was ∙ c.check.ensures in
    let p = err_from_is_err_and c.from_residual.result c.from_residual.ensures.1 in
    rw (p.1, p.2) (answer_refused a.s.now a.row a.n a.list.now x (refused_sheet a.s.now a.row a.n _ (told_err x told)) told)

pub returns-then-row-sheet : goal.returns-then-row-sheet
returns-then-row-sheet c =
    let a = c.args in
    let p = (goal.at.returns-then-row-sheet c).In_ok-check in
    let counted : c.of-sheet.result.rows.count ≡ count_of a.s.now 2 = rw c.of-sheet.ensures at c.of-sheet.result.rows_at.counts in
    answer_refused a.s.now a.row a.n a.list.now (plain 20) (refused_row a.s.now a.row a.n _ (accepted p) (omega (arith, counted))) (told_back case.Row)

pub returns-then-n-gt60 : goal.returns-then-n-gt60
returns-then-n-gt60 c =
    let a = c.args in
    let p = (goal.at.returns-then-n-gt60 c).In_ok-check in
    let counted : c.of-sheet.result.rows.count ≡ count_of a.s.now 2 = rw c.of-sheet.ensures at c.of-sheet.result.rows_at.counts in
    answer_refused a.s.now a.row a.n a.list.now (plain 21) (refused_length a.s.now a.row a.n _ (accepted p) (omega (arith, counted)) (omega arith)) (told_back case.Length)

pub planned-requires : goal.planned-requires
planned-requires c = (rw c.of-sheet.ensures (accepted (goal.at.planned-requires c).In_ok-check), omega arith, omega arith)

pub returns : goal.returns
returns c = rw c.of-sheet.ensures at c.planned.ensures
