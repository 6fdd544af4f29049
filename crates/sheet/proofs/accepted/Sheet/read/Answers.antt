use mathlib.Core.Path.{◌≡◌, sym, ◌∙◌}
use Rattle.paper.specs.Refusals.{refusal}
use Rattle.sheet.specs.Told.{taken}
use Rattle.sheet.proofs.Good.{good}
use Rattle.sheet.proofs.Telling.{told_ok}
use Rattle.sheet.proofs.accepted.Sheet.read.Goals.{In_ok-first_fault}
use Rattle.sheet.proofs.accepted.Sheet.read.Goals as goal

-- no fault was found
none : (c : In_ok-first_fault) → (refusal (taken c.args.takes) c.args.bytes.now).number ≡ 0
none c = told_ok _ (sym (c.in_ok-first_fault.was) ∙ c.first_fault.ensures)

pub of-requires : goal.of-requires
of-requires c = good (taken c.args.takes) c.args.bytes.now c.requires.1 (none (goal.at.of-requires c).In_ok-first_fault)

pub returns-clause-sheet : goal.returns-clause-sheet
returns-clause-sheet c = (c.of.ensures, none (goal.at.returns-clause-sheet c).In_ok-first_fault)
