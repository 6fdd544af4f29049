use mathlib.Core.Path.{◌≡◌, sym, ◌∙◌}
use native.Mathlib.Omega.{arith}
use Rattle.std.proofs.lemmas.Result.{err_from_is_err_and}
use Rattle.paper.specs.Rules.{no_rule}
use Rattle.paper.specs.Trailer.{rules_of}
use Rattle.paper.specs.Refusals.{refusal}
use Rattle.paper.specs.Editions.{from, only}
use Rattle.editions.specs.Puts.{moving}
use Rattle.editions.proofs.Answers.{to_known, refuses_sheet, refuses_rule, moves_put}
use Rattle.editions.proofs.to_edition.Goals.{In_ok-accepted, After-no_rule}
use Rattle.editions.proofs.to_edition.Goals as goal

pub returns-in_err-accepted : goal.returns-in_err-accepted
returns-in_err-accepted c =
    let p = err_from_is_err_and c.from_residual.result c.from_residual.ensures.1 in
    rw (p.1, p.2) (refuses_sheet (moving c.args.wanted) c.args.sheet.now c.args.out.now _ (rw c.requires.0 at c.in_err-accepted.ensures.fault))

-- no fault was found
accepted : (c : In_ok-accepted) → (refusal (only (from (moving c.args.wanted))) c.args.sheet.now).number ≡ 0
accepted c = rw c.requires.0 at c.in_ok-accepted.ensures.sheet.1

-- the rules are those of the bytes given
rules : (c : After-no_rule) → c.no_rule.result ≡ no_rule (rules_of c.args.sheet.now)
rules c = rw (c.trailer.ensures, c.in_ok-accepted.ensures.sheet.0) at c.no_rule.ensures

pub returns-then-not-no_rule : goal.returns-then-not-no_rule
returns-then-not-no_rule c = refuses_rule (moving c.args.wanted) c.args.sheet.now c.args.out.now (accepted (goal.at.returns-then-not-no_rule c).In_ok-accepted) (sym (rules (goal.at.returns-then-not-no_rule c).After-no_rule) ∙ c.if-not-no_rule.true)

pub put-requires : goal.put-requires
put-requires c =
    let k = to_known (moving c.args.wanted) in
    (omega (arith, k, c.requires.1), omega (arith, k, c.requires.1))

pub returns : goal.returns
returns c = moves_put (moving c.args.wanted) c.args.sheet.now c.args.out.now _ _ (accepted (goal.at.returns c).In_ok-accepted) (sym (rules (goal.at.returns c).After-no_rule) ∙ c.if-not-no_rule.false) (rw c.in_ok-accepted.ensures.sheet.0 at (rw c.requires.1 at c.put.ensures))
