use mathlib.Core.Path.{sym, ◌∙◌}
use Rattle.judge.proofs.Holding.{keeps_on}
use Rattle.judge.proofs.Judging.{outside_first, outside_second, inside_both}
use Rattle.judge.proofs.possible.Goals as goal
use Rattle.judge.proofs.possible.Goals.{then-not-inside-via-then-not-inside, then-not-inside-via-else-not-inside+then-not-inside-2}

pub returns-then-not-inside : goal.returns-then-not-inside
returns-then-not-inside c =
    record {
      right = elim c.then-not-inside.branch [
        | then-not-inside-via-then-not-inside w ↦ outside_first _ _ _ c.second_run-second.ensures _ _ (sym w.if-not-inside.true ∙ c.inside.ensures)
        | then-not-inside-via-else-not-inside+then-not-inside-2 w ↦ outside_second _ _ _ c.second_run-second.ensures _ _ (sym w.if-not-inside.false ∙ c.inside.ensures) (sym w.if-not-inside-2.true ∙ w.inside-else-not-inside.ensures)
      ];
      keeps = c.requires.2;
    }

pub returns : goal.returns
returns c =
    let x = c.can_be.ensures in
    let t = c.term-p.ensures in
    let first = sym c.if-not-inside.false ∙ c.inside.ensures in
    let second = sym c.if-not-inside-2.false ∙ c.inside-else-not-inside.ensures in
    record {
      right = inside_both _ _ _ c.second_run-second.ensures _ _ _ _ _ first second t c.term-q.ensures x.0;
      keeps = keeps_on _ _ _ _ t _ _ c.requires.2 _ _ x.1;
    }
