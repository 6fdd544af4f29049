use mathlib.Core.Path.{sym, ◌∙◌}
use mathlib.Core.Bool.{true≢false}
use Rattle.judge.proofs.Holding.{asked_none, asked_left}
use Rattle.judge.proofs.Judging.{can_asserted, can_unknown, can_unknown_2, can_denied}
use Rattle.judge.proofs.can_be.Goals as goal
use Rattle.judge.proofs.can_be.Goals.{then-some_unknown, else-some_unknown, else-a-via-then-a+else-some_unknown-2, else-a-via-else-a}

pub returns-then-some_unknown-2 : goal.returns-then-some_unknown-2
returns-then-some_unknown-2 c = (
  elim c.if-some_unknown.branch [
    | then-some_unknown w ↦ can_unknown _ _ _ _ c.if-a.true (sym w.if-some_unknown.true ∙ c.some_unknown.ensures)
    | else-some_unknown w ↦ can_unknown_2 _ _ _ _ c.if-a.true (sym w.if-some_unknown.false ∙ c.some_unknown.ensures) (sym c.if-some_unknown-2.true ∙ w.value-is ∙ w.some_unknown-else-some_unknown.ensures)
  ],
  asked_none _ _ _ _ _,
)

pub returns : goal.returns
returns c =
    let x = c.can_hold.ensures in (
      elim c.else-a.branch [
        | else-a-via-then-a+else-some_unknown-2 w ↦ elim w.if-some_unknown.branch [
          | then-some_unknown v ↦ absurd (true≢false (sym v.if-some_unknown.true ∙ sym v.value-is ∙ w.if-some_unknown-2.false))
          | else-some_unknown v ↦ can_denied _ _ _ _ _ w.if-a.true (sym v.if-some_unknown.false ∙ w.some_unknown.ensures) (sym w.if-some_unknown-2.false ∙ v.value-is ∙ v.some_unknown-else-some_unknown.ensures) x.0
        ]
        | else-a-via-else-a w ↦ can_asserted _ _ _ _ _ w.if-a.false x.0
      ],
      asked_left _ _ _ _ _ _ _ _ x.1,
    )
