use mathlib.Core.Path.{sym, ◌∙◌}
use Rattle.groundwork.proofs.ByKind.{letters_some, letters_none}
use native.Mathlib.Omega.{arith}
use Rattle.groundwork.proofs.letter_in.Goals as goal

pub returns-then-is_letter : goal.returns-then-is_letter
returns-then-is_letter c = letters_some _ _ _ c.loop-b.b (omega arith) (omega arith) (sym c.if-is_letter.true ∙ c.is_letter.ensures)

pub returns : goal.returns
returns c = letters_none _ _ _ (λ k l h. c.loop-b.invariant k l (omega arith))
