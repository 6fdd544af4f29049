use Rattle.rows.specs.Passes.{Turns}
use Rattle.rows.proofs.pass.Given as goal

-- j rows have had their turn
abbrev pub invariant-loop-j : goal.invariant-loop-j
invariant-loop-j g l = let rule = g.R.Rule in Turns (rule.sound l.rule) (rule.settled l.rule) l.down l.n l.j l.new l.initial.out l.out
