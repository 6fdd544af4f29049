use mathlib.Core.Path.{◌∙◌}
use native.Mathlib.Omega.{arith}
use Rattle.maker_options.proofs.Turns.{plan_few}
use Rattle.maker_options.proofs.plan.Plan.is_nullable.Goals as goal

pub test-requires : goal.test-requires
test-requires c = (omega arith, omega (arith, plan_few c.args.self.now))

pub returns : goal.returns
returns c = c.test.ensures ∙ c.args.self.now.ready.nil c.args.r
