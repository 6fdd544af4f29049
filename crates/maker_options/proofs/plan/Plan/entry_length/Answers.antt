use native.Mathlib.Omega.{arith}
use Rattle.paper.proofs.Encoding.{length_entry}
use Rattle.maker_options.specs.Planned.{grammar}
use Rattle.maker_options.proofs.Turns.{options_bound}
use Rattle.maker_options.proofs.plan.Plan.entry_length.Goals as goal

pub overflow_mul-result : goal.overflow_mul-result
overflow_mul-result c = omega (arith, options_bound c.args.self.now c.args.m c.args.r c.requires.0, c.option_count.ensures)

pub overflow_add-result : goal.overflow_add-result
overflow_add-result c = omega (arith, options_bound c.args.self.now c.args.m c.args.r c.requires.0, c.option_count.ensures)

pub returns : goal.returns
returns c = omega (arith, length_entry (grammar c.args.self.now) c.args.m c.args.r, c.option_count.ensures)
