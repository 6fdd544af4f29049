use Prim.Native.Nat.{ℕ}
use mathlib.Core.Path.{ap}
use mathlib.Core.List.{◌++◌}
use native.Mathlib.Omega.{arith}
use Rattle.paper.specs.Cuts.{options, all_bytes, head_bytes, entry}
use Rattle.paper.proofs.Encoding.{length_head, length_entry}
use Rattle.maker_options.specs.Planned.{grammar}
use Rattle.numbers.proofs.Stores.{put_more, put_same}
use Rattle.maker_groups.proofs.put_entry.Goals as goal

pub put_head-p-requires : goal.put_head-p-requires
put_head-p-requires c =
    let a = c.args in
    omega (arith, length_entry (grammar a.plan.now) a.m a.r)

pub put_options-requires : goal.put_options-requires
put_options-requires c =
    let a = c.args in
    let p = c.requires in
    let long = length_entry (grammar a.plan.now) a.m a.r in
    let head = length_head a.r a.m c.option_count-count.result in
    (p.0, p.1, omega (arith, long, head, c.put_head-p.ensures.stop))

pub returns : goal.returns
unfolding entry
returns c =
    let a = c.args in
    let os = options (grammar a.plan.now) a.m a.r in
    put_same (ap (λ (z : ℕ). head_bytes a.r a.m z ++ all_bytes os) c.option_count-count.ensures) (put_more c.put_head-p.ensures c.put_options.ensures)
