use mathlib.Core.Path.{◌≡◌, ap, ◌∙◌}
use lib.ListN.{length, replicate}
use borrow.Author.Rules.{rules}
use native.Mathlib.Omega.{arith}
use Rattle.sheet.proofs.Rows.{rows_few, rows_all}
use Rattle.rows.proofs.ReachLaws.{started_none, reach_start, reach_end}
use Rattle.rows.proofs.reach.Goals as goal

pub start-requires : goal.start-requires
start-requires c =
    let long : length c.args.out.now ≡ 1024 = search rules in
    let zeros : c.fill.new.self ≡ replicate 1024 0 = c.fill.ensures.after (λ y h. h) ∙ ap (λ n. replicate n 0) long in
    (rows_few c.args.sheet.now.good c.args.sheet.now.rows_at, rw zeros (started_none 1024))

pub returns : goal.returns
returns c =
    let p = c.settle.ensures in
    let all = rows_all c.args.sheet.now.rows_at in
    reach_end _ _ (p.sound (reach_start _ _ all c.start.ensures)) (λ r h. p.rows r (omega (arith, h, all)))
