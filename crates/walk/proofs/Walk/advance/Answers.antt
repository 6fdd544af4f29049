use Prim.Native.Nat.{◌<◌}
use native.Mathlib.Omega.{arith}
use Rattle.walk.proofs.Frames.{frame_start}
use Rattle.walk.proofs.Advances.{adv_down, adv_stuck, adv_shut}
use Rattle.walk.proofs.Walk.advance.Goals as goal
use Rattle.walk.proofs.Walk.advance.Goals.{then-ok+in_default, else-ok}

pub returns-in-Some : goal.returns-in-Some
returns-in-Some c =
    let q = c.args.q in
    let h : q.prefix.len < c.args.n = c.requires.2 c.if-ok.true in
    rw (c.fresh.ensures, c.down.ensures, c.counted-p.ensures, c.if-ok.true)
    (adv_down _ _ c.args.budget c.args.n q _ (omega arith) (omega arith) _ (frame_start _ q (omega arith) (omega arith) (omega arith) (omega arith) c.requires.4) h (omega arith) c.in-Some.ensures)

pub returns : goal.returns
returns c =
    let o = rw c.counted-p.ensures at c.climb.ensures in
    elim c.if-ok.branch [
      | then-ok+in_default w ↦
          rw w.if-ok.true (adv_stuck _ _ c.args.budget c.args.n c.args.q _ (omega arith) (omega arith) _ _ (c.requires.2 w.if-ok.true) w.in_default.ensures o)
      | else-ok w ↦ rw w.if-ok.false (adv_shut _ _ c.args.budget c.args.n c.args.q _ (omega arith) (omega arith) _ _ o)
    ]
