use lib.ListN.{length}
use native.Mathlib.Omega.{arith}
use mathlib.Core.Path.{◌≡◌, sym, ap, ◌∙◌, subst}
use Prim.Native.Nat.{◌<◌}
use Rattle.paper.proofs.WellFormed.{formed}
use Rattle.reading.proofs.Stages.{turn_none, turn_more, mark_at_lem, mark_head_lem}
use Rattle.list.proofs.Formed.{option_inside}
use Rattle.reading.specs.Marks.{mark_option}
use Rattle.list.specs.Read.{option_of}
use Rattle.paper.proofs.Obeys.{Obeys}
use Rattle.paper.specs.Gate.{option_count}
use Rattle.reading.proofs.Reading.mark_head.Goals as goal

pub loop-j-init : goal.loop-j-init
loop-j-init c = sym (turn_none _ _)

pub mark_option-requires : goal.mark_option-requires
mark_option-requires c =
    let a = c.args in
    let p = a.self.now in
    let w = p.formed in
    let z : c.loop-j.j < option_count p.list.now a.o = omega (arith, c.u32_at-count.ensures.0) in
    let t = (formed p.list.now (length p.text.now) w).trailer in
    (subst (λ x. Obeys (length p.text.now) 256 a.m x) (sym c.option_at-x.ensures) (option_inside _ _ w _ _ _ c.requires.0 c.requires.1 c.requires.2 _ z), omega (arith, p.fit), omega (arith, t.few))

pub loop-j-preserved : goal.loop-j-preserved
loop-j-preserved c =
    let a = c.args in
    let p = a.self.now in
    let t = c.mark_option in
    let l = c.loop-j in
    t.ensures ∙ ap (λ v. mark_option p.text.now p.word.now a.m a.r (option_of c.option_at-x.result) v) l.invariant ∙ mark_at_lem _ _ _ _ _ _ c.requires.2 _ _ _ c.option_at-x.ensures ∙ sym (turn_more _ _ _)

pub returns : goal.returns
returns c =
    let e : c.loop-j.j ≡ option_count c.args.self.now.list.now c.args.o = omega (arith, c.u32_at-count.ensures.0) in
    (omega (arith, c.u32_at-count.ensures.0), c.loop-j.invariant ∙ mark_head_lem _ _ _ _ _ _ c.requires.2 _ _ e)
