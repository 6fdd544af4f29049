use mathlib.Core.Path.{ap, ◌∙◌}
use Rattle.paper.proofs.WellFormed.{formed}
use Rattle.list.proofs.Formed.{right_trailer}
use Rattle.reading.proofs.Stages.{marked_reads}
use Rattle.reading.specs.Marks.{marked}
use Rattle.reading.proofs.read.Goals as goal

pub trailer_of-t-requires : goal.trailer_of-t-requires
trailer_of-t-requires c = right_trailer _ _ c.requires.formed

pub returns : goal.returns
returns c =
    let a = c.args in
    let p = c.requires in
    let f = formed _ _ p.formed in
    let e = c.mark_groups.ensures ∙ ap (λ v. marked a.list.now a.text.now a.word.now v) c.clear.ensures in
    (c.test-yes.ensures ∙ marked_reads _ _ _ f p.fit _ e _ _ c.span.ensures.0 c.trailer_of-t.ensures.root_is, c.clear-2.ensures)
