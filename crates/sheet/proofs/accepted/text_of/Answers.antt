use native.Mathlib.Nat.{add-sub_cancel_left}
use Rattle.paper.specs.Sheet.{text_of}
use Rattle.sheet.proofs.accepted.text_of.Goals as goal

pub returns : goal.returns
unfolding text_of
returns c = rw (add-sub_cancel_left, ← c.table_of-at.ensures.0.begins, ← c.table_of-at.ensures.0.counts)
