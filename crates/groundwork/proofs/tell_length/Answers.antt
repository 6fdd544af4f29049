use Rattle.groundwork.proofs.ByKind.{told_text}
use Rattle.groundwork.proofs.tell_length.Goals as goal

pub returns-in-Text : goal.returns-in-Text
returns-in-Text c = rw c.in-Text.is (told_text _ _ _ c.if-len-le60.true)
