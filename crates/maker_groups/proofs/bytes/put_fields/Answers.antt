use Rattle.paper.specs.Bytes.{u16}
use Rattle.numbers.proofs.Stores.{put_more}
use Rattle.maker_groups.specs.Parts.{field_bytes}
use Rattle.maker_groups.proofs.bytes.put_fields.Goals as goal

pub returns : goal.returns
unfolding u16 field_bytes
returns c = put_more (put_more (put_more c.put_bytes-p.ensures c.put_u16-p.ensures.0) c.put_u16-p-2.ensures.0) c.put_u16.ensures.0
