use Rattle.paper.specs.Bytes.{u16}
use Rattle.paper.specs.Cuts.{head_bytes}
use Rattle.numbers.proofs.Stores.{put_more}
use Rattle.maker_groups.proofs.bytes.put_head.Goals as goal

pub returns : goal.returns
unfolding u16 head_bytes
returns c = put_more (put_more c.put_u16-p.ensures.0 c.put_bytes-p.ensures) c.put_u32.ensures.0
