use Rattle.paper.specs.Bytes.{u16, u32}
use Rattle.numbers.proofs.Stores.{put_more}
use Rattle.maker.specs.Trailer.{ending_bytes}
use Rattle.maker.proofs.put_ending.Goals as goal

pub returns : goal.returns
unfolding u16 u32 ending_bytes
returns c =
    let rows = put_more c.put_u16-p.ensures.0 c.put_u16-p-2.ensures.0 in
    let n = put_more rows c.put_bytes-p.ensures in
    let total = put_more n c.put_u32-p.ensures.0 in
    put_more total c.put_bytes.ensures
