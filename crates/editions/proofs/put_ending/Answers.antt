use Rattle.numbers.proofs.Stores.{put_more, put_same}
use Rattle.editions.proofs.put_ending.Goals as goal

pub returns : goal.returns
returns c = put_more c.put_u32-t.ensures.0 (put_same c.mark.ensures c.put_bytes.ensures)
