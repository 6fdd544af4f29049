use Rattle.maker_options.proofs.Entries.{giving_is}
use Rattle.maker_options.proofs.ready.gives.Goals as goal

pub returns : goal.returns
returns c =
    let a = c.args in
    giving_is a.sheet.now.bytes.now a.m a.q _ _ c.row.ensures c.own_count.ensures
