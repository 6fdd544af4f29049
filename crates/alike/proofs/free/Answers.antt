use Rattle.alike.proofs.Giving.{text_free}
use Rattle.alike.proofs.free.Goals as goal

pub returns : goal.returns
returns c = text_free _ _ _ _ c.args.sheet.now.text_is c.letters.ensures c.without.ensures
