use Rattle.paper.specs.Trailer.{count_of}
use Rattle.paper.proofs.Sound.{SoundAssertion}
use Rattle.sheet_contents.specs.Read.{as_assertion}
use Rattle.sheet_records.proofs.Kept.{assertion_sound}
use Rattle.sheet_records.proofs.tables.Tables.assert_fits.Goals.{After-assertion_at-a}
use Rattle.sheet_records.proofs.tables.Tables.assert_fits.Goals as goal

-- the assertion read is sound
sound : (c : After-assertion_at-a) → SoundAssertion (count_of c.args.self.now.trailer.sheet.now 1) (count_of c.args.self.now.trailer.sheet.now 2) (count_of c.args.self.now.trailer.sheet.now 3) (as_assertion c.assertion_at-a.result)
sound c = rw c.assertion_at-a.ensures (assertion_sound _ _ c.requires.1)

pub term_fits-requires : goal.term_fits-requires
term_fits-requires c = (sound (goal.at.term_fits-requires c).After-assertion_at-a).run

pub term_fits-requires-then-term_fits : goal.term_fits-requires-then-term_fits
term_fits-requires-then-term_fits c =
    let e = c.second_run.ensures in
    rw (← e) at (sound (goal.at.term_fits-requires-then-term_fits c).After-assertion_at-a).second
