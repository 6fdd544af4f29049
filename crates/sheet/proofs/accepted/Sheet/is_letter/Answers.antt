use Rattle.sheet.proofs.accepted.Sheet.is_letter.Goals as goal

pub in_ranges-requires : goal.in_ranges-requires
in_ranges-requires c = (c.args.self.now.good, c.args.self.now.letters_at)
