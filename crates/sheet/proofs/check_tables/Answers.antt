use mathlib.Core.Path.{sym, ◌∙◌}
use Rattle.sheet.proofs.Good.{laid}
use Rattle.sheet.proofs.check_tables.Goals as goal

pub invariant_of-check_content : goal.invariant_of-check_content
invariant_of-check_content c =
    record { laid = laid _ c.args.trailer.now.trailed c.in_default.ensures (sym c.lengths_ok.ensures ∙ c.if-not-lengths_ok.false) (sym c.offsets_ok.ensures ∙ c.if-not-offsets_ok.false) }
