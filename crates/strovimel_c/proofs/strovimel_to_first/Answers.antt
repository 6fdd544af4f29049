use Prim.Native.Nat.{◌<◌}
use mathlib.Core.Path.{sym, ap, subst, ◌∙◌}
use Rattle.paper.specs.Answers.{WriteReport}
use Rattle.paper.specs.Editions.{ToFirst}
use Rattle.sheet.specs.Told.{reported}
use Rattle.editions.proofs.Coincide.{moves}
use Rattle.strovimel_c.specs.Structs.{made_of}
use Rattle.strovimel_c.proofs.Fits.{sheet_fits}
use Rattle.strovimel_c.proofs.strovimel_to_first.Goals as goal

pub tell_made-requires : goal.tell_made-requires
tell_made-requires c = subst (λ (r : WriteReport). r.length < 4294967296) (sym (ap reported c.to_first.ensures.said ∙ moves ToFirst _ _)) (sheet_fits ToFirst _ _)

pub returns : goal.returns
returns c =
    let p = c.to_first.ensures in
    record { said = ap made_of (c.tell_made.ensures ∙ ap reported p.said ∙ moves ToFirst _ _); wrote = p.wrote }
