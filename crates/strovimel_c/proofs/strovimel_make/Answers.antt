use Prim.Native.Nat.{◌<◌}
use mathlib.Core.Path.{sym, ap, subst, ◌∙◌}
use Rattle.paper.specs.Answers.{WriteReport}
use Rattle.sheet.specs.Told.{reported}
use Rattle.maker.proofs.Coincide.{makes}
use Rattle.strovimel_c.specs.Structs.{made_of}
use Rattle.strovimel_c.proofs.Fits.{list_fits}
use Rattle.strovimel_c.proofs.strovimel_make.Goals as goal

pub tell_made-requires : goal.tell_made-requires
tell_made-requires c = subst (λ (r : WriteReport). r.length < 4294967296) (sym (ap reported c.make.ensures.said ∙ makes _ _ _ _)) (list_fits _ _ _ _)

pub returns : goal.returns
returns c =
    let p = c.make.ensures in
    record { said = ap made_of (c.tell_made.ensures ∙ ap reported p.said ∙ makes _ _ _ _); wrote = p.wrote }
