use Prim.Native.Nat.{◌<◌}
use mathlib.Core.Path.{sym, ap, subst, ◌∙◌}
use Rattle.paper.specs.Answers.{Report}
use Rattle.solver.specs.Reported.{reported}
use Rattle.solver.proofs.Coincide.{reports}
use Rattle.strovimel_c.specs.Structs.{struct_of}
use Rattle.strovimel_c.proofs.Fits.{word_fits}
use Rattle.strovimel_c.proofs.strovimel_solve.Goals as goal

pub tell_solved-requires : goal.tell_solved-requires
tell_solved-requires c =
    let a = c.args in
    subst (λ (r : Report). r.length < 4294967296) (sym (ap reported c.solve.ensures.said ∙ reports _ _ _ _)) (word_fits a.sheet.now a.budget a.work.now a.out.now)

pub returns : goal.returns
returns c =
    let p = c.solve.ensures in
    let a = c.args in
    record { said = ap struct_of (c.tell_solved.ensures ∙ ap reported p.said ∙ reports _ _ _ _); cleared = p.cleared; wrote = p.wrote }
