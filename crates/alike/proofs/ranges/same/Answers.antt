use Prim.Native.Nat.{◌+◌, ◌-◌, ◌*◌}
use lib.ListN.{take, drop}
use Rattle.std.proofs.lemmas.Slice.Eq.{slice_eq-Decides}
use Rattle.std.proofs.lemmas.Bool.Decides.{Decides-eqb}
use Rattle.alike.proofs.Holding.{words_same}
use Rattle.alike.proofs.ranges.same.Goals as goal

pub returns : goal.returns
returns c e =
    let a = c.args in
    words_same _ _ _ ((slice_eq-Decides Decides-eqb (take (4 * a.b + 4 - 4 * a.b) (drop (4 * a.b) a.ws.now)) (take (4 * a.c + 4 - 4 * a.c) (drop (4 * a.c) a.ws.now)) _ c.eq.ensures).0 e)
