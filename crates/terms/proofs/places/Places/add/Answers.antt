use Prim.Native.Nat.{◌+◌, ◌-◌}
use mathlib.Core.Path.{◌≡◌}
use native.Mathlib.Omega.{arith}
use mathlib.Core.List.{append_assoc}
use lib.ListN.{length, take, drop}
use lib.Seq.{take-paste, take-length}
use Rattle.std.proofs.lemmas.List.{drop-drop}
use Rattle.terms.proofs.places.Places.add.Goals as goal

pub returns : goal.returns
returns c =
    let p = c.args.self.now in
    let s = c.args.more.now in
    let r = p.room in
    let l = p.long in
    let z : p.len + length s - p.len ≡ length s = omega arith in
    rw (z, c.copy_from_slice.ensures.after, drop-drop (length s) p.len p.of, ← append_assoc (take p.len p.of) s (drop (p.len + length s) p.of))
    (rw (take-length s) at (take-paste p.of p.len s (length s) (omega arith) (omega arith)))
