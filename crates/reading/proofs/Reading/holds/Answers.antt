use native.Mathlib.Nat.{add-sub_cancel_left}
use native.Mathlib.Omega.{arith}
use mathlib.Core.Path.{subst}
use Prim.Native.Nat.{◌+◌, ◌≤◌}
use lib.ListN.{length}
use borrow.Author.Rules.{rules}
use Rattle.std.proofs.Common.{tests}
use Rattle.list.specs.Read.{option_of}
use Rattle.paper.proofs.Obeys.{Obeys}
use Rattle.reading.proofs.Holding.{holds_byte_lem, holds_stretch}
use Rattle.reading.proofs.Reading.holds.Goals as goal

pub returns-in-Byte : goal.returns-in-Byte
returns-in-Byte c = rw (c.in-Byte.is, holds_byte_lem) (search (rules, tests))

pub returns-in-Stretch : goal.returns-in-Stretch
returns-in-Stretch c =
    let a = c.args in
    let s = c.in-Stretch in
    let o = subst (λ z. Obeys (length a.self.now.text.now) 256 a.m (option_of z)) s.is c.requires.0 in
    let l : a.i + s.b ≤ length a.self.now.word.now = omega (arith, o.0) in
    rw (s.is, holds_stretch _ _ _ _ _ _ _ o.2 l) (simp add-sub_cancel_left at c.eq.ensures)
