use Prim.Native.Nat.{ℕ, ◌+◌, ◌-◌, min}
use mathlib.Core.Path.{◌≡◌, sym, ap, ◌∙◌}
use mathlib.Core.List.{List, ◌++◌, append-nil}
use native.Mathlib.Omega.{arith}
use Rattle.std.specs.Prelude.{Option}
use Rattle.terms.specs.Shown.{placed}
use Rattle.terms.proofs.Showing.{cut_ends}
use Rattle.terms.proofs.places.Places.add_cut.Goals as goal

pub returns-then-a-e : goal.returns-then-a-e
returns-then-a-e c =
    let s = c.args in
    rw c.min-e.ensures at c.add.ensures ∙ ap (λ (t : List (Option ℕ)). placed s.self.now ++ t) (cut_ends s.a s.b s.v.now.len s.v.now.of)

pub returns-else-a-e : goal.returns-else-a-e
returns-else-a-e c =
    let s = c.args in
    let z : min s.v.now.len (s.a + s.b) - s.a ≡ 0 = omega arith in
    sym (append-nil (placed s.self.now)) ∙ ap (λ (t : List (Option ℕ)). placed s.self.now ++ t) (rw z at (cut_ends s.a s.b s.v.now.len s.v.now.of))
