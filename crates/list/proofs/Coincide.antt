-- Two answers that the promise of `well_formed` allows coincide.
-- Assumes nothing.
use Prim.Native.Nat.{ℕ}
use mathlib.Core.Path.{◌≡◌, sym, ◌∙◌}
use mathlib.Core.Bool.{Bool}
use mathlib.Core.List.{List}
use Rattle.paper.specs.Promises.{Admits}

pub coincide : (list : List ℕ) (text : ℕ) (r q : Bool) → Admits list text r → Admits list text q → r ≡ q
coincide list text r q a b = a ∙ sym b
