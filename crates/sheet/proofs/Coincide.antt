-- Two answers that the promise of `check` allows coincide.
-- Assumes nothing.
use Prim.Native.Nat.{ℕ}
use mathlib.Core.List.{List}
use mathlib.Core.Path.{◌≡◌, sym, ◌∙◌}
use Rattle.std.specs.Prelude.{Result}
use Rattle.paper.specs.Promises.{Checks}
use Rattle.sheet.specs.declared.Fault.{Fault}
use Rattle.sheet.specs.Told.{told}

pub coincide : (s : List ℕ) (f g : Result (Unit {0}) Fault) → Checks told s f → Checks told s g → f ≡ g
coincide s f g p q = p ∙ sym q
