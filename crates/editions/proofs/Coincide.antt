-- Two results that the promise of a move allows coincide.
-- Assumes nothing.
use Prim.Native.Nat.{ℕ}
use mathlib.Core.Path.{◌≡◌}
use mathlib.Core.List.{List}
use Rattle.std.specs.Prelude.{Result}
use Rattle.paper.specs.Editions.{Move, to, in_edition, move_refusal, move_says}
use Rattle.paper.specs.Promises.{Moves}
use Rattle.paper.proofs.Coincide.{moves_coincide}
use Rattle.sheet.specs.declared.Fault.{Fault}
use Rattle.sheet.specs.Told.{made, reported}
use Rattle.sheet.proofs.Telling.{move_known, report_told}

pub coincide : (m : Move) (sheet space : List ℕ) (r q : Result ℕ Fault) (space' space'' : List ℕ)
    → Moves made m sheet space r space' → Moves made m sheet space q space'' → (r ≡ q) × (space' ≡ space'')
coincide = moves_coincide made

-- an answer reports what is said
pub moves : (m : Move) (sheet : List ℕ) (space : ℕ) → reported (made (move_says m sheet space)) ≡ move_says m sheet space
unfolding move_says
moves m sheet space = report_told (move_refusal m sheet space) (in_edition (to m) sheet) (move_known sheet m space)
