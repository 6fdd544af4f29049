-- Two results that the gate's promise allows coincide.
-- Assumes nothing.
use Prim.Native.Nat.{ℕ}
use mathlib.Core.Path.{◌≡◌, refl}
use mathlib.Core.List.{List}
use mathlib.Core.Bool.{Bool, true, false, cond}
use lib.Dec.{eqb}
use Rattle.paper.specs.Promises.{Gates}
use Rattle.paper.proofs.Coincide.{gates_coincide, told}
use Rattle.std.specs.Prelude.{Result, Ok, Err}
use Rattle.gate.specs.Number.{number_of}
use Rattle.gate.specs.declared.answer.Refusal.{Refusal}
use Rattle.gate.specs.declared.answer.Refusal.TheVariants.{Malformed, Length, Workspace}

abbrev answer_of : ℕ → Result Bool Refusal
answer_of n =
    cond (eqb n 0) (Ok true)
    (cond (eqb n 1) (Ok false)
    (cond (eqb n 18) (Err Workspace)
    (cond (eqb n 30) (Err Malformed) (Err Length))))

back : (answer : Result Bool Refusal) → answer_of (number_of answer) ≡ answer
back (Ok true) = refl
back (Ok false) = refl
back (Err Workspace) = refl
back (Err Malformed) = refl
back (Err Length) = refl

pub coincide : (list text word work : List ℕ) (g h : Result Bool Refusal) (work' work'' : List ℕ)
    → Gates list text word work (number_of g) work' → Gates list text word work (number_of h) work'' → (g ≡ h) × (work' ≡ work'')
coincide list text word work g h work' work'' a b =
    let c = gates_coincide list text word work (number_of g) (number_of h) work' work'' a b in
    (told number_of answer_of back g h c.0, c.1)
