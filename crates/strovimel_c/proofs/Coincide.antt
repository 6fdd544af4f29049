-- Two results that the promise of a C call allows coincide, and so do the buffers.
-- Assumes nothing.
use Prim.Native.Nat.{ℕ}
use mathlib.Core.Path.{◌≡◌}
use mathlib.Core.List.{List}
use Rattle.paper.specs.Editions.{Move}
use Rattle.paper.specs.Promises.{Solves, Makes, Moves, Gates}
use Rattle.paper.proofs.Coincide as paper
use Rattle.strovimel_c.specs.declared.Solved.{Solved}
use Rattle.strovimel_c.specs.declared.Made.{Made}
use Rattle.strovimel_c.specs.Structs.{solved_of, made_of}

pub solves_coincide : (sheet : List ℕ) (budget : ℕ) (work out : List ℕ) (r q : Solved) (work' work'' out' out'' : List ℕ)
    → Solves solved_of sheet budget work out r work' out' → Solves solved_of sheet budget work out q work'' out'' → (r ≡ q) × (work' ≡ work'') × (out' ≡ out'')
solves_coincide = paper.solves_coincide solved_of

pub makes_coincide : (sheet : List ℕ) (row n : ℕ) (space : List ℕ) (r q : Made) (space' space'' : List ℕ)
    → Makes made_of sheet row n space r space' → Makes made_of sheet row n space q space'' → (r ≡ q) × (space' ≡ space'')
makes_coincide = paper.makes_coincide made_of

pub moves_coincide : (m : Move) (sheet space : List ℕ) (r q : Made) (space' space'' : List ℕ)
    → Moves made_of m sheet space r space' → Moves made_of m sheet space q space'' → (r ≡ q) × (space' ≡ space'')
moves_coincide = paper.moves_coincide made_of

pub gates_coincide : (list text word work : List ℕ) (k m : ℕ) (work' work'' : List ℕ)
    → Gates list text word work k work' → Gates list text word work m work'' → (k ≡ m) × (work' ≡ work'')
gates_coincide = paper.gates_coincide
