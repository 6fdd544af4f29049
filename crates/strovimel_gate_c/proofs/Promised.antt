-- What a caller learns of the call, by the contract above its code, is the gate's promise by name; two results that it allows coincide.
-- Assumes nothing.
use Prim.Native.Nat.{ℕ}
use mathlib.Core.Path.{◌≡◌}
use mathlib.Core.List.{List}
use Rattle.paper.specs.Promises.{Gates}
use Rattle.paper.proofs.Coincide.{gates_coincide}
use Rattle.strovimel_gate_c.proofs.strovimel_gate.Reads as gate

-- a: what is passed, r: what is returned, e: what was passed as it is found at the return
pub promised : (κs : _) (a : _) (r : _) (e : _) → gate.Learnt κs a r e
    → Gates a.0.now a.1.0.now a.1.1.0.now a.1.1.1.0.now r e.1.1.1.0.now
promised κs a r e p = p

pub coincide : (list text word work : List ℕ) (k m : ℕ) (work' work'' : List ℕ)
    → Gates list text word work k work' → Gates list text word work m work'' → (k ≡ m) × (work' ≡ work'')
coincide = gates_coincide
