-- What a caller learns of each call, by the contract above its code, is the promise by name: so the theorems are about the calls.
-- Assumes nothing.
use Rattle.paper.specs.Editions.{ToSecond, ToFirst}
use Rattle.paper.specs.Promises.{Solves, Makes, Moves, Gates}
use Rattle.strovimel_c.specs.Structs.{solved_of, made_of}
use Rattle.strovimel_c.proofs.strovimel_solve.Reads as solve
use Rattle.strovimel_c.proofs.strovimel_make.Reads as make
use Rattle.strovimel_c.proofs.strovimel_to_second.Reads as to_second
use Rattle.strovimel_c.proofs.strovimel_to_first.Reads as to_first
use Rattle.strovimel_c.proofs.strovimel_gate.Reads as gate

-- a: what is passed, r: what is returned, e: what was passed as it is found at the return

pub solve_promised : (κs : _) (a : _) (r : _) (e : _) → solve.Learnt κs a r e
    → Solves solved_of a.0.now a.1.0 a.1.1.0.now a.1.1.1.0.now r e.1.1.0.now e.1.1.1.0.now
solve_promised κs a r e p = p

pub make_promised : (κs : _) (a : _) (r : _) (e : _) → make.Learnt κs a r e
    → Makes made_of a.0.now a.1.0 a.1.1.0 a.1.1.1.0.now r e.1.1.1.0.now
make_promised κs a r e p = p

pub to_second_promised : (κs : _) (a : _) (r : _) (e : _) → to_second.Learnt κs a r e
    → Moves made_of ToSecond a.0.now a.1.0.now r e.1.0.now
to_second_promised κs a r e p = p

pub to_first_promised : (κs : _) (a : _) (r : _) (e : _) → to_first.Learnt κs a r e
    → Moves made_of ToFirst a.0.now a.1.0.now r e.1.0.now
to_first_promised κs a r e p = p

pub gate_promised : (κs : _) (a : _) (r : _) (e : _) → gate.Learnt κs a r e
    → Gates a.0.now a.1.0.now a.1.1.0.now a.1.1.1.0.now r e.1.1.1.0.now
gate_promised κs a r e p = p
