-- What a caller learns of each call, by the contract above its code, is the promise that the demands are about.
-- Assumes nothing.
use mathlib.Core.Path.{ap, ◌∙◌}
use Rattle.paper.specs.Answers.{report_of}
use Rattle.paper.specs.Editions.{ToSecond, ToFirst}
use Rattle.paper.specs.Promises.{Solves, Makes, Moves, Gates}
use Rattle.solver.specs.Reported as solver
use Rattle.solver.proofs.Coincide.{reports}
use Rattle.solver.proofs.solve.Reads as solve
use Rattle.sheet.specs.Told.{reported}
use Rattle.maker.proofs.Coincide.{makes}
use Rattle.maker.proofs.make.Reads as make
use Rattle.editions.proofs.Coincide.{moves}
use Rattle.editions.proofs.to_second.Reads as to_second
use Rattle.editions.proofs.to_first.Reads as to_first
use Rattle.gate.specs.Number.{number_of}
use Rattle.gate.proofs.gate.Reads as gate

-- a: what is passed, r: what is returned, e: what was passed as it is found at the return

pub solve_promised : (κs : _) (a : _) (r : _) (e : _) → solve.Learnt κs a r e
    → Solves report_of a.0.now a.1.0 a.1.1.0.now a.1.1.1.0.now (solver.reported r) e.1.1.0.now e.1.1.1.0.now
solve_promised κs a r e p = record { said = ap solver.reported p.said ∙ reports _ _ _ _; cleared = p.cleared; wrote = p.wrote }

pub make_promised : (κs : _) (a : _) (r : _) (e : _) → make.Learnt κs a r e
    → Makes (λ q. q) a.0.now a.1.0 a.1.1.0 a.1.1.1.0.now (reported r) e.1.1.1.0.now
make_promised κs a r e p = record { said = ap reported p.said ∙ makes _ _ _ _; wrote = p.wrote }

pub to_second_promised : (κs : _) (a : _) (r : _) (e : _) → to_second.Learnt κs a r e
    → Moves (λ q. q) ToSecond a.0.now a.1.0.now (reported r) e.1.0.now
to_second_promised κs a r e p = record { said = ap reported p.said ∙ moves ToSecond _ _; wrote = p.wrote }

pub to_first_promised : (κs : _) (a : _) (r : _) (e : _) → to_first.Learnt κs a r e
    → Moves (λ q. q) ToFirst a.0.now a.1.0.now (reported r) e.1.0.now
to_first_promised κs a r e p = record { said = ap reported p.said ∙ moves ToFirst _ _; wrote = p.wrote }

pub gate_promised : (κs : _) (a : _) (r : _) (e : _) → gate.Learnt κs a r e
    → Gates a.0.now a.1.0.now a.1.1.0.now a.1.1.1.0.now (number_of r) e.1.1.1.0.now
gate_promised κs a r e p = p
