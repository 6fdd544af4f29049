use Prim.Native.Nat.{ℕ, ◌≤◌}
use mathlib.Core.Path.{◌≡◌, ap}
use mathlib.Core.Bool.{Bool, true, false, cond}
use mathlib.Core.List.{List, ◌++◌}
use lib.ListN.{length, drop}
use native.Mathlib.Omega.{arith}
use borrow.Author.Tests.{eq-eqb, le-leb}
use Rattle.paper.specs.Gate.{n_of}
use Rattle.paper.specs.Answers.{words, zeroed, gate_says, gate_leaves}
use Rattle.gate.proofs.gate.Goals as goal

-- yes and no leave the workspace alike
leaves : (yes : Bool) (work work' : List ℕ) → work' ≡ zeroed words work → work' ≡ gate_leaves (cond yes 0 1) work
unfolding gate_leaves
leaves true work work' e = e
leaves false work work' e = e

pub returns : goal.returns
unfolding gate_says words zeroed
returns c =
    let a = c.args in
    let room : 7564 ≤ length a.work.now = omega (arith, c.in-Some-first_chunk_mut.ensures.cases) in
    let fit : length a.word.now ≡ n_of a.list.now = omega (arith, c.in-Some.ensures.1.length_is) in
    record {
      said = rw (c.in-Some.ensures.0, eq-eqb _ _ fit, le-leb _ _ room, ← c.read-accepted.ensures.0);
      left = leaves _ _ _ (ap (λ v. v ++ drop 7564 a.work.now) c.read-accepted.ensures.1);
    }
