-- The groundwork's pairs, as the loops have them.
-- Assumes nothing.
use Prim.Native.Nat.{ℕ, ◌<◌}
use mathlib.Core.Path.{◌≡◌, ◌∙◌}
use mathlib.Core.Bool.{true}
use native.Mathlib.Omega.{arith}
use lib.ListN.{length, get_or}
use Rattle.paper.specs.Rows.{Grammar, row}
use Rattle.paper.specs.Decide.{Pattern, accepts}
use Rattle.paper.specs.Sheet.{Sheet}
use Rattle.paper.proofs.Reaching.{spells_below}
use Rattle.paper.proofs.Derivation.{accepts_right}
use Rattle.groundwork.specs.declared.ground.Groundwork.{Groundwork}
use Rattle.groundwork.specs.Laying.{pair, no_pair}
use Rattle.groundwork.specs.Ground.{Ground, Splits, PairOf}
use Rattle.chart_cells.specs.Steps.{listed}
use Rattle.chart_cells.proofs.Grounding.{listed_count, listed_at}

-- a row that passes is in the table
pub accepted_below : (g : Grammar) (pat : Pattern) (m i r : ℕ) → accepts g pat m i r ≡ true → r < length g.rows
accepted_below g pat m i r e = spells_below g ((accepts_right g pat m i r).0 e).spelled

module _ (S : Sheet) (g : Groundwork) (ground : Ground S g) where
  pub pair_read : (j : ℕ) → j < length (listed g) → PairOf (row S.grammar (get_or (listed g) j no_pair).row) (get_or (listed g) j no_pair)
  pair_read j h = let l : j < g.count = omega (arith, listed_count g) in rw (listed_at g j l) (ground.pairs j l)

  pub pair_found : (q a b : ℕ) → Splits q (row S.grammar q) a b → (j : ℕ) × (j < length (listed g)) × (get_or (listed g) j no_pair ≡ pair q a b)
  pair_found q a b x = let z = ground.all q a b x in (z.0, omega (arith, listed_count g, z.1), listed_at g z.0 z.1 ∙ z.2)
