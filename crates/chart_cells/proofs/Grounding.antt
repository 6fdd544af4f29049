-- What the groundwork gives to the loops: its pairs can be read, its rows are few, and what reaches a row reaches on.
-- Assumes nothing.
use Prim.Native.Nat.{ℕ, ◌<◌}
use mathlib.Core.Path.{◌≡◌, sym, ap, ◌∙◌}
use mathlib.Core.Bool.{true, true≢false}
use mathlib.Core.List.{List}
use native.Mathlib.Omega.{arith}
use lib.ListN.{length, get_or}
use lib.Seq.{get_or-take}
use Rattle.paper.specs.Trailer.{count_of}
use Rattle.paper.specs.Rows.{Grammar, Reach}
use Rattle.paper.specs.Decide.{reaches}
use Rattle.paper.specs.Sheet.{grammar_of, table_of, of_table, row_at}
use Rattle.paper.proofs.Tests.{table_length}
use Rattle.paper.proofs.Reaching.{reaches_sound, reaches_from}
use Rattle.workspace.specs.Bits.{bit_at}
use Rattle.workspace.proofs.Bits.{bit_past}
use Rattle.workspace.proofs.Spans.{lt_or_le}
use Rattle.groundwork.specs.declared.ground.Groundwork.{Groundwork}
use Rattle.groundwork.specs.Laying.{no_pair}
use Rattle.groundwork.proofs.Laying.{ground_of}
use Rattle.chart_cells.specs.Steps.{listed, Chained}

-- a bit that is set is a row's
pub bit_row : (ws : List ℕ) (s r : ℕ) → bit_at ws s r ≡ true → r < 256
bit_row ws s r e = lt_or_le r 256 (λ h. h) (λ h. absurd (true≢false (sym e ∙ bit_past ws s r h)))

reach_then : (g : Grammar) {r q p : ℕ} → Reach g r q → Reach g q p → Reach g r p
reach_then g Reach.here y = y
reach_then g (Reach.step k x) y = Reach.step k (reach_then g x y)

module _ (g : Groundwork) where
  -- ---- the pairs

  pub listed_count : length (listed g) ≡ g.count
  listed_count = ap length g.pairs_are ∙ sym g.count_is

  pub listed_at : (j : ℕ) → j < g.count → get_or (listed g) j no_pair ≡ get_or g.pairs j no_pair
  listed_at j h = get_or-take g.count g.pairs j no_pair h

  pub pair_low : (j : ℕ) → j < length (listed g) → (get_or (listed g) j no_pair).row < 256
  pair_low j h =
      let l : j < g.count = omega (arith, listed_count) in
      rw (listed_at j l) ((ground_of g).pairs j l).row

  -- ---- reach

  rows_are : g.sheet.now.rows.count ≡ length (grammar_of g.sheet.now.bytes.now).rows
  unfolding grammar_of table_of
  rows_are = g.sheet.now.rows_at.counts ∙ sym (table_length 0 (count_of g.sheet.now.bytes.now 2) (of_table row_at g.sheet.now.bytes.now 2))

  reached : (q r : ℕ) → q < g.sheet.now.rows.count → bit_at g.reach.now q r ≡ reaches (grammar_of g.sheet.now.bytes.now) r q
  reached q r h = g.reach_is.bits q r (rw rows_are at h)

  -- a row reaches itself, so it has a bit
  pub row_below : (q : ℕ) → q < g.sheet.now.rows.count → q < 256
  row_below q h = bit_row g.reach.now q q (reached q q h ∙ reaches_from (grammar_of g.sheet.now.bytes.now) (rw rows_are at h) Reach.here)

  pub chained : Chained g.reach.now g.sheet.now.rows.count
  chained p q r hp hq x y =
      let rows = grammar_of g.sheet.now.bytes.now in
      let rq = reaches_sound rows r q (sym (reached q r hq) ∙ y) in
      let qp = reaches_sound rows q p (sym (reached p q hp) ∙ x) in
      reached p r hp ∙ reaches_from rows (rw rows_are at hp) (reach_then rows rq qp)
