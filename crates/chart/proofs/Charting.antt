-- The chart of an accepted sheet, from its groundwork: a cell, the empty spans, the whole.
-- Assumes nothing.
use Prim.Native.Nat.{ℕ, zero, suc, ◌+◌, ◌-◌, ◌≤◌, ◌<◌}
use mathlib.Core.Path.{◌≡◌, sym, ◌∙◌, subst}
use mathlib.Core.List.{List}
use native.Mathlib.Omega.{arith}
use native.Mathlib.Nat.{not-suc-le-zero}
use lib.ListN.{length}
use Rattle.std.specs.Prelude.{Option}
use Rattle.paper.specs.Decide.{level}
use Rattle.paper.specs.Sheet.{sheet_of, grammar_of, text_of}
use Rattle.paper.proofs.Derivation.{accepts_level}
use Rattle.sheet.proofs.Contents.{grammar_is, grammar_few}
use Rattle.sheet.proofs.Rows.{rows_all}
use Rattle.workspace.specs.Spans.{span_at}
use Rattle.workspace.specs.Bits.{bit_at, wiped, copied}
use Rattle.workspace.proofs.Bits.{copied_bit, copied_apart}
use Rattle.workspace.proofs.Spans.{span_lt}
use Rattle.chart_cells.specs.Steps.{Adds, listed, parted, carried_in}
use Rattle.groundwork.specs.declared.ground.Groundwork.{Groundwork}
use Rattle.groundwork.proofs.Laying.{ground_of}
use Rattle.chart.specs.Cells.{allowed, ranged, fitting, passing, derivable, emptied, Cell, Filled}
use Rattle.chart.proofs.Filling.{cell_done}

-- ---- the empty spans

pub empty_cell : (empty old new : List ℕ) (sp i : ℕ) → sp ≡ span_at i 0 → i ≤ 60 → 7564 ≤ length old → new ≡ copied old sp empty 0 → Cell (emptied empty) 0 i old new
unfolding emptied
empty_cell empty old new sp i p h room e =
    rw (e, p) (record {
      kept = copied_apart old (span_at i 0) empty 0;
      bits = λ r l. copied_bit old (span_at i 0) empty 0 (omega (arith, span_lt i 0 (omega arith))) r;
    })

-- ---- by the groundwork

module _ (g : Groundwork) where
  few : length (sheet_of g.sheet.now.bytes.now).grammar.rows ≤ 256
  few = grammar_few g.sheet.now.bytes.now g.sheet.now.good

  rows_are : length (sheet_of g.sheet.now.bytes.now).grammar.rows ≡ g.sheet.now.rows.count
  rows_are = rw (grammar_is g.sheet.now.bytes.now) (sym (rows_all g.sheet.now.rows_at))

  -- the rows of the empty spans derive the empty word
  pub empties_right : (places : List (Option ℕ)) (ws : List ℕ) → Filled (emptied g.empty) (length places) 1 0 ws → Filled (derivable g.sheet.now.bytes.now places) (length places) 1 0 ws
  unfolding emptied level sheet_of
  empties_right places ws x = record {
    shorter = λ m i r h k l. go m i r h k l;
    here = λ i r h k l. absurd (not-suc-le-zero h);
  }
    where
      go : (m i r : ℕ) → m < 1 → i + m ≤ length places → r < 256 → bit_at ws (span_at i m) r ≡ derivable g.sheet.now.bytes.now places m i r
      go zero i r h k l = x.shorter zero i r h k l ∙ (ground_of g).empties r l ∙ sym (accepts_level (grammar_of g.sheet.now.bytes.now) (allowed g.sheet.now.bytes.now places) zero i r)
      go (suc m) i r h k l = absurd (omega arith)

  -- ---- a cell

  pub cell_of : (places : List (Option ℕ)) → length places ≤ 60 → (m i sp : ℕ) (work w0 w1 w2 w3 new : List ℕ) → 7564 ≤ length work → 0 < m → i + m ≤ length places → sp ≡ span_at i m
      → Filled (derivable g.sheet.now.bytes.now places) (length places) m i work
      → w0 ≡ wiped work sp
      → Adds sp (passing (grammar_of g.sheet.now.bytes.now) (ranged (allowed g.sheet.now.bytes.now places) m i)) w0 w1
      → Adds sp (passing (grammar_of g.sheet.now.bytes.now) (fitting (text_of g.sheet.now.bytes.now) (allowed g.sheet.now.bytes.now places) m i)) w1 w2
      → Adds sp (parted (listed g) w2 i m (m - 1)) w2 w3
      → Adds sp (carried_in g.reach.now w3 sp g.sheet.now.rows.count) w3 new
      → Cell (derivable g.sheet.now.bytes.now places) m i work new
  unfolding sheet_of grammar_of
  cell_of places short m i sp work w0 w1 w2 w3 new words h room p x z a b c d =
      let pat = allowed g.sheet.now.bytes.now places in
      let small : span_at i m < 1891 = span_lt i m (omega (arith, short)) in
      cell_done (sheet_of g.sheet.now.bytes.now) g (ground_of g) few pat m i work w1 w2 w3 new h (omega (arith, small))
      (λ k j r u v l. x.shorter k j r u (omega arith) l)
      (subst (λ t. Adds t (passing (grammar_of g.sheet.now.bytes.now) (ranged pat m i)) (wiped work t) w1) p (subst (λ w. Adds sp (passing (grammar_of g.sheet.now.bytes.now) (ranged pat m i)) w w1) z a))
      (subst (λ t. Adds t (passing (grammar_of g.sheet.now.bytes.now) (fitting (text_of g.sheet.now.bytes.now) pat m i)) w1 w2) p b)
      (subst (λ t. Adds t (parted (listed g) w2 i m (m - 1)) w2 w3) p c)
      (subst (λ t. Adds t (carried_in g.reach.now w3 t (length (sheet_of g.sheet.now.bytes.now).grammar.rows)) w3 new) p (subst (λ n. Adds sp (carried_in g.reach.now w3 sp n) w3 new) (sym rows_are) d))
