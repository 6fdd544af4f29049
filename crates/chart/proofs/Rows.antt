-- What the rows of an accepted sheet give to a cell.
-- Assumes nothing.
use Prim.Native.Nat.{ℕ, ◌+◌, ◌-◌, ◌≤◌, ◌<◌}
use mathlib.Core.Path.{◌≡◌, refl, sym, ◌∙◌}
use mathlib.Core.Bool.{true, false, true≢false}
use mathlib.Core.Logic.{◌⊎◌, inl, inr}
use mathlib.Core.List.{List}
use native.Mathlib.Omega.{arith}
use lib.Dec.{eqb}
use lib.ListN.{length, get_or, take, drop}
use borrow.Author.Tests.{eqb-false}
use Rattle.std.specs.Prelude.{Option, Some, None}
use Rattle.paper.specs.Rows.{Grammar, row, stretch}
use Rattle.paper.specs.Decide.{Pattern, fits}
use Rattle.paper.specs.Sheet.{sheet_of, grammar_of, text_of}
use Rattle.paper.proofs.Derivation.{stretch_part}
use Rattle.paper.proofs.Tests.{and_left, and_right, true_or_false}
use Rattle.workspace.specs.Bits.{bit, bit_at, none_at}
use Rattle.workspace.proofs.Bits.{none_bit}
use Rattle.groundwork.specs.declared.ground.Groundwork.{Groundwork}
use Rattle.groundwork.proofs.Laying.{ground_of}
use Rattle.chart.specs.Cells.{allowed, holding, no_range, ranged, fitting, among, passing}
use Rattle.chart.proofs.Owning.{among_no, among_all, letter_held, no_holds, known_range, letter_ranges, no_text}

-- ---- a part of the text

-- a part of the text fits where its stretch does
pub part_fits : (pat : Pattern) (i a m : ℕ) (text : List ℕ) → a + m ≤ length text → fits pat i (take (a + m - a) (drop a text)) ≡ fits pat i (stretch 0 text a m)
part_fits pat i a m text h = let q : a + m - a ≡ m = omega arith in rw (q, stretch_part text a m h)

-- ---- the steps, for an accepted sheet

-- every row has had its turn
module _ (s : List ℕ) (places : List (Option ℕ)) (n : ℕ) (all : n ≡ length (grammar_of s).rows) where
  -- a place that is known
  pub known_single : (i m x : ℕ) → m ≡ 1 → get_or places i None ≡ Some x → (r : ℕ)
      → among (grammar_of s) (holding x) n r ≡ passing (grammar_of s) (ranged (allowed s places) m i) r
  unfolding passing
  known_single i m x p e r =
      rw (p, all) (among_all (grammar_of s) (holding x) r (no_holds x) ∙ known_range (sheet_of s) places i x e (row (grammar_of s) r))

  pub texts_passed : (pat : Pattern) (m i r : ℕ) → among (grammar_of s) (fitting (text_of s) pat m i) n r ≡ passing (grammar_of s) (fitting (text_of s) pat m i) r
  unfolding fitting
  texts_passed pat m i r = rw all (among_all (grammar_of s) (fitting (text_of s) pat m i) r refl)

-- what the groundwork says
module _ (g : Groundwork) where
  -- no range holds a letter, so none holds this one
  pub no_holding : (x n : ℕ) → no_range (sheet_of g.sheet.now.bytes.now) g.ranges x ≡ true → n ≤ 256 → (r : ℕ) → among (grammar_of g.sheet.now.bytes.now) (holding x) n r ≡ false
  unfolding no_range sheet_of
  no_holding x n e few = among_no G (holding x) n (λ r l. go r l (true_or_false (holding x (row G r))))
    where
      G : Grammar
      G = grammar_of g.sheet.now.bytes.now

      go : (r : ℕ) → r < n → (holding x (row G r) ≡ true) ⊎ (holding x (row G r) ≡ false) → holding x (row G r) ≡ false
      go r l (inl y) =
          let held = letter_held (sheet_of g.sheet.now.bytes.now) x (and_right (none_at g.ranges 0) _ e) (row G r) y in
          absurd (true≢false (sym held ∙ sym ((ground_of g).ranges r (omega arith)) ∙ none_bit g.ranges 0 (and_left (none_at g.ranges 0) _ e) r))
      go r l (inr y) = y

  module _ (places : List (Option ℕ)) where
    -- a place that is not known
    pub unknown_single : (i m : ℕ) → m ≡ 1 → get_or places i None ≡ None → (r : ℕ) → r < 256
        → bit_at g.ranges 0 r ≡ passing (grammar_of g.sheet.now.bytes.now) (ranged (allowed g.sheet.now.bytes.now places) m i) r
    unfolding sheet_of
    unknown_single i m p e r k = rw p (letter_ranges (sheet_of g.sheet.now.bytes.now) places i g (ground_of g) e r k)

  pub texts_none : (pat : Pattern) (m i : ℕ) → m ≤ 60 → eqb (bit g.lengths m) 1 ≡ false → (r : ℕ) → passing (grammar_of g.sheet.now.bytes.now) (fitting (text_of g.sheet.now.bytes.now) pat m i) r ≡ false
  unfolding sheet_of grammar_of
  texts_none pat m i h q r = no_text (sheet_of g.sheet.now.bytes.now) g (ground_of g) pat m i h (eqb-false (bit g.lengths m) 1 q) r
