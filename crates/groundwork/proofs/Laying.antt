-- The parts of the groundwork when every row has had its turn, and what they say together.
-- Assumes nothing.
use Prim.Native.Nat.{ℕ, ◌≤◌, ◌<◌}
use mathlib.Core.Path.{◌≡◌, sym, ap, ◌∙◌}
use mathlib.Core.Logic.{◌⊎◌, inl, inr, ⊎_elim}
use mathlib.Core.Bool.{Bool, ◌&&◌}
use mathlib.Core.List.{List}
use native.Mathlib.Omega.{arith}
use lib.Dec.{ltb}
use lib.ListN.{length, get_or, replicate}
use lib.Seq.{get_or-take}
use borrow.Author.Tests.{lt-ltb, le-ltb}
use Rattle.paper.proofs.Reaching.{outside}
use Rattle.paper.proofs.Tests.{any_intro}
use Rattle.paper.proofs.Sound.{SoundRow}
use Rattle.paper.specs.Rows.{Range, Text, Seq, Star, Grammar, row}
use Rattle.paper.specs.Sheet.{Sheet, letter, grammar_of, sheet_of}
use Rattle.sheet.specs.Good.{Good}
use Rattle.sheet.proofs.Contents.{some_letter_lem}
use Rattle.sheet.proofs.Rows.{rows_few, rows_all}
use Rattle.sheet.proofs.Soundness.{good_sound}
use Rattle.workspace.specs.Where.{put_below}
use Rattle.workspace.proofs.Where.{put_below_bit}
use Rattle.workspace.proofs.Spans.{lt_or_le}
use Rattle.rows.proofs.Zeros.{zero_bit}
use Rattle.groundwork.specs.declared.splits.Pair.{Pair}
use Rattle.groundwork.specs.declared.ground.Groundwork.{Groundwork}
use Rattle.groundwork.specs.Laying.{RangesIn, LengthsBelow, Lengths, some_letter, no_pair, pairs_below}
use Rattle.groundwork.specs.Ground.{Ground, Splits}
use Rattle.groundwork.proofs.ByKind.{no_row_letter, splits_which, splits_pair}
use Rattle.groundwork.proofs.Splitting.{pairs_few, pair_at, pair_in}

-- ---- the ranges that hold a letter

-- row q of the table is
abbrev pub letter_row : Sheet → Grammar → ℕ → Bool
letter_row s g q = some_letter s (row g q)

pub ranges_done : (s : Sheet) (n : ℕ) → n ≡ length s.grammar.rows → n ≤ 256 → RangesIn s (put_below (letter_row s s.grammar) (replicate 4 0) 0 n)
ranges_done s n all few q = put_below_bit (letter_row s s.grammar) (replicate 4 0) 0 n (omega arith) few q ∙ rw (zero_bit 4 0 q) at_row
  where
    at_row : (ltb q n && letter_row s s.grammar q) ≡ letter_row s s.grammar q
    at_row = lt_or_le q n (λ l. rw (lt-ltb q n l)) (λ l. rw (le-ltb q n l) (sym (rw (outside s.grammar q (omega arith)) (no_row_letter s))))

-- ---- a row that is not in the table neither splits nor is a text row

splits_below : (g : Grammar) (q a b : ℕ) → Splits q (row g q) a b → q < length g.rows
splits_below g q a b x = lt_or_le q (length g.rows) (λ h. h) (λ h. absurd (⊎_elim (λ e. clash (outside g q h) (inl e)) (λ e. clash (outside g q h) (inr e.0)) (splits_which x)))
  where
    clash : row g q ≡ Range 1 0 → (row g q ≡ Seq a b) ⊎ (row g q ≡ Star a) → ⊥
    clash o (inl e) = let z : ◌≡◌ {A = ℕ} 0 1 = cc in omega arith
    clash o (inr e) = let z : ◌≡◌ {A = ℕ} 0 1 = cc in omega arith

text_below : (g : Grammar) (q off m : ℕ) → row g q ≡ Text off m → q < length g.rows
text_below g q off m e = lt_or_le q (length g.rows) (λ h. h) (λ h. absurd (clash (outside g q h)))
  where
    clash : row g q ≡ Range 1 0 → ⊥
    clash o = let z : ◌≡◌ {A = ℕ} 0 1 = cc in omega arith

pub lengths_done : (g : Grammar) (n mask : ℕ) → n ≡ length g.rows → LengthsBelow g n mask → Lengths g mask
lengths_done g n mask all f q off m e = f q off m (omega (arith, text_below g q off m e)) e

-- ---- the whole

-- the facts of a groundwork, each as what it says of the sheet
pub ground_of : (g : Groundwork) → Ground (sheet_of g.sheet.now.bytes.now) g
unfolding sheet_of grammar_of
ground_of g = record {
  reached = λ q r l h. g.reach_is.bits q r l;
  empties = λ r h. g.empty_is.bits r;
  ranges = λ q h. g.ranges_are q;
  letters = g.letters_are;
  some = let w = some_letter_lem s g.sheet.now.of_bytes good in any_intro 256 (letter (sheet_of s)) w.0 w.1 w.2;
  few = omega (arith, g.count_is, pairs_few (grammar_of s) n, all);
  pairs = λ j h.
      let z = pair_at (grammar_of s) _ (length (grammar_of s).rows) n (omega (arith, all, few)) (omega (arith, all)) sound j (omega (arith, g.count_is)) in
      rw (word j h) z;
  all = λ q a b y.
      let z = pair_in (grammar_of s) n q _ (omega (arith, all, splits_below (grammar_of s) q a b y)) (splits_pair y) in
      let h : z.0 < g.count = omega (arith, z.1, g.count_is) in
      (z.0, h, word z.0 h ∙ z.2);
  lengths = g.lengths_are;
}
  where
    s : List ℕ
    s = g.sheet.now.bytes.now

    n : ℕ
    n = g.sheet.now.rows.count

    good : Good s
    good = g.sheet.now.good

    all : n ≡ length (grammar_of s).rows
    all = rows_all g.sheet.now.rows_at

    few : n ≤ 256
    few = rows_few good g.sheet.now.rows_at

    sound : (q : ℕ) → q < n → SoundRow (length (grammar_of s).text) (length (grammar_of s).rows) (row (grammar_of s) q)
    sound q l = (good_sound s good (omega (arith, l, g.sheet.now.rows_at.counts))).each q (omega (arith, l, all))

    word : (j : ℕ) → j < g.count → get_or g.pairs j no_pair ≡ get_or (pairs_below (grammar_of s) n) j no_pair
    word j h = sym (get_or-take g.count g.pairs j no_pair h) ∙ ap (λ (xs : List Pair). get_or xs j no_pair) g.pairs_are
