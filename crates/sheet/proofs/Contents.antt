-- What a read sheet holds: its lists by their counts, and the records that stand in them.
-- Assumes nothing.
use Prim.Native.Nat.{ℕ, ◌+◌, ◌<◌, ◌≤◌}
use mathlib.Core.Path.{◌≡◌, refl, sym, ap, ◌∙◌}
use mathlib.Core.List.{List}
use mathlib.Core.Bool.{Bool, true, false, ◌&&◌}
use lib.ListN.{length, get_or, length-drop}
use lib.Seq.{length-take-le}
use lib.Dec.{leb}
use borrow.Author.Tests.{lt-ltb, le-leb}
use native.Mathlib.Omega.{arith}
use native.Mathlib.Nat.{zero-add}
use native.Mathlib.Numerals.{add-one}
use denote.Param.Members.{Mut}
use Rattle.std.specs.Prelude.{Option, MatchOption}
use Rattle.std.specs.Bool.{MatchBool}
use Rattle.std.specs.Fn.{Called}
use Rattle.std.specs.Iterator.{YieldsThen}
use Rattle.std.specs.List.{FoldsTo, HoldsAt, AllWithin, range_with_len}
use Rattle.std.specs.declared.ops.Range.{Range}
use Rattle.std.proofs.iter.Yields.{nat_range_steps}
use Rattle.std.proofs.lemmas.Iterator.{cases_from_any, YieldsList-from_range}
use Rattle.std.proofs.lemmas.List.FromFn.{length-range_with_len, get_or-range_with_len}
use Rattle.paper.specs.Bytes.{u8_at, OfBytes}
use Rattle.paper.specs.Tests.{any_below}
use Rattle.paper.specs.Trailer.{count_of, record_at}
use Rattle.paper.specs.Rows.{row, no_row}
use Rattle.paper.specs.Terms.{Part}
use Rattle.paper.specs.Sheet.{Span, Assertion, span_at, row_at, part_at, assertion_at, of_table, table_of, text_of, grammar_of, sheet_of, letter}
use Rattle.paper.proofs.Tests.{table_length, table_at, any_of_table, any_intro, any_nowhere, and_intro}
use Rattle.sheet.specs.Good.{Good}

-- a table's length, and what stands at a place of it
pub of_length : {A : Type 0} (at : List ℕ → ℕ → A) (s : List ℕ) (t : ℕ) → length (table_of at s t) ≡ count_of s t
unfolding table_of
of_length at s t = table_length 0 (count_of s t) (of_table at s t)

pub of_at : {A : Type 0} (at : List ℕ → ℕ → A) (s : List ℕ) (t i : ℕ) (d : A) → i < count_of s t → get_or (table_of at s t) i d ≡ at s (record_at s t i)
unfolding table_of
of_at at s t i d h = table_at 0 (count_of s t) (of_table at s t) d i h ∙ ap (of_table at s t) (zero-add i)

module _ (s : List ℕ) where
  pub rows_length : length (grammar_of s).rows ≡ count_of s 2
  unfolding grammar_of
  rows_length = of_length row_at s 2

  pub parts_length : length (sheet_of s).parts ≡ count_of s 3
  unfolding sheet_of
  parts_length = of_length part_at s 3

  pub assertions_length : length (sheet_of s).assertions ≡ count_of s 4
  unfolding sheet_of
  assertions_length = of_length assertion_at s 4

  pub text_length : Good s → length (text_of s) ≡ count_of s 1
  unfolding text_of
  text_length g = length-take-le _ _ (rw length-drop (omega (arith, g.placed 1 (omega arith))))

  pub row_here : (i : ℕ) → i < count_of s 2 → row (grammar_of s) i ≡ row_at s (record_at s 2 i)
  unfolding grammar_of row
  row_here i h = of_at row_at s 2 i no_row h

  pub part_here : (i : ℕ) (d : Part) → i < count_of s 3 → get_or (sheet_of s).parts i d ≡ part_at s (record_at s 3 i)
  unfolding sheet_of
  part_here i d h = of_at part_at s 3 i d h

  pub assertion_here : (i : ℕ) (d : Assertion) → i < count_of s 4 → get_or (sheet_of s).assertions i d ≡ assertion_at s (record_at s 4 i)
  unfolding sheet_of
  assertion_here i d h = of_at assertion_at s 4 i d h

-- the byte b lies in range k
abbrev pub in_span : List ℕ → (b k : ℕ) → Bool
in_span s b k = leb (u8_at s (record_at s 0 k)) b && leb b (u8_at s (record_at s 0 k + 1))

pub none_more : (f : ℕ → Bool) (i : ℕ) → any_below i f ≡ false → f i ≡ false → any_below (i + 1) f ≡ false
unfolding any_below
none_more f i h g = rw (add-one, g, any_below) h

-- what `any` answers over the numbers below n, of a closure that computes a test
pub any_found : {F : Type 0} {g : Mut F (ℕ × Unit {0}) Bool} (test : ℕ → Bool) (n : ℕ) (s u : Range ℕ) (f : F) (r : Bool) → s ≡ record { start = 0; end = n }
    → (xs : List ℕ) × (o : Option ℕ) × (j : F) × YieldsThen nat_range_steps s xs o u × FoldsTo (λ p x q. Called g p (x, tt) false q) f xs j × MatchOption o (r ≡ false) (λ x. (r ≡ true) × ((h : F) × Called g j (x, tt) true h))
    → ((x : ℕ) (q : F) → Called g f (x, tt) true q → test x ≡ true) → ((x : ℕ) (q : F) → Called g f (x, tt) false q → (q ≡ f) × (test x ≡ false)) → r ≡ any_below n test
any_found test n s u f r e ran holds fails =
    some r (cases_from_any u f r (λ x. test x ≡ true) (λ x. test x ≡ false) ran (YieldsList-from_range 0 n n e (omega arith)) holds fails)
  where
    at : (k : ℕ) → k < n → get_or (range_with_len 0 n) k 0 ≡ k
    at k l = get_or-range_with_len 0 n k 0 l ∙ zero-add k

    some : (r : Bool) → MatchBool r ((k : ℕ) × (k < length (range_with_len 0 n)) × HoldsAt (λ x. test x ≡ true) (range_with_len 0 n) k) (AllWithin (λ x. test x ≡ false) (range_with_len 0 n) 0 (length (range_with_len 0 n)))
        → r ≡ any_below n test
    some true h =
        let l : h.0 < n = rw length-range_with_len at h.1 in
        sym (any_intro n test h.0 l (rw (at h.0 l) at (h.2 0)))
    some false h = sym (any_nowhere n test (λ k l. rw (at k l) at (h k 0 (omega arith) (rw length-range_with_len l))))

-- a letter lies in one of the ranges
pub letter_is : (s : List ℕ) (b : ℕ) → b < 256 → letter (sheet_of s) b ≡ any_below (count_of s 0) (in_span s b)
unfolding letter sheet_of table_of span_at
letter_is s b h =
    rw (lt-ltb b 256 h) (simp zero-add at (any_of_table (λ (r : Span). leb r.low b && leb b r.high) 0 (count_of s 0) (of_table span_at s 0)))

-- an accepted sheet of bytes has a letter
pub some_letter_lem : (s : List ℕ) → OfBytes s → Good s → (b : ℕ) × (b < 256) × (letter (sheet_of s) b ≡ true)
some_letter_lem s byte g =
    let b = u8_at s (record_at s 0 0) in
    let few : 0 < count_of s 0 = (g.counts 0 (omega arith)).0 in
    let low : leb b b ≡ true = le-leb b b (omega arith) in
    (b, byte _, letter_is s b (byte _) ∙ any_intro (count_of s 0) (in_span s b) 0 few (and_intro low (le-leb _ _ (g.letters 0 few))))

-- the grammar and the text of a read sheet, and how large they are at most
module _ (s : List ℕ) where
  pub grammar_is : (sheet_of s).grammar ≡ grammar_of s
  unfolding sheet_of
  grammar_is = refl

  pub text_is : (sheet_of s).grammar.text ≡ text_of s
  unfolding sheet_of grammar_of
  text_is = refl

  pub grammar_few : Good s → length (sheet_of s).grammar.rows ≤ 256
  grammar_few g = rw grammar_is (omega (arith, rows_length s, (g.counts 2 (omega arith)).1))
