-- The slots that are given on an accepted sheet are of letters that are alike.
-- Assumes nothing.
use Prim.Native.Nat.{ℕ, ◌+◌, ◌≤◌, ◌<◌}
use mathlib.Core.Path.{◌≡◌, refl}
use mathlib.Core.Bool.{Bool, false}
use mathlib.Core.List.{List}
use native.Mathlib.Omega.{arith}
use native.Mathlib.Decide.{dec_lt}
use lib.ListN.{length, replicate, get_or-eq_default}
use Rattle.paper.specs.Trailer.{count_of}
use Rattle.paper.specs.Rows.{Text, row, no_row}
use Rattle.paper.specs.Terms.{All}
use Rattle.paper.specs.Sheet.{of_table, assertion_at, grammar_of, sheet_of}
use Rattle.paper.specs.Opens.{opens}
use Rattle.paper.proofs.Sound.{SoundPart}
use Rattle.paper.proofs.Tests.{at_every}
use Rattle.walk.specs.Progress.{Classes}
use Rattle.sheet.specs.Good.{Good}
use Rattle.sheet.proofs.Contents.{rows_length, parts_length, assertions_length, row_here, part_here, assertion_here}
use Rattle.sheet.proofs.Soundness.{text_is}
use Rattle.alike.specs.Untold.{SoundIn, Inside, some_compares}
use Rattle.alike.specs.Slots.{Holders, Free, Given}
use Rattle.alike.proofs.Untold.{untold_alike}
use Rattle.alike.proofs.Holding.{zero_at, rows_same}

module _ (s : List ℕ) (g : Good s) where
  grammar_is : (sheet_of s).grammar ≡ grammar_of s
  unfolding sheet_of
  grammar_is = refl

  row_inside : (r a b : ℕ) → row (grammar_of s) r ≡ Text a b → a + b ≤ length (grammar_of s).text
  unfolding row
  row_inside r a b q = go (dec_lt r (count_of s 2))
    where
      go : Dec (r < count_of s 2) → a + b ≤ length (grammar_of s).text
      go (yes l) = rw (text_is s g) (rw (← row_here s r l, q) at (g.rows r l))
      go (no l) =
          let n : row (grammar_of s) r ≡ no_row = get_or-eq_default (grammar_of s).rows no_row (omega (arith, rows_length s)) in
          absurd (let z : ◌≡◌ {A = ℕ} 0 1 = cc in omega arith)

  accepted_inside : Inside (sheet_of s)
  accepted_inside = record {
    rows = rw grammar_is row_inside;
    parts = at_every (SoundPart (length (sheet_of s).grammar.text)) (sheet_of s).parts All (λ k l.
        let h : k < count_of s 3 = rw parts_length at l in
        rw (grammar_is, text_is s g, part_here s k All h) (g.parts k h));
    assertions = at_every (SoundIn (sheet_of s)) (sheet_of s).assertions (of_table assertion_at s 4 0) (λ k l.
        let h : k < count_of s 4 = rw assertions_length at l in
        rw (grammar_is, text_is s g, rows_length s, parts_length s, assertion_here s k (of_table assertion_at s 4 0) h) (g.assertions k h));
  }

  pub given_classes : (ws : List ℕ) (free : List Bool) (slot : List ℕ) → some_compares (sheet_of s) ≡ false → Holders (grammar_of s) (count_of s 2) ws → Free (sheet_of s) free → Given ws free slot
      → Classes (opens (sheet_of s)) slot
  given_classes ws free slot n h x f b c l m p d =
      let o = f.free b l p in
      let q = f.free c m (omega arith) in
      let few : length (grammar_of s).rows ≤ 256 = rw rows_length (g.counts 2 (omega arith)).1 in
      untold_alike (sheet_of s) b c
      (record {
        letter_one = x.letters b l o;
        letter_two = x.letters c m q;
        rows = rw grammar_is (rows_same (grammar_of s) ws few (rw rows_length h) b c l m (f.alike b c l m p d));
        absent_one = x.text b o;
        absent_two = x.text c q;
      }) accepted_inside n

-- ---- no byte has a slot

pub none_classes : (k : ℕ) (opens : ℕ → List ℕ → Bool) → Classes opens (replicate k 0)
none_classes k opens b c l m p d = absurd (omega (arith, zero_at k b))
