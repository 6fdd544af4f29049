-- An accepted sheet's rows are a grammar as the maker supposes it.
-- Assumes nothing.
use Prim.Native.Nat.{ℕ, ◌<◌}
use mathlib.Core.Path.{◌≡◌}
use mathlib.Core.List.{List}
use lib.ListN.{length}
use native.Mathlib.Omega.{arith}
use Rattle.paper.specs.Trailer.{count_of}
use Rattle.paper.specs.Sheet.{grammar_of}
use Rattle.paper.proofs.Sound.{Sound}
use Rattle.sheet.specs.Good.{Good}
use Rattle.sheet.proofs.Contents.{rows_length, text_length, row_here}

module _ (s : List ℕ) (g : Good s) where
  pub text_is : length (grammar_of s).text ≡ count_of s 1
  unfolding grammar_of
  text_is = text_length s g

  pub good_sound : 0 < count_of s 2 → Sound (grammar_of s)
  good_sound some = record {
    some = rw rows_length some;
    few = rw rows_length (g.counts 2 (omega arith)).1;
    short = rw text_is (g.counts 1 (omega arith)).1;
    each = λ r h. let l : r < count_of s 2 = rw rows_length at h in rw (text_is, rows_length s, row_here s r l) (g.rows r l);
  }
