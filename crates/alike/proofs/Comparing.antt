-- Whether a read sheet compares v with v, by the places of its tables.
-- Assumes nothing.
use Prim.Native.Nat.{ℕ, zero, suc, ◌+◌, ◌≤◌, ◌<◌}
use native.Mathlib.Nat.{add-zero, add-suc, suc-add}
use native.Mathlib.Numerals.{add-one}
use Rattle.std.specs.List.{list_any, range_with_len}
use mathlib.Core.Path.{◌≡◌, sym, ap, ◌∙◌}
use mathlib.Core.Bool.{Bool, true}
use mathlib.Core.List.{List}
use native.Mathlib.Omega.{arith}
use lib.ListN.{length, get_or, take, drop, length-drop}
use lib.Seq.{length-take-le, get_or-take, get_or-drop}
use Rattle.paper.specs.Tests.{any_below}
use Rattle.paper.specs.Trailer.{count_of}
use Rattle.paper.specs.Terms.{All}
use Rattle.paper.specs.Sheet.{Run, parts_of, of_table, table_of, part_at, assertion_at, sheet_of}
use Rattle.paper.proofs.Tests.{same_test, any_intro, any_elim, any_none, any_first, any_of_below, any_of_table}
use Rattle.sheet_contents.specs.declared.Part.{Part}
use Rattle.sheet_contents.specs.declared.Assertion.{Assertion}
use Rattle.sheet_contents.specs.Read.{as_part, as_assertion}
use Rattle.sheet.specs.Readers.{PartRead, AssertionRead}
use Rattle.sheet.proofs.Contents.{parts_length, part_here, assertion_here}
use Rattle.alike.specs.Untold.{of_v, uses_v, compares_v, some_compares}

any_as : (n : ℕ) (f g : ℕ → Bool) → ((k : ℕ) → k < n → f k ≡ g k) → any_below n f ≡ any_below n g
any_as n f g h = same_test _ _ (λ e. one f g h e) (λ e. one g f (λ k l. sym (h k l)) e)
  where
    one : (f g : ℕ → Bool) → ((k : ℕ) → k < n → f k ≡ g k) → any_below n f ≡ true → any_below n g ≡ true
    one f g h e =
        let z = any_elim n f e in
        any_intro n g z.0 z.1 (sym (h z.0 z.1) ∙ z.2)

-- some number of a range
any_range : (p : ℕ → Bool) (a n : ℕ) → list_any p (range_with_len a n) ≡ any_below n (λ k. p (a + k))
any_range p a zero = sym (any_none (λ k. p (a + k)))
any_range p a (suc n) = rw (any_range p (a + 1) n, any_first n (λ k. p (a + k))) (simp (add-zero, add-suc, add-one, suc-add))

module _ (s : List ℕ) where
  -- part k of the sheet is all of v or a cut of it
  abbrev pub of_v_at : ℕ → Bool
  of_v_at k = of_v (of_table part_at s 3 k)

  pub part_told : (k : ℕ) (p : Part) → k < count_of s 3 → PartRead s k p → of_v (as_part p) ≡ of_v_at k
  part_told k p l h = ap of_v (h.same All ∙ part_here s k All l)

  -- part k of a run is
  abbrev pub in_term : (first k : ℕ) → Bool
  in_term first k = of_v_at (first + k)

  pub uses_below : (r : Run) → r.first + r.count ≤ count_of s 3 → uses_v (sheet_of s) r ≡ any_below r.count (in_term r.first)
  unfolding uses_v parts_of
  uses_below r h =
      let rest = drop r.first (sheet_of s).parts in
      let l : length (take r.count rest) ≡ r.count = length-take-le r.count rest (rw length-drop (omega (arith, parts_length s))) in
      any_of_below of_v (take r.count rest) All ∙ ap (λ (n : ℕ). any_below n (λ k. of_v (get_or (take r.count rest) k All))) l ∙
      any_as r.count _ (in_term r.first)
      (λ k i. ap of_v (get_or-take r.count rest k All i ∙ get_or-drop r.first (sheet_of s).parts k All ∙ part_here s (r.first + k) All (omega arith)))

  pub uses_any : (r : Run) → r.first + r.count ≤ count_of s 3 → list_any of_v_at (range_with_len r.first r.count) ≡ uses_v (sheet_of s) r
  uses_any r h = any_range of_v_at r.first r.count ∙ sym (uses_below r h)

  -- assertion i compares v with v
  abbrev pub compares_at : ℕ → Bool
  compares_at i = compares_v (sheet_of s) (of_table assertion_at s 4 i)

  pub assertion_told : (i : ℕ) (a : Assertion) → i < count_of s 4 → AssertionRead s i a → compares_v (sheet_of s) (as_assertion a) ≡ compares_at i
  assertion_told i a l h = let d = of_table assertion_at s 4 0 in ap (compares_v (sheet_of s)) (h.same d ∙ assertion_here s i d l)

  pub some_any : list_any compares_at (range_with_len 0 (count_of s 4)) ≡ some_compares (sheet_of s)
  unfolding some_compares sheet_of table_of
  some_any = any_range compares_at 0 (count_of s 4) ∙ sym (any_of_table (compares_v (sheet_of s)) 0 (count_of s 4) (of_table assertion_at s 4))
