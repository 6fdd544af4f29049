-- Each number below n tested in rising order: one more that passes, and all of them by a range.
-- Assumes nothing.
use Prim.Native.Nat.{ℕ, ◌+◌, ◌<◌}
use mathlib.Core.Path.{◌≡◌, ◌∙◌}
use mathlib.Core.Bool.{Bool, true}
use native.Mathlib.Nat.{zero-add}
use native.Mathlib.Omega.{arith}
use lib.ListN.{get_or}
use Rattle.std.specs.List.{list_all, range_with_len}
use Rattle.std.proofs.lemmas.List.FromFn.{length-range_with_len, get_or-range_with_len}
use Rattle.std.proofs.lemmas.List.Sums.{AllPass-from_list_all, list_all-from_AllPass}
use native.Mathlib.Numerals.{add-one}
use Rattle.paper.specs.Tests.{all_below}
use Rattle.paper.proofs.Tests.{and_intro, same_test, all_suc, all_intro, all_elim}

pub all_more : (f : ℕ → Bool) (j : ℕ) → all_below j f ≡ true → f j ≡ true → all_below (j + 1) f ≡ true
all_more f j h e = rw (add-one, all_suc j f) (and_intro e h)

pub all_range : (f : ℕ → Bool) (n : ℕ) → list_all f (range_with_len 0 n) ≡ all_below n f
all_range f n = same_test (list_all f (range_with_len 0 n)) (all_below n f) there back
  where
    at : (k d : ℕ) → k < n → get_or (range_with_len 0 n) k d ≡ k
    at k d l = get_or-range_with_len 0 n k d l ∙ zero-add k

    there : list_all f (range_with_len 0 n) ≡ true → all_below n f ≡ true
    there e = all_intro n f (λ k l. rw (at k 0 l) at (AllPass-from_list_all f (range_with_len 0 n) e k 0 (omega (arith, length-range_with_len 0 n))))

    back : all_below n f ≡ true → list_all f (range_with_len 0 n) ≡ true
    back e = list_all-from_AllPass f (range_with_len 0 n) (λ k d l.
        let h : k < n = omega (arith, length-range_with_len 0 n) in
        rw (at k d h) (all_elim n f e k h))
