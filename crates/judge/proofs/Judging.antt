-- One assertion, and all of them.
use Prim.Native.Nat.{ℕ, ◌+◌, ◌<◌, ◌≤◌}
use mathlib.Core.Path.{◌≡◌, refl, sym, ap, ◌∙◌}
use mathlib.Core.Bool.{Bool, true, false, not, beq}
use mathlib.Core.List.{List}
use native.Mathlib.Omega.{arith}
use borrow.Author.Count.{below_more}
use lib.ListN.{get_or}
use Rattle.std.proofs.Common.{Option, None}
use Rattle.sheet_contents.specs.declared.Run as code
use Rattle.paper.specs.Tests.{any_of, all_of}
use Rattle.paper.specs.Trailer.{count_of, longest}
use Rattle.paper.specs.Terms.{Place, cut_inside}
use Rattle.paper.specs.Sheet.{Sheet, Assertion, Derived, Run, second_run, parts_of, inside, sheet_of}
use Rattle.paper.specs.Open.{term_on}
use Rattle.paper.specs.Opens.{is_unknown, can_hold, can_fail, can, possible, opens_on}
use Rattle.paper.proofs.Tests.{at_all_of}
use Rattle.sheet.specs.Readers.{Told}
use Rattle.sheet.proofs.Contents.{assertions_length}
use Rattle.terms.specs.declared.places.Places.{Places}
use Rattle.terms.specs.Shown.{shown, Readable}
use Rattle.terms.proofs.Joining.{one_fails}
use Rattle.judge.specs.Charts.{Keeps}
use Rattle.judge.specs.Judged.{Judged}
use Rattle.judge.proofs.Holding.{none_held}

-- ---- the sign

signed : (x : Bool) → (not (beq x true) ≡ not x) × (not (beq x false) ≡ x)
signed true = (refl, refl)
signed false = (refl, refl)

module _ (S : Sheet) (a : Assertion) (T U : List Place) where
  pub can_unknown : a.denied ≡ true → true ≡ any_of is_unknown T → true ≡ can S a T U
  unfolding can can_fail
  can_unknown d e = rw (d, ← e)

  pub can_unknown_2 : a.denied ≡ true → false ≡ any_of is_unknown T → true ≡ any_of is_unknown U → true ≡ can S a T U
  unfolding can can_fail
  can_unknown_2 d e f = rw (d, ← e, ← f)

  pub can_asserted : (x : Bool) → a.denied ≡ false → x ≡ can_hold S a.claim T U → not (beq x a.denied) ≡ can S a T U
  unfolding can
  can_asserted x d e = rw (d, (signed x).1, e)

  pub can_denied : (x : Bool) → a.denied ≡ true → false ≡ any_of is_unknown T → false ≡ any_of is_unknown U → x ≡ can_hold S a.claim T U → not (beq x a.denied) ≡ can S a T U
  unfolding can can_fail
  can_denied x d e f g = rw (d, ← e, ← f, (signed x).0, g)

-- ---- the cuts

-- no cut of a run of parts reaches past n
abbrev run_inside : Sheet → ℕ → Run → Bool
run_inside S n r = all_of (cut_inside S.rules n) (parts_of S r)

-- the second term's run, as the code has it
module _ (S : Sheet) (a : Assertion) (second : Run) (is : second ≡ second_run a.claim) (n : ℕ) (W : List Place) where
  pub outside_first : false ≡ run_inside S n a.term → false ≡ possible S n W a
  unfolding possible inside
  outside_first e = rw (← e)

  pub outside_second : true ≡ run_inside S n a.term → false ≡ run_inside S n second → false ≡ possible S n W a
  unfolding possible inside
  outside_second e f = rw (← e, ← is, ← f)

  pub inside_both : (T U : List Place) (x : Bool) → true ≡ run_inside S n a.term → true ≡ run_inside S n second
      → T ≡ term_on S W a.term → U ≡ term_on S W second → x ≡ can S a T U → x ≡ possible S n W a
  unfolding possible inside
  inside_both T U x e f t u h = rw (← e, ← is, ← f, ← t, ← u) h

-- an accepted assertion's terms can be laid out
module _ (s : List ℕ) (a : Assertion) (t : Told s a) (second : Run) (is : second ≡ second_run a.claim) where
  pub second_run_lem : second.first + second.count ≤ count_of s 3
  second_run_lem = rw is t.sound.second

  module _ (n : ℕ) (h : n ≤ longest s) where
    pub readable_first : Readable s n a.term
    readable_first = record { short = h; run = t.sound.run; fits = t.term }

    pub readable_second : Readable s n second
    readable_second = record { short = h; run = second_run_lem; fits = rw is t.second }

-- ---- all assertions

-- what stands for an assertion that is not there
pub no_assertion : Assertion
no_assertion = record { claim = Derived 0; denied = false; term = record { first = 0; count = 0 } }

-- the first i assertions are possible, and the workspace holds what it is said to hold
pub record Upto (s : List ℕ) (v : Places) (i : ℕ) (h : Option code.Run) (work : List ℕ) : Type 0 where
  pub possible : (j : ℕ) → j < i → possible (sheet_of s) v.len (shown v) (get_or (sheet_of s).assertions j no_assertion) ≡ true
  pub keeps : Keeps s (shown v) h work

module _ (s : List ℕ) (v : Places) where
  pub upto_none : (work : List ℕ) → Upto s v 0 None work
  upto_none work = record { possible = λ j l. absurd (omega arith); keeps = none_held s (shown v) work }

  pub upto_all : (i : ℕ) (h : Option code.Run) (work : List ℕ) → Upto s v i h work → count_of s 4 ≤ i → true ≡ opens_on (sheet_of s) v.len (shown v)
  unfolding opens_on
  upto_all i h work u l =
      sym (at_all_of (possible (sheet_of s) v.len (shown v)) (sheet_of s).assertions no_assertion (λ k m. u.possible k (omega (arith, assertions_length s, m))))

  module _ (i : ℕ) (h : Option code.Run) (old new : List ℕ) (u : Upto s v i h old)
      (a : Assertion) (here : (d : Assertion) → a ≡ get_or (sheet_of s).assertions i d) (ok : Bool) (after : Option code.Run) (j : Judged s v a ok after new) where
    judged_here : possible (sheet_of s) v.len (shown v) (get_or (sheet_of s).assertions i no_assertion) ≡ ok
    judged_here = ap (possible (sheet_of s) v.len (shown v)) (sym (here no_assertion)) ∙ sym j.right

    pub upto_more : ok ≡ true → Upto s v (i + 1) after new
    upto_more e = record {
      possible = below_more _ _ u.possible (judged_here ∙ e);
      keeps = j.keeps;
    }

    pub upto_shut : i < count_of s 4 → ok ≡ false → false ≡ opens_on (sheet_of s) v.len (shown v)
    unfolding opens_on
    upto_shut l e =
        one_fails (possible (sheet_of s) v.len (shown v)) (sheet_of s).assertions no_assertion i (omega (arith, assertions_length s)) (judged_here ∙ e)
