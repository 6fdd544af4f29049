-- What the walk under a budget comes to is what is demanded of an answer.
-- Assumes nothing.
use Prim.Native.Nat.{ℕ, ◌<◌, ◌≤◌}
use mathlib.Core.Path.{◌≡◌, refl}
use mathlib.Core.Logic.{◌⊎◌, inl, inr}
use mathlib.Core.List.{List}
use native.Mathlib.Omega.{arith}
use Rattle.paper.specs.Sheet.{Sheet}
use Rattle.paper.specs.Satisfy.{Satisfies}
use Rattle.paper.specs.Order.{FirstOf}
use Rattle.paper.specs.Walk.{Walked, found, none, count}
use Rattle.paper.specs.Answers.{Found, None, Spent, report_of, out_after, walk_of, whole, under}
use Rattle.paper.proofs.Budget.{under_cases}
use Rattle.paper.proofs.Meaning.{walk_right}
use Rattle.demands.specs.Solved.{Answered}

-- the number of trials that the sheet's walk needs
abbrev pub needed : Sheet → ℕ
needed S = count (walk_of S)

module _ (S : Sheet) (some : 0 < needed S) (budget : ℕ) (out : List ℕ) where
  spent_answered : budget < needed S → Answered S (needed S) budget out (out_after (Spent budget) out) (report_of (Spent budget))
  spent_answered h = record {
    spent = ((λ q. h), (λ q. refl));
    none = ((λ q. absurd (omega arith)), (λ q. absurd (omega (arith, h, q.0))));
    found = ((λ q. absurd (omega arith)), (λ q. absurd (omega (arith, h, q.0))));
    first = λ q. absurd (omega arith);
    one_of_three = omega arith;
    trials = λ q. absurd (omega arith);
    budget_trials = λ q. refl;
    zero_spent = λ q. refl;
    wordless = λ q. (refl, refl);
  }

  found_answered : (w : List ℕ) (t : ℕ) → needed S ≡ t → needed S ≤ budget → FirstOf (Satisfies S) (found w t)
      → Answered S (needed S) budget out (out_after (Found w t) out) (report_of (Found w t))
  found_answered w t e h f = record {
    spent = ((λ q. absurd (omega arith)), (λ q. absurd (omega (arith, h, q))));
    none = ((λ q. absurd (omega arith)), (λ q. absurd (q.1 (w, f.0))));
    found = ((λ q. (h, (w, f.0))), (λ q. refl));
    first = λ q. record { word = w; long = refl; bytes = refl; satisfies = f.0; first = f.1 };
    one_of_three = omega arith;
    trials = λ q. omega (arith, e);
    budget_trials = λ q. absurd (omega arith);
    zero_spent = λ q. absurd (omega (arith, some, h));
    wordless = λ q. absurd (omega arith);
  }

  none_answered : (t : ℕ) → needed S ≡ t → needed S ≤ budget → FirstOf (Satisfies S) (none t)
      → Answered S (needed S) budget out (out_after (None t) out) (report_of (None t))
  none_answered t e h f = record {
    spent = ((λ q. absurd (omega arith)), (λ q. absurd (omega (arith, h, q))));
    none = ((λ q. (h, λ k. f k.0 k.1)), (λ q. refl));
    found = ((λ q. absurd (omega arith)), (λ q. absurd (f q.1.0 q.1.1)));
    first = λ q. absurd (omega arith);
    one_of_three = omega arith;
    trials = λ q. omega (arith, e);
    budget_trials = λ q. absurd (omega arith);
    zero_spent = λ q. absurd (omega (arith, some, h));
    wordless = λ q. (refl, refl);
  }

  by_outcome : (o : Walked) → walk_of S ≡ o → needed S ≤ budget → FirstOf (Satisfies S) o → Answered S (needed S) budget out (out_after (whole o) out) (report_of (whole o))
  by_outcome (found w t) e h f = found_answered w t (rw e) h f
  by_outcome (none t) e h f = none_answered t (rw e) h f

  pub answered : Answered S (needed S) budget out (out_after (under budget (walk_of S)) out) (report_of (under budget (walk_of S)))
  answered = go (under_cases budget (walk_of S))
    where
      go : ((budget < needed S) × (under budget (walk_of S) ≡ Spent budget)) ⊎ ((needed S ≤ budget) × (under budget (walk_of S) ≡ whole (walk_of S)))
          → Answered S (needed S) budget out (out_after (under budget (walk_of S)) out) (report_of (under budget (walk_of S)))
      go (inl e) = rw e.1 (spent_answered e.0)
      go (inr e) = rw e.1 (by_outcome (walk_of S) refl e.0 (walk_right S))
