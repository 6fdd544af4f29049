-- The walk whose trials are reported is the paper's: on an accepted sheet a prefix is judged open exactly when it is `Open`.
-- Assumes nothing.
use Prim.Native.Nat.{ℕ, ◌<◌}
use mathlib.Core.Path.{◌≡◌, refl, sym, ap, fun_ext, ◌∙◌}
use mathlib.Core.Bool.{Bool, true}
use mathlib.Core.Logic.{◌↔◌}
use mathlib.Core.List.{List}
use native.Mathlib.Omega.{arith}
use Rattle.paper.specs.Bytes.{OfBytes}
use Rattle.paper.specs.Refusals.{latest, Accepted}
use Rattle.paper.specs.Sheet.{Sheet, letter, sheet_of}
use Rattle.paper.specs.Open.{Open}
use Rattle.paper.specs.Opens.{opens}
use Rattle.paper.specs.Walk.{count, walk}
use Rattle.paper.specs.Answers.{walk_of}
use Rattle.paper.proofs.Tests.{same_test}
use Rattle.paper.proofs.Budget.{count_walk}
use Rattle.paper.proofs.Meaning.{opens_right}
use Rattle.sheet.proofs.Good.{good}
use Rattle.sheet.proofs.Contents.{some_letter_lem}
use Rattle.demands.specs.Solved.{Counted}
use Rattle.demands.proofs.Answering.{needed}

-- what is counted is one number
pub counted_once : (S : Sheet) (k m : ℕ) → Counted S k → Counted S m → k ≡ m
counted_once S k m c d =
    c.trials ∙ ap (λ (j : ℕ → List ℕ → Bool). count (walk (letter S) j S.shortest S.longest)) (fun_ext (λ n. fun_ext (λ p. same n p))) ∙ sym d.trials
  where
    same : (n : ℕ) (p : List ℕ) → c.judge n p ≡ d.judge n p
    same n p = same_test _ _ (λ e. (d.right n p).1 ((c.right n p).0 e)) (λ e. (c.right n p).1 ((d.right n p).0 e))

module _ (sheet : List ℕ) (a : Accepted sheet) where
  -- at least the empty prefix is judged
  pub some_trial : 0 < needed (sheet_of sheet)
  unfolding walk_of sheet_of
  some_trial = count_walk _ _ _ _ (good latest sheet (omega arith) a).pair

  module _ (b : OfBytes sheet) where
    -- the judgement is right, since an accepted sheet has a letter
    pub judged_open : (n : ℕ) (p : List ℕ) → (opens (sheet_of sheet) n p ≡ true) ↔ Open (sheet_of sheet) n p
    judged_open = let l = some_letter_lem sheet b (good latest sheet (omega arith) a) in opens_right (sheet_of sheet) (l.0, l.2)

    pub trials_counted : Counted (sheet_of sheet) (needed (sheet_of sheet))
    unfolding walk_of
    trials_counted = record { judge = opens (sheet_of sheet); right = judged_open; trials = refl }
