-- What is remembered of the children of each prefix of the one at hand, after each step.
use mathlib.Core.Path.{◌≡◌, sym, ◌∙◌}
use mathlib.Core.Logic.{◌⊎◌, inl, inr}
use Prim.Native.Nat.{ℕ, suc, ◌-◌, ◌<◌}
use native.Mathlib.Omega.{arith}
use native.Mathlib.Decide.{ℕ_discrete}
use mathlib.Core.Bool.{Bool}
use mathlib.Core.List.{List, [], ◌∷◌, ◌++◌}
use lib.ListN.{length, take, get_or, set}
use lib.Seq.{take-set-le, take-suc}
use Rattle.std.specs.Prelude.{Some}
use Rattle.std.proofs.lemmas.Option.{none-some}
use Rattle.paper.specs.Walk.{none, tree}
use Rattle.walk.specs.Counts.{Counts, count_at, noted_at, forgotten}
use Rattle.walk.specs.Progress.{Alike, Done, Knows}
use Rattle.walk.proofs.Alike.{none_alike}
use Rattle.walk.proofs.Counts.{noted_count, forgotten_here, forgotten_other}

module _ (is : ℕ → Bool) (slot : List ℕ) (opens : ℕ → List ℕ → Bool) where
  pub knows_back : (n k : ℕ) (w : List ℕ) (m : Counts) → Knows is slot opens n (suc k) w m → Knows is slot opens n k w m
  knows_back n k w m y = record { each = λ j c x h l p q. y.each j c x (omega arith) l p q }

  pub knows_set : (n k : ℕ) (w : List ℕ) (m : Counts) (b : ℕ) → Knows is slot opens n (suc k) w m → Knows is slot opens n (suc k) (set w k b) m
  knows_set n k w m b y = record { each = λ j c x h l p q. rw (take-set-le j w k b (omega arith)) (y.each j c x (omega arith) l p q) }

  pub knows_down : (n k : ℕ) (w : List ℕ) (m : Counts) (b : ℕ) → Knows is slot opens n k w m → Knows is slot opens n (suc k) (set w k b) (forgotten m k)
  knows_down n k w m b y = record { each = λ j c x h l p q. go j c x h l p q (ℕ_discrete j k) }
    where
      go : (j c x : ℕ) → j < suc k → c < 256 → 0 < get_or slot c 0 → count_at (forgotten m k) j (get_or slot c 0) ≡ Some x → Dec (j ≡ k)
          → tree is opens n (n - suc j) (take j (set w k b) ++ (c ∷ [])) ≡ none x
      go j c x h l p q (yes e) = absurd (none-some x (sym (forgotten_here m k (get_or slot c 0)) ∙ rw e at q))
      go j c x h l p q (no e) = rw (take-set-le j w k b (omega arith)) (y.each j c x (omega arith) l p (sym (forgotten_other m k j (get_or slot c 0) e) ∙ q))

  pub knows_note : (n k : ℕ) (w s : List ℕ) (m : Counts) (t : ℕ) → k < length w → get_or w k 0 < 256
      → ((c : ℕ) → c < 256 → 0 < get_or slot (get_or w k 0) 0 → get_or slot (get_or w k 0) 0 ≡ get_or slot c 0 → Alike opens (get_or w k 0) c)
      → Done is opens n (suc k) w s t
      → Knows is slot opens n (suc k) w m → Knows is slot opens n (suc k) w (noted_at m (suc k) (get_or slot (get_or w k 0) 0) (t - get_or s (suc k) 0))
  knows_note n k w s m t h y a d kn = record { each = λ j c x i l p q. go j c x i l p (noted_count m (suc k) (get_or slot (get_or w k 0) 0) (t - get_or s (suc k) 0) j (get_or slot c 0) x q) }
    where
      go : (j c x : ℕ) → j < suc k → c < 256 → 0 < get_or slot c 0
          → ((j ≡ suc k - 1) × (get_or slot c 0 ≡ get_or slot (get_or w k 0) 0) × (t - get_or s (suc k) 0 ≡ x)) ⊎ (count_at m j (get_or slot c 0) ≡ Some x)
          → tree is opens n (n - suc j) (take j w ++ (c ∷ [])) ≡ none x
      go j c x i l p (inl e) =
          let z : j ≡ k = omega (arith, e.0) in
          rw (z, ← e.2) (none_alike is opens (get_or w k 0) c (a c l (omega (arith, e.1)) (sym e.1)) n (n - suc k) (t - get_or s (suc k) 0) (take k w) (rw (take-suc w k 0 h) at d.gone))
      go j c x i l p (inr e) = kn.each j c x i l p e
