-- Laws of the remembered counts.
use mathlib.Core.Path.{◌≡◌, refl, sym, ap, ◌∙◌}
use mathlib.Core.Logic.{◌≢◌, ◌⊎◌, inl, inr}
use mathlib.Core.List.{List, [], ◌∷◌}
use Prim.Native.Nat.{ℕ, zero, suc, ◌-◌, ◌<◌}
use native.Mathlib.Omega.{arith}
use native.Mathlib.Decide.{ℕ_discrete}
use borrow.Author.Tests.{eq-eqb, ne_eqb}
use lib.ListN.{get_or, set, replicate}
use lib.Seq.{get_or-set_other}
use Rattle.std.specs.Prelude.{Option, Some, None}
use Rattle.std.proofs.lemmas.Option.{none-some, same_Some}
use Rattle.walk.specs.Counts.{Counts, count_at, seen_at, noted_at, forgotten}

-- a count that is seen is that of a slot
pub seen_known : (m : Counts) (k s x : ℕ) → seen_at m k s ≡ Some x → (0 < s) × (count_at m (k - 1) s ≡ Some x)
unfolding seen_at
seen_known m k s x h = go (ℕ_discrete s 0)
  where
    go : Dec (s ≡ 0) → (0 < s) × (count_at m (k - 1) s ≡ Some x)
    go (yes e) = absurd (none-some x (rw (eq-eqb s 0 e) at h))
    go (no e) = (omega arith, rw (ne_eqb s 0 e) at h)

-- an entry after one was set: as it was, or the one that was set
set_cases : {A : Type 0} (l : List A) (i : ℕ) (a : A) (j : ℕ) (d : A) → (get_or (set l i a) j d ≡ get_or l j d) ⊎ ((j ≡ i) × (get_or (set l i a) j d ≡ a))
set_cases [] i a j d = inl refl
set_cases (x ∷ l) zero a zero d = inr (refl, refl)
set_cases (x ∷ l) zero a (suc j) d = inl refl
set_cases (x ∷ l) (suc i) a zero d = inl refl
set_cases (x ∷ l) (suc i) a (suc j) d = elim (set_cases l i a j d) [ inl e ↦ inl e | inr p ↦ inr (ap suc p.0, p.1) ]

-- a count after one was noted: that one, or as it was
pub noted_count : (m : Counts) (k s t j r x : ℕ) → count_at (noted_at m k s t) j r ≡ Some x → ((j ≡ k - 1) × (r ≡ s) × (t ≡ x)) ⊎ (count_at m j r ≡ Some x)
noted_count m k s t j r x h = place (set_cases m (k - 1) row j [])
  where
    row : List (Option ℕ)
    row = set (get_or m (k - 1) []) s (Some t)

    slot : j ≡ k - 1 → get_or row r None ≡ Some x
        → (get_or row r None ≡ get_or (get_or m (k - 1) []) r None) ⊎ ((r ≡ s) × (get_or row r None ≡ Some t)) → ((j ≡ k - 1) × (r ≡ s) × (t ≡ x)) ⊎ (count_at m j r ≡ Some x)
    slot e g (inl same) = inr (rw e (sym same ∙ g))
    slot e g (inr p) = inl (e, p.0, same_Some t x (sym p.1 ∙ g))

    place : (get_or (set m (k - 1) row) j [] ≡ get_or m j []) ⊎ ((j ≡ k - 1) × (get_or (set m (k - 1) row) j [] ≡ row)) → ((j ≡ k - 1) × (r ≡ s) × (t ≡ x)) ⊎ (count_at m j r ≡ Some x)
    place (inl same) = inr (rw same at h)
    place (inr p) = slot p.0 (rw p.1 at h) (set_cases (get_or m (k - 1) []) s (Some t) r None)

-- ---- a place's counts forgotten

all_none : (n r : ℕ) → ◌≡◌ {A = Option ℕ} (get_or (replicate n None) r None) None
all_none zero r = refl
all_none (suc n) zero = refl
all_none (suc n) (suc r) = all_none n r

pub forgotten_here : (m : Counts) (k r : ℕ) → count_at (forgotten m k) k r ≡ None
forgotten_here [] k r = refl
forgotten_here (x ∷ m) zero r = all_none 8 r
forgotten_here (x ∷ m) (suc k) r = forgotten_here m k r

pub forgotten_other : (m : Counts) (k j r : ℕ) → j ≢ k → count_at (forgotten m k) j r ≡ count_at m j r
forgotten_other m k j r ne = ap (λ row. get_or row r None) (get_or-set_other m k j (replicate 8 None) [] ne)
