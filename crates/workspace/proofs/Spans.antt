-- Spans' numbers: what the code computes, their bound, and that different spans have different numbers.
-- Assumes nothing.
use mathlib.Core.Path.{◌≡◌, refl, ap}
use Prim.Native.Nat.{ℕ, zero, suc, ◌+◌, ◌*◌, ◌/◌, ◌≤◌, ◌<◌}
use native.Mathlib.Nat.{not-suc-le-zero}
use native.Mathlib.Decide.{dec_lt}
use native.Mathlib.Omega.{arith}
use Rattle.workspace.specs.Spans.{tri, span_at}

-- by cases on an order
pub lt_or_le {ℓ} : {P : Type ℓ} (a b : ℕ) → (a < b → P) → (b ≤ a → P) → P
lt_or_le {P = P} a b f g = go (dec_lt a b)
  where
    go : Dec (a < b) → P
    go (yes k) = f k
    go (no k) = g (omega arith)

-- 2 * tri n, without a division
pub tri_twice : (n : ℕ) → n * (n + 1) ≡ tri n * 2
unfolding tri
tri_twice zero = refl
tri_twice (suc n) = omega (arith, tri_twice n)

pub tri_is : (n : ℕ) → n * (n + 1) / 2 ≡ tri n
tri_is n = omega (arith, tri_twice n)

-- a later end lies past all starts of an earlier one
eq_of : {e f : ℕ} → f ≤ e → e < suc f → e ≡ f
eq_of k h = omega arith

tri_later : (e f : ℕ) → e < f → tri e + e < tri f
unfolding tri
tri_later e zero h = absurd (not-suc-le-zero h)
tri_later e (suc f) h = lt_or_le e f (λ k. omega (arith, tri_later e f k)) (λ k. omega (arith, ap tri (eq_of k h)))

-- a term of 60 bytes has 1,891 spans
pub span_lt : (i m : ℕ) → i + m ≤ 60 → span_at i m < 1891
unfolding span_at tri
span_lt i m h = omega (arith, tri_later (i + m) 61 (omega arith))

-- different spans have different numbers
pub span_inj : (i m j n : ℕ) → span_at i m ≡ span_at j n → (i ≡ j) × (m ≡ n)
unfolding span_at
span_inj i m j n h =
    lt_or_le (i + m) (j + n) (λ k. absurd (omega (arith, tri_later (i + m) (j + n) k)))
    (λ k. lt_or_le (j + n) (i + m) (λ k'. absurd (omega (arith, tri_later (j + n) (i + m) k'))) (λ k'. omega (arith, ap tri (same k k'))))
  where
    same : j + n ≤ i + m → i + m ≤ j + n → i + m ≡ j + n
    same k k' = omega arith
