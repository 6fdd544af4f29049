-- Laws of lists that are made in rising order: `gather`, `table_from`.
-- Assumes nothing.
use Prim.Native.Nat.{ℕ, zero, suc, ◌+◌, ◌*◌, ◌-◌, ◌≤◌, ◌<◌}
use mathlib.Core.Path.{◌≡◌, refl, sym, ap, ◌∙◌}
use mathlib.Core.Bool.{Bool, true, false, cond}
use mathlib.Core.List.{List, [], ◌++◌, append_assoc, append-nil}
use native.Mathlib.Numerals.{add-one, sub-one}
use native.Mathlib.Omega.{arith}
use native.Mathlib.Nat.{not-suc-le-zero, add-zero, add-suc, suc-add, zero-add, suc-mul, suc-sub-suc}
use lib.ListN.{length, get_or, length-append}
use lib.Seq.{ext_get_or}
use Rattle.paper.specs.Tests.{Every, table_from, gather}
use Rattle.paper.proofs.Tests.{every_append, table_length, table_at}

-- ---- each element

pub every_gather : {A : Type 0} (P : A → Type 0) (i n : ℕ) (f : ℕ → List A) → ((j : ℕ) → i ≤ j → j < i + n → Every P (f j)) → Every P (gather i n f)
unfolding gather
every_gather P i zero f h = tt
every_gather P i (suc n) f h = every_append P (f i) (gather (suc i) n f) (h i (omega arith) (omega arith)) (every_gather P (suc i) n f (λ j l u. h j (omega arith) (omega arith)))

pub every_cond : {A : Type 0} (P : A → Type 0) (b : Bool) (s : List A) → (b ≡ true → Every P s) → Every P (cond b s [])
every_cond P true s h = h refl
every_cond P false s h = tt

pub every_table : {A : Type 0} (P : A → Type 0) (i n : ℕ) (f : ℕ → A) → ((j : ℕ) → j < n → P (f (i + j))) → Every P (table_from i n f)
unfolding table_from
every_table P i zero f h = tt
every_table P i (suc n) f h = (rw add-zero at (h 0 (omega arith)), every_table P (suc i) n f (λ j l. rw (suc-add, ← add-suc) (h (suc j) (omega arith))))

-- ---- tables

-- a list that is known at each place
pub table_is : {A : Type 0} (n : ℕ) (f : ℕ → A) (d : A) (s : List A) → length s ≡ n → ((k : ℕ) → k < n → f k ≡ get_or s k d) → table_from 0 n f ≡ s
table_is n f d s e h =
    ext_get_or d (table_from 0 n f) s (table_length 0 n f ∙ sym e)
    (λ k l. let m : k < n = omega (arith, table_length 0 n f) in table_at 0 n f d k m ∙ rw zero-add (h k m))

-- ---- gathered lists

pub gather_suc : {A : Type 0} (i n : ℕ) (f : ℕ → List A) → gather i (suc n) f ≡ gather i n f ++ f (i + n)
unfolding gather
gather_suc i zero f = rw (add-zero, append-nil)
gather_suc i (suc n) f = rw (append_assoc, add-suc, ← suc-add) (ap (λ (s : List _). f i ++ s) (gather_suc (suc i) n f))

-- the part of number k, between those before it and those after it
pub gather_at : {A : Type 0} (i n : ℕ) (f : ℕ → List A) (k : ℕ) → k < n → gather i n f ≡ gather i k f ++ (f (i + k) ++ gather (i + suc k) (n - suc k) f)
unfolding gather
gather_at i zero f k l = absurd (not-suc-le-zero l)
gather_at i (suc n) f zero l = rw (add-zero, add-one, sub-one)
gather_at i (suc n) f (suc k) l =
    rw (append_assoc, add-suc i (suc k), ← suc-add i (suc k), add-suc i k, ← suc-add i k, suc-sub-suc) (ap (λ (s : List _). f i ++ s) (gather_at (suc i) n f k (omega arith)))

pub gather_length : {A : Type 0} (c i n : ℕ) (f : ℕ → List A) → ((j : ℕ) → length (f j) ≡ c) → length (gather i n f) ≡ n * c
unfolding gather
gather_length c i zero f h = omega arith
gather_length c i (suc n) f h = rw (length-append, suc-mul) (omega (arith, h i, gather_length c (suc i) n f h))

pub gather_most : {A : Type 0} (c i n : ℕ) (f : ℕ → List A) → ((j : ℕ) → i ≤ j → j < i + n → length (f j) ≤ c) → length (gather i n f) ≤ n * c
unfolding gather
gather_most c i zero f h = omega arith
gather_most c i (suc n) f h = rw (length-append, suc-mul) (omega (arith, h i (omega arith) (omega arith), gather_most c (suc i) n f (λ j l u. h j (omega arith) (omega arith))))

-- the first parts are no longer than more of them
pub gather_rises : {A : Type 0} (i k n : ℕ) (f : ℕ → List A) → k ≤ n → length (gather i k f) ≤ length (gather i n f)
unfolding gather
gather_rises i zero n f h = omega arith
gather_rises i (suc k) zero f h = absurd (not-suc-le-zero h)
gather_rises i (suc k) (suc n) f h = rw (length-append, length-append) (omega (arith, gather_rises (suc i) k n f (omega arith)))
