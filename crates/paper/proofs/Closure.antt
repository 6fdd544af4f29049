-- The least set of numbers below R that a monotone rule puts in, found by R rounds from the empty set: stated once, used for "derives the empty word" and for
-- "reaches". A set is a list of R tests, so that each round is computed once.
-- Assumes nothing.
use Prim.Native.Nat.{ℕ, zero, suc, ◌+◌, ◌≤◌, ◌<◌, zero-le}
use mathlib.Core.Path.{◌≡◌, refl, sym, ◌∙◌}
use mathlib.Core.Bool.{Bool, true, false, cond, true≢false}
use mathlib.Core.Logic.{◌⊎◌, inl, inr, ◌≢◌}
use native.Mathlib.Omega.{arith}
use native.Mathlib.Decide.{ℕ_discrete}
use native.Mathlib.Nat.{not-suc-le-zero, eq-or-lt_of_le, le_of_suc-le-suc, le_refl, add-zero, add-suc, suc-add, zero-add}
use Rattle.paper.specs.Tests.{table_from}
use Rattle.paper.specs.Decide.{has, rounds, closure}
use Rattle.paper.proofs.Tests.{same_test}

abbrev pub Below : (ℕ → Bool) → (ℕ → Bool) → Type 0
Below s t = (j : ℕ) → s j ≡ true → t j ≡ true

abbrev pub Monotone : ((ℕ → Bool) → ℕ → Bool) → Type 0
Monotone rule = (s t : ℕ → Bool) → Below s t → Below (rule s) (rule t)

-- ---- the table

table_intro : (i n : ℕ) (f : ℕ → Bool) (k : ℕ) → k < n → f (i + k) ≡ true → has (table_from i n f) k ≡ true
unfolding table_from
table_intro i zero f k h e = absurd (not-suc-le-zero h)
table_intro i (suc n) f zero h e = rw add-zero at e
table_intro i (suc n) f (suc k) h e = table_intro (suc i) n f k (le_of_suc-le-suc h) (rw (suc-add, ← add-suc) e)

table_elim : (i n : ℕ) (f : ℕ → Bool) (k : ℕ) → has (table_from i n f) k ≡ true → (k < n) × (f (i + k) ≡ true)
unfolding table_from
table_elim i zero f k e = absurd (true≢false (sym e))
table_elim i (suc n) f zero e = (omega arith, rw add-zero e)
table_elim i (suc n) f (suc k) e = let r = table_elim (suc i) n f k e in (omega (arith, r.0), rw (add-suc, ← suc-add) r.1)

-- ---- counting

count : ℕ → (ℕ → Bool) → ℕ
count zero s = zero
count (suc n) s = cond (s n) 1 0 + count n s

count_le : (n : ℕ) (s : ℕ → Bool) → count n s ≤ n
unfolding count
count_le zero s = le_refl _
count_le (suc n) s = go (s n) (count_le n s)
  where
    go : (b : Bool) → count n s ≤ n → cond b 1 0 + count n s ≤ suc n
    go true h = omega arith
    go false h = omega arith

-- a full count: everything is in
count_full : (n : ℕ) (s : ℕ → Bool) → n ≤ count n s → (k : ℕ) → k < n → s k ≡ true
unfolding count
count_full zero s h k l = absurd (not-suc-le-zero l)
count_full (suc n) s h k l = go (s n) refl h (eq-or-lt_of_le (le_of_suc-le-suc l)) (λ q. count_full n s q k)
  where
    go : (b : Bool) → s n ≡ b → suc n ≤ cond b 1 0 + count n s → (k ≡ n) ⊎ (k < n) → (n ≤ count n s → k < n → s k ≡ true) → s k ≡ true
    go true p q (inl e) ih = rw e p
    go true p q (inr m) ih = ih (omega arith) m
    go false p q c ih = absurd (omega (arith, count_le n s))

-- a set that grows is the same, or its count grows
count_mono : (n : ℕ) (s t : ℕ → Bool) → Below s t → count n s ≤ count n t
unfolding count
count_mono zero s t b = le_refl _
count_mono (suc n) s t b = go (s n) (t n) (b n) (count_mono n s t b)
  where
    go : (x y : Bool) → (x ≡ true → y ≡ true) → count n s ≤ count n t → cond x 1 0 + count n s ≤ cond y 1 0 + count n t
    go true true f h = omega arith
    go true false f h = absurd (true≢false (sym (f refl)))
    go false true f h = omega arith
    go false false f h = omega arith

count_grows : (n : ℕ) (s t : ℕ → Bool) → Below s t → ((k : ℕ) → k < n → t k ≡ true → s k ≡ true) ⊎ (count n s < count n t)
unfolding count
count_grows zero s t b = inl (λ k l e. absurd (not-suc-le-zero l))
count_grows (suc n) s t b = go (s n) (t n) refl refl (count_grows n s t b)
  where
    Same : ℕ → Type 0
    Same m = (k : ℕ) → k < m → t k ≡ true → s k ≡ true

    more : (t n ≡ true → s n ≡ true) → Same n → Same (suc n)
    more f h k l e = at (eq-or-lt_of_le (le_of_suc-le-suc l))
      where
        at : (k ≡ n) ⊎ (k < n) → s k ≡ true
        at (inl q) = rw q (f (rw q at e))
        at (inr m) = h k m e

    go : (x y : Bool) → s n ≡ x → t n ≡ y → Same n ⊎ (count n s < count n t) → Same (suc n) ⊎ (cond x 1 0 + count n s < cond y 1 0 + count n t)
    go true y p q (inl h) = inl (more (λ e. p) h)
    go false true p q (inl h) = inr (omega (arith, count_mono n s t b))
    go false false p q (inl h) = inl (more (λ e. absurd (true≢false (sym e ∙ q))) h)
    go true true p q (inr h) = inr (omega arith)
    go true false p q (inr h) = absurd (true≢false (sym (b n p) ∙ q))
    go false true p q (inr h) = inr (omega arith)
    go false false p q (inr h) = inr (omega arith)

-- ---- the rounds

pub round_intro : (R : ℕ) (rule : (ℕ → Bool) → ℕ → Bool) (n k : ℕ) → k < R → rule (has (rounds R rule n)) k ≡ true → has (rounds R rule (suc n)) k ≡ true
unfolding rounds
round_intro R rule n k l e = table_intro zero R (rule (has (rounds R rule n))) k l (rw zero-add e)

pub round_elim : (R : ℕ) (rule : (ℕ → Bool) → ℕ → Bool) (n k : ℕ) → has (rounds R rule (suc n)) k ≡ true → (k < R) × (rule (has (rounds R rule n)) k ≡ true)
unfolding rounds
round_elim R rule n k e = let r = table_elim zero R (rule (has (rounds R rule n))) k e in (r.0, rw zero-add at r.1)

-- what is in after n rounds has every property that the rule keeps
rounds_least : (R : ℕ) (rule : (ℕ → Bool) → ℕ → Bool) (P : ℕ → Type 0) → ((s : ℕ → Bool) → ((j : ℕ) → s j ≡ true → P j) → (k : ℕ) → k < R → rule s k ≡ true → P k)
    → (n k : ℕ) → has (rounds R rule n) k ≡ true → P k
unfolding rounds
rounds_least R rule P keeps zero k e = absurd (true≢false (sym e))
rounds_least R rule P keeps (suc n) k e = let r = round_elim R rule n k e in keeps (has (rounds R rule n)) (rounds_least R rule P keeps n) k r.0 r.1

module _ (R : ℕ) (rule : (ℕ → Bool) → ℕ → Bool) (mono : Monotone rule) where
  round_up : (n : ℕ) → Below (has (rounds R rule n)) (has (rounds R rule (suc n)))
  unfolding rounds
  round_up zero k e = absurd (true≢false (sym e))
  round_up (suc n) k e =
      let r = round_elim R rule n k e in
      round_intro R rule (suc n) k r.0 (mono (has (rounds R rule n)) (has (rounds R rule (suc n))) (round_up n) k r.1)

  -- the next round adds nothing
  abbrev Still : ℕ → Type 0
  Still n = Below (has (rounds R rule (suc n))) (has (rounds R rule n))

  still_next : (n : ℕ) → Still n → Still (suc n)
  still_next n h k e =
      let r = round_elim R rule (suc n) k e in
      round_intro R rule n k r.0 (mono (has (rounds R rule (suc n))) (has (rounds R rule n)) h k r.1)

  progress : (n : ℕ) → Still n ⊎ (n ≤ count R (has (rounds R rule n)))
  progress zero = inr zero-le
  progress (suc n) = go (progress n)
    where
      go : Still n ⊎ (n ≤ count R (has (rounds R rule n))) → Still (suc n) ⊎ (suc n ≤ count R (has (rounds R rule (suc n))))
      go (inl h) = inl (still_next n h)
      go (inr h) = by (count_grows R (has (rounds R rule n)) (has (rounds R rule (suc n))) (round_up n))
        where
          by : ((k : ℕ) → k < R → has (rounds R rule (suc n)) k ≡ true → has (rounds R rule n) k ≡ true) ⊎ (count R (has (rounds R rule n)) < count R (has (rounds R rule (suc n))))
              → Still (suc n) ⊎ (suc n ≤ count R (has (rounds R rule (suc n))))
          by (inl c) = inl (still_next n (λ k e. c k (round_elim R rule n k e).0 e))
          by (inr l) = inr (omega arith)

  -- R rounds are enough
  still : Still R
  still = go (progress R)
    where
      go : Still R ⊎ (R ≤ count R (has (rounds R rule R))) → Still R
      go (inl h) = h
      go (inr f) = λ k e. count_full R (has (rounds R rule R)) f k (round_elim R rule R k e).0

-- ---- what a closure is: what the rule puts in is in, and what is in has every property that the rule keeps

pub closure_closed : (R : ℕ) (rule : (ℕ → Bool) → ℕ → Bool) → Monotone rule → (k : ℕ) → k < R → rule (has (closure R rule)) k ≡ true → has (closure R rule) k ≡ true
unfolding closure
closure_closed R rule mono k l e = still R rule mono k (round_intro R rule R k l e)

pub closure_least : (R : ℕ) (rule : (ℕ → Bool) → ℕ → Bool) (P : ℕ → Type 0) → ((s : ℕ → Bool) → ((j : ℕ) → s j ≡ true → P j) → (k : ℕ) → k < R → rule s k ≡ true → P k)
    → (k : ℕ) → has (closure R rule) k ≡ true → P k
unfolding closure
closure_least R rule P keeps k e = rounds_least R rule P keeps R k e

-- ---- for a program that finds a closure in place: R passes, each over the numbers 0 to R - 1, each of which is put in where the rule asks for it of the set at hand

module _ (R : ℕ) (rule : (ℕ → Bool) → ℕ → Bool) where
  -- a pass from the set `old` has come to r and to the set `now`
  pub record Pass (r : ℕ) (old now : ℕ → Bool) : Type 0 where
    pub keeps : Below old now
    pub adds : (k : ℕ) → k < r → rule old k ≡ true → now k ≡ true
    pub sound : Below old (has (closure R rule)) → Below now (has (closure R rule))

  -- after n passes: at least what n rounds give, at most the closure
  pub record Between (n : ℕ) (s : ℕ → Bool) : Type 0 where
    pub above : Below (has (rounds R rule n)) s
    pub below : Below s (has (closure R rule))

  pub pass_start : (s : ℕ → Bool) → Pass 0 s s
  pass_start s = record { keeps = λ j e. e; adds = λ k l e. absurd (not-suc-le-zero l); sound = λ h. h }

  pub between_start : (s : ℕ → Bool) → ((k : ℕ) → s k ≡ false) → Between 0 s
  unfolding rounds
  between_start s h = record { above = λ j e. absurd (true≢false (sym e)); below = λ j e. absurd (true≢false (sym e ∙ h j)) }

  module _ (mono : Monotone rule) where
    -- the rule asks for r: it is put in, and nothing else changes
    pub pass_yes : (r : ℕ) (old now next : ℕ → Bool) → Pass r old now → r < R → rule now r ≡ true → next r ≡ true → ((k : ℕ) → k ≢ r → next k ≡ now k) → Pass (suc r) old next
    pass_yes r old now next p l e y same = record {
      keeps = λ k h. up k (p.keeps k h);
      adds = λ k h q. add k (eq-or-lt_of_le (le_of_suc-le-suc h)) q;
      sound = λ h k q. in_closure h k q (ℕ_discrete k r);
    }
      where
        at : (k : ℕ) → now k ≡ true → Dec (k ≡ r) → next k ≡ true
        at k h (yes q) = rw q y
        at k h (no q) = same k q ∙ h

        up : (k : ℕ) → now k ≡ true → next k ≡ true
        up k h = at k h (ℕ_discrete k r)

        add : (k : ℕ) → (k ≡ r) ⊎ (k < r) → rule old k ≡ true → next k ≡ true
        add k (inl q) h = rw q y
        add k (inr m) h = up k (p.adds k m h)

        in_closure : Below old (has (closure R rule)) → (k : ℕ) → next k ≡ true → Dec (k ≡ r) → has (closure R rule) k ≡ true
        in_closure h k z (yes q) = rw q (closure_closed R rule mono r l (mono now (has (closure R rule)) (p.sound h) r e))
        in_closure h k z (no q) = p.sound h k (sym (same k q) ∙ z)

    -- the rule does not ask for r
    pub pass_no : (r : ℕ) (old now : ℕ → Bool) → Pass r old now → rule now r ≡ false → Pass (suc r) old now
    pass_no r old now p e = record { keeps = p.keeps; adds = λ k h q. add k (eq-or-lt_of_le (le_of_suc-le-suc h)) q; sound = p.sound }
      where
        add : (k : ℕ) → (k ≡ r) ⊎ (k < r) → rule old k ≡ true → now k ≡ true
        add k (inl q) h = absurd (true≢false (sym (mono old now p.keeps r (rw q at h)) ∙ e))
        add k (inr m) h = p.adds k m h

    pub between_next : (n : ℕ) (old now : ℕ → Bool) → Between n old → Pass R old now → Between (suc n) now
    between_next n old now b p = record {
      above = λ k e. let r = round_elim R rule n k e in p.adds k r.0 (mono (has (rounds R rule n)) old b.above k r.1);
      below = p.sound b.below;
    }

    -- R passes are enough
    pub between_done : (s : ℕ → Bool) → Between R s → (k : ℕ) → s k ≡ has (closure R rule) k
    unfolding closure
    between_done s b k = same_test (s k) (has (rounds R rule R) k) (b.below k) (b.above k)

    -- or a pass that changed nothing
    pub between_still : (n : ℕ) (s : ℕ → Bool) → Between n s → Pass R s s → (k : ℕ) → s k ≡ has (closure R rule) k
    between_still n s b p k = same_test (s k) (has (closure R rule) k) (b.below k) (λ e. closure_least R rule (λ j. s j ≡ true) (λ t h j l q. p.adds j l (mono t s h j q)) k e)
