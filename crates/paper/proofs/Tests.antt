-- Laws of tests (Bool) read as statements, "b ≡ true": conjunction, disjunction, searches over the numbers below n and over lists, tables.
-- Assumes nothing.
use Prim.Native.Nat.{ℕ, zero, suc, ◌+◌, ◌<◌}
use mathlib.Core.Path.{◌≡◌, refl, sym, ap, ◌∙◌, subst}
use mathlib.Core.Bool.{Bool, true, false, ◌&&◌, ◌||◌, true≢false}
use mathlib.Core.Logic.{◌⊎◌, inl, inr}
use native.Mathlib.Omega.{arith}
use mathlib.Core.List.{List, [], ◌∷◌, ◌++◌}
use lib.Dec.{T, eqb, eqb→eq, eqb_refl}
use lib.ListN.{length, get_or}
use Rattle.paper.specs.Tests.{any_below, all_below, any_of, all_of, Every, table_from}
use native.Mathlib.Nat.{not-suc-le-zero, eq-or-lt_of_le, le_of_suc-le-suc, add-zero, add-suc, suc-add}

pub and_intro : {a b : Bool} → a ≡ true → b ≡ true → (a && b) ≡ true
and_intro p q = rw (p, q)

pub and_left : (a b : Bool) → (a && b) ≡ true → a ≡ true
and_left true b e = refl
and_left false b e = e

pub and_right : (a b : Bool) → (a && b) ≡ true → b ≡ true
and_right true b e = e
and_right false b e = absurd (true≢false (sym e))

pub and_assoc : (a b c : Bool) → (a && b && c) ≡ (a && (b && c))
and_assoc true b c = refl
and_assoc false b c = refl

pub or_left : (a b : Bool) → a ≡ true → (a || b) ≡ true
or_left a b p = rw p

pub or_right : (a b : Bool) → b ≡ true → (a || b) ≡ true
or_right true b q = refl
or_right false b q = q

pub or_cases : (a b : Bool) → (a || b) ≡ true → (a ≡ true) ⊎ (b ≡ true)
or_cases true b e = inl refl
or_cases false b e = inr e

-- a test is true or false
pub true_or_false : (a : Bool) → (a ≡ true) ⊎ (a ≡ false)
true_or_false true = inl refl
true_or_false false = inr refl

-- two tests that pass together are equal
pub same_test : (a b : Bool) → (a ≡ true → b ≡ true) → (b ≡ true → a ≡ true) → a ≡ b
same_test true b f g = sym (f refl)
same_test false true f g = g refl
same_test false false f g = refl

pub any_suc : (n : ℕ) (f : ℕ → Bool) → any_below (suc n) f ≡ (f n || any_below n f)
unfolding any_below
any_suc n f = go (f n) refl
  where
    go : (b : Bool) → f n ≡ b → any_below (suc n) f ≡ (f n || any_below n f)
    go true p = rw (p, any_below)
    go false p = rw (p, any_below)

pub any_intro : (n : ℕ) (f : ℕ → Bool) (k : ℕ) → k < n → f k ≡ true → any_below n f ≡ true
any_intro zero f k h e = absurd (not-suc-le-zero h)
any_intro (suc n) f k h e = rw any_suc (go (eq-or-lt_of_le (le_of_suc-le-suc h)) (λ l. any_intro n f k l e))
  where
    go : (k ≡ n) ⊎ (k < n) → (k < n → any_below n f ≡ true) → (f n || any_below n f) ≡ true
    go (inl p) ih = or_left (f n) (any_below n f) (rw p at e)
    go (inr l) ih = or_right (f n) (any_below n f) (ih l)

pub any_elim : (n : ℕ) (f : ℕ → Bool) → any_below n f ≡ true → (k : ℕ) × (k < n) × (f k ≡ true)
unfolding any_below
any_elim zero f e = absurd (true≢false (sym e))
any_elim (suc n) f e = go (or_cases (f n) (any_below n f) (rw any_suc at e)) (λ p. any_elim n f p)
  where
    go : (f n ≡ true) ⊎ (any_below n f ≡ true) → (any_below n f ≡ true → (k : ℕ) × (k < n) × (f k ≡ true)) → (k : ℕ) × (k < suc n) × (f k ≡ true)
    go (inl p) ih = (n, omega arith, p)
    go (inr p) ih = let r = ih p in (r.0, omega (arith, r.1), r.2)

pub any_nowhere : (n : ℕ) (f : ℕ → Bool) → ((k : ℕ) → k < n → f k ≡ false) → any_below n f ≡ false
any_nowhere n f h = same_test (any_below n f) false (λ e. let r = any_elim n f e in sym (h r.0 r.1) ∙ r.2) (λ e. absurd (true≢false (sym e)))

pub eqb_same : (m n : ℕ) → eqb m n ≡ true → m ≡ n
eqb_same m n e = eqb→eq m n (subst T (sym e) tt)

pub same_eqb : (m n : ℕ) → m ≡ n → eqb m n ≡ true
same_eqb m n p = rw p (go (eqb n n) (eqb_refl n))
  where
    go : (b : Bool) → T b → b ≡ true
    go true t = refl
    go false t = absurd t

pub or_swap : (a b c : Bool) → (a || (b || c)) ≡ (b || (a || c))
or_swap true true c = refl
or_swap true false c = refl
or_swap false true c = refl
or_swap false false c = refl

pub or_assoc : (a b c : Bool) → (a || b || c) ≡ (a || (b || c))
or_assoc true b c = refl
or_assoc false b c = refl

pub or_false : (a : Bool) → (a || false) ≡ a
or_false true = refl
or_false false = refl

pub and_true : (a : Bool) → (a && true) ≡ a
and_true true = refl
and_true false = refl

pub any_none : (f : ℕ → Bool) → any_below 0 f ≡ false
unfolding any_below
any_none f = refl

-- the first number apart: for a list that is made from its front
pub any_first : (n : ℕ) (f : ℕ → Bool) → any_below (suc n) f ≡ (f 0 || any_below n (λ k. f (suc k)))
any_first zero f = any_suc zero f ∙ rw (any_none f, any_none (λ k. f (suc k)))
any_first (suc n) f = any_suc (suc n) f ∙ rw (any_first n f, any_suc n (λ k. f (suc k))) (or_swap (f (suc n)) (f 0) _)

-- ---- each number below n

pub all_none : (f : ℕ → Bool) → all_below 0 f ≡ true
unfolding all_below
all_none f = refl

pub all_suc : (n : ℕ) (f : ℕ → Bool) → all_below (suc n) f ≡ (f n && all_below n f)
unfolding all_below
all_suc n f = go (f n) refl
  where
    go : (b : Bool) → f n ≡ b → all_below (suc n) f ≡ (f n && all_below n f)
    go true p = rw (p, all_below)
    go false p = rw (p, all_below)

pub all_intro : (n : ℕ) (f : ℕ → Bool) → ((k : ℕ) → k < n → f k ≡ true) → all_below n f ≡ true
all_intro zero f h = all_none f
all_intro (suc n) f h = rw all_suc (and_intro (h n (omega arith)) (all_intro n f (λ k l. h k (omega arith))))

pub all_elim : (n : ℕ) (f : ℕ → Bool) → all_below n f ≡ true → (k : ℕ) → k < n → f k ≡ true
all_elim zero f e k h = absurd (not-suc-le-zero h)
all_elim (suc n) f e k h = go (eq-or-lt_of_le (le_of_suc-le-suc h)) (λ l. all_elim n f (and_right (f n) _ (rw all_suc at e)) k l)
  where
    go : (k ≡ n) ⊎ (k < n) → (k < n → f k ≡ true) → f k ≡ true
    go (inl p) ih = rw p (and_left (f n) (all_below n f) (rw all_suc at e))
    go (inr l) ih = ih l

pub all_same : (n : ℕ) (f g : ℕ → Bool) → ((k : ℕ) → k < n → f k ≡ g k) → all_below n f ≡ all_below n g
all_same n f g h =
    same_test (all_below n f) (all_below n g) (λ a. all_intro n g (λ k l. sym (h k l) ∙ all_elim n f a k l)) (λ a. all_intro n f (λ k l. h k l ∙ all_elim n g a k l))

pub all_but : (n : ℕ) (f : ℕ → Bool) (k : ℕ) → k < n → f k ≡ false → all_below n f ≡ false
all_but n f k h e = same_test (all_below n f) false (λ a. sym e ∙ all_elim n f a k h) (λ a. absurd (true≢false (sym a)))

-- ---- the elements of a list

module _ {A : Type 0} where
  pub any_of_nil : (f : A → Bool) → any_of f [] ≡ false
  unfolding any_of
  any_of_nil f = refl

  pub any_of_cons : (f : A → Bool) (x : A) (l : List A) → any_of f (x ∷ l) ≡ (f x || any_of f l)
  unfolding any_of
  any_of_cons f x l = go (f x) refl
    where
      go : (b : Bool) → f x ≡ b → any_of f (x ∷ l) ≡ (f x || any_of f l)
      go true p = rw (p, any_of)
      go false p = rw (p, any_of)

  pub all_of_nil : (f : A → Bool) → all_of f [] ≡ true
  unfolding all_of
  all_of_nil f = refl

  pub all_of_cons : (f : A → Bool) (x : A) (l : List A) → all_of f (x ∷ l) ≡ (f x && all_of f l)
  unfolding all_of
  all_of_cons f x l = go (f x) refl
    where
      go : (b : Bool) → f x ≡ b → all_of f (x ∷ l) ≡ (f x && all_of f l)
      go true p = rw (p, all_of)
      go false p = rw (p, all_of)

  pub any_of_append : (f : A → Bool) (l m : List A) → any_of f (l ++ m) ≡ (any_of f l || any_of f m)
  any_of_append f [] m = rw (any_of_nil f)
  any_of_append f (x ∷ l) m =
      let i = any_of_append f l m in
      rw (any_of_cons f x (l ++ m), any_of_cons f x l, i) (sym (or_assoc (f x) (any_of f l) (any_of f m)))

  pub all_of_append : (f : A → Bool) (l m : List A) → all_of f (l ++ m) ≡ (all_of f l && all_of f m)
  all_of_append f [] m = rw (all_of_nil f)
  all_of_append f (x ∷ l) m =
      let i = all_of_append f l m in
      rw (all_of_cons f x (l ++ m), all_of_cons f x l, i) (sym (and_assoc (f x) (all_of f l) (all_of f m)))

  -- by the places of the list
  pub any_of_below : (f : A → Bool) (l : List A) (d : A) → any_of f l ≡ any_below (length l) (λ k. f (get_or l k d))
  any_of_below f [] d = any_of_nil f ∙ sym (any_none (λ k. f d))
  any_of_below f (x ∷ l) d =
      let i = any_of_below f l d in
      rw (any_of_cons f x l, i, any_first (length l) (λ k. f (get_or (x ∷ l) k d)))

  pub all_of_at : (f : A → Bool) (l : List A) (d : A) → all_of f l ≡ true → (k : ℕ) → k < length l → f (get_or l k d) ≡ true
  all_of_at f [] d e k h = absurd (not-suc-le-zero h)
  all_of_at f (x ∷ l) d e zero h = and_left (f x) (all_of f l) (rw (all_of_cons f x l) at e)
  all_of_at f (x ∷ l) d e (suc k) h = all_of_at f l d (and_right (f x) (all_of f l) (rw (all_of_cons f x l) at e)) k (omega arith)

  pub at_all_of : (f : A → Bool) (l : List A) (d : A) → ((k : ℕ) → k < length l → f (get_or l k d) ≡ true) → all_of f l ≡ true
  at_all_of f [] d h = all_of_nil f
  at_all_of f (x ∷ l) d h = rw (all_of_cons f x l) (and_intro (h 0 (omega arith)) (at_all_of f l d (λ k m. h (suc k) (omega arith))))

  pub all_of_below : (f : A → Bool) (l : List A) (d : A) → all_of f l ≡ all_below (length l) (λ k. f (get_or l k d))
  all_of_below f l d =
      same_test (all_of f l) (all_below (length l) (λ k. f (get_or l k d)))
      (λ e. all_intro (length l) (λ k. f (get_or l k d)) (all_of_at f l d e))
      (λ e. at_all_of f l d (all_elim (length l) (λ k. f (get_or l k d)) e))

  -- a test of each element, and a property of every one
  pub all_of_every : (f : A → Bool) (P : A → Type 0) → ((x : A) → f x ≡ true → P x) → (l : List A) → all_of f l ≡ true → Every P l
  all_of_every f P h [] e = tt
  all_of_every f P h (x ∷ l) e =
      let q : (f x && all_of f l) ≡ true = rw (all_of_cons f x l) at e in
      (h x (and_left (f x) (all_of f l) q), all_of_every f P h l (and_right (f x) (all_of f l) q))

  pub every_all_of : (f : A → Bool) (P : A → Type 0) → ((x : A) → P x → f x ≡ true) → (l : List A) → Every P l → all_of f l ≡ true
  every_all_of f P h [] e = all_of_nil f
  every_all_of f P h (x ∷ l) e = rw (all_of_cons f x l) (and_intro (h x e.0) (every_all_of f P h l e.1))

  pub every_map : (P Q : A → Type 0) → ((x : A) → P x → Q x) → (l : List A) → Every P l → Every Q l
  every_map P Q h [] e = tt
  every_map P Q h (x ∷ l) e = (h x e.0, every_map P Q h l e.1)

  pub every_append : (P : A → Type 0) (l m : List A) → Every P l → Every P m → Every P (l ++ m)
  every_append P [] m h g = g
  every_append P (x ∷ l) m h g = (h.0, every_append P l m h.1 g)

  pub every_left : (P : A → Type 0) (l m : List A) → Every P (l ++ m) → Every P l
  every_left P [] m h = tt
  every_left P (x ∷ l) m h = (h.0, every_left P l m h.1)

  pub every_right : (P : A → Type 0) (l m : List A) → Every P (l ++ m) → Every P m
  every_right P [] m h = h
  every_right P (x ∷ l) m h = every_right P l m h.1

  pub every_at : (P : A → Type 0) (l : List A) (d : A) → Every P l → (k : ℕ) → k < length l → P (get_or l k d)
  every_at P [] d e k h = absurd (not-suc-le-zero h)
  every_at P (x ∷ l) d e zero h = e.0
  every_at P (x ∷ l) d e (suc k) h = every_at P l d e.1 k (omega arith)

  pub at_every : (P : A → Type 0) (l : List A) (d : A) → ((k : ℕ) → k < length l → P (get_or l k d)) → Every P l
  at_every P [] d h = tt
  at_every P (x ∷ l) d h = (h 0 (omega arith), at_every P l d (λ k m. h (suc k) (omega arith)))

  -- ---- tables

  pub table_length : (i n : ℕ) (f : ℕ → A) → length (table_from i n f) ≡ n
  unfolding table_from
  table_length i zero f = refl
  table_length i (suc n) f = ap suc (table_length (suc i) n f)

  pub table_at : (i n : ℕ) (f : ℕ → A) (d : A) (k : ℕ) → k < n → get_or (table_from i n f) k d ≡ f (i + k)
  unfolding table_from
  table_at i zero f d k h = absurd (not-suc-le-zero h)
  table_at i (suc n) f d zero h = rw add-zero
  table_at i (suc n) f d (suc k) h = table_at (suc i) n f d k (omega arith) ∙ rw (suc-add, ← add-suc)

  pub any_of_table : (f : A → Bool) (i n : ℕ) (g : ℕ → A) → any_of f (table_from i n g) ≡ any_below n (λ k. f (g (i + k)))
  unfolding table_from
  any_of_table f i zero g = any_of_nil f ∙ sym (any_none (λ k. f (g (i + k))))
  any_of_table f i (suc n) g =
      let e = any_of_table f (suc i) n g in
      rw (any_of_cons f (g i) (table_from (suc i) n g), e, any_first n (λ k. f (g (i + k)))) (simp (add-zero, add-suc, suc-add))

  pub all_of_table : (f : A → Bool) (i n : ℕ) (g : ℕ → A) → all_of f (table_from i n g) ≡ all_below n (λ k. f (g (i + k)))
  all_of_table f i n g = same_test _ _ there back
    where
      there : all_of f (table_from i n g) ≡ true → all_below n (λ k. f (g (i + k))) ≡ true
      there e = all_intro n (λ k. f (g (i + k))) (λ k l. rw (table_at i n g (g i) k l) at (all_of_at f (table_from i n g) (g i) e k (rw table_length l)))

      back : all_below n (λ k. f (g (i + k))) ≡ true → all_of f (table_from i n g) ≡ true
      back e =
          at_all_of f (table_from i n g) (g i)
          (λ k l. let m : k < n = rw table_length at l in rw (table_at i n g (g i) k m) (all_elim n (λ k. f (g (i + k))) e k m))
