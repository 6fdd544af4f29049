-- Searches over numbers and lists, as tests: what the paper's "some", "each", "the first" and "in rising order" compute to.
-- They look at one case after the other and stop where they can, so that the worked keys are computed.
use Rattle.std.specs.Prelude.{ℕ, zero, suc, Bool, true, false, cond, List, [], ◌∷◌, ◌++◌}

-- some number below n passes
unfoldable pub any_below : ℕ → (ℕ → Bool) → Bool
any_below zero f = false
any_below (suc n) f = elim (f n) [ true ↦ true | false ↦ any_below n f ]

-- each number below n passes
unfoldable pub all_below : ℕ → (ℕ → Bool) → Bool
all_below zero f = true
all_below (suc n) f = elim (f n) [ true ↦ all_below n f | false ↦ false ]

-- some element passes
unfoldable pub any_of : {A : Type 0} → (A → Bool) → List A → Bool
any_of f [] = false
any_of f (x ∷ xs) = elim (f x) [ true ↦ true | false ↦ any_of f xs ]

-- each element passes
unfoldable pub all_of : {A : Type 0} → (A → Bool) → List A → Bool
all_of f [] = true
all_of f (x ∷ xs) = elim (f x) [ true ↦ all_of f xs | false ↦ false ]

-- each element has the property
abbrev pub Every : {A : Type 0} → (A → Type 0) → List A → Type 0
Every P [] = Unit {0}
Every P (x ∷ xs) = P x × Every P xs

-- of the `left` numbers from k on, the first that fails; k + left where each passes
unfoldable pub first_from : (ℕ → Bool) → ℕ → ℕ → ℕ
first_from ok k zero = k
first_from ok k (suc left) = cond (ok k) (first_from ok (suc k) left) k

-- the first number below n that fails, and n where each passes
abbrev pub first_bad : (ℕ → Bool) → ℕ → ℕ
first_bad ok n = first_from ok 0 n

-- f i, f (i + 1), ..: n of them
unfoldable pub table_from : {A : Type 0} → ℕ → ℕ → (ℕ → A) → List A
table_from i zero f = []
table_from i (suc n) f = f i ∷ table_from (suc i) n f

-- the lists f i, f (i + 1), .., n of them, joined
unfoldable pub gather : {A : Type 0} → ℕ → ℕ → (ℕ → List A) → List A
gather i zero f = []
gather i (suc n) f = f i ++ gather (suc i) n f
