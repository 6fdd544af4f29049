-- A search for the first number that fails a test: what the numbers passed so far say of it. One law serves every table.
-- Assumes nothing.
use Prim.Native.Nat.{ℕ, zero, suc, ◌+◌, ◌<◌, ◌≤◌}
use mathlib.Core.Path.{◌≡◌, sym}
use mathlib.Core.Bool.{Bool, true, false}
use mathlib.Core.Logic.{⊎_elim}
use mathlib.Core.List.{List}
use native.Mathlib.Omega.{arith}
use native.Mathlib.Nat.{eq-or-lt_of_le}
use lib.Dec.{eqb}
use borrow.Author.Tests.{eq-eqb, ne_eqb, eqb-false}
use borrow.Author.Rules.{rules}
use Rattle.std.specs.Prelude.{Option, Some, None, MatchOption, is_some, not, IsSome}
use Rattle.std.specs.Bool.{⊤}
use Rattle.std.specs.Fn.{CalledAt}
use Rattle.std.specs.Iterator.{YieldsThen}
use Rattle.std.specs.List.{FoldsTo}
use Rattle.std.specs.declared.ops.Range.{Range}
use Rattle.std.proofs.iter.Yields.{nat_range_steps}
use Rattle.std.proofs.lemmas.Iterator.{first_from_Range}
use denote.Param.Members.{Mut}
use denote.Ref.{Bor}
use Rattle.paper.specs.Tests.{first_from, first_bad}
use Rattle.paper.proofs.Tests.{true_or_false}
use Rattle.sheet_trailer.specs.FirstBad.{FirstBad}

-- each number below i passes
abbrev pub Passed : (ℕ → Bool) → ℕ → Type 0
Passed ok i = (k : ℕ) → k < i → ok k ≡ true

from_here : (ok : ℕ → Bool) (left k i : ℕ) → Passed ok i → k ≤ i → i < k + left → ok i ≡ false → first_from ok k left ≡ i
unfolding first_from
from_here ok zero k i p l h e = absurd (omega arith)
from_here ok (suc left) k i p l h e =
    ⊎_elim (λ (q : k ≡ i). rw (q, e))
    (λ (q : k < i). rw (p k q) (from_here ok left (suc k) i p q (omega arith) e))
    (eq-or-lt_of_le l)

from_all : (ok : ℕ → Bool) (left k : ℕ) → Passed ok (k + left) → first_from ok k left ≡ k + left
unfolding first_from
from_all ok zero k p = omega arith
from_all ok (suc left) k p =
    let ih = from_all ok left (suc k) (λ j h. p j (omega arith)) in
    rw (p k (omega arith)) (omega arith)

-- the first that fails, where those before it pass
pub fails_first : (ok : ℕ → Bool) (n i : ℕ) → Passed ok i → i < n → ok i ≡ false → first_bad ok n ≡ i
fails_first ok n i p h e = from_here ok n 0 i p (omega arith) (omega arith) e

-- where each passes
pub fails_none : (ok : ℕ → Bool) (n : ℕ) → Passed ok n → first_bad ok n ≡ n
fails_none ok n p =
    let z : Passed ok (0 + n) = λ k h. p k (omega arith) in
    let e = from_all ok n 0 z in
    omega arith

bad_found : (ok : ℕ → Bool) (n : ℕ) (o : Option ℕ)
    → MatchOption o ((k : ℕ) → 0 ≤ k → k < n → ok k ≡ true) (λ i. (0 ≤ i) × (i < n) × (ok i ≡ false) × ((k : ℕ) → 0 ≤ k → k < i → ok k ≡ true))
    → FirstBad ok n o
bad_found ok n None h = fails_none ok n (λ k l. h k (omega arith) l)
bad_found ok n (Some i) h = (fails_first ok n i (λ k l. h.3 k (omega arith) l) h.1 h.2, h.1)

-- what `find` answers over the numbers below n, of a closure that is true where the test fails
pub find_bad : {F : Type 0} {g : Mut F (Bor ℕ × Unit {0}) Bool} (ok : ℕ → Bool) (n : ℕ) (s u : Range ℕ) (f : F) (o : Option ℕ) → s ≡ record { start = 0; end = n }
    → (xs : List ℕ) × (j : F) × YieldsThen nat_range_steps s xs o u × FoldsTo (λ p x q. CalledAt g p x false q) f xs j × MatchOption o ⊤ (λ x. (h : F) × CalledAt g j x true h)
    → ((x : ℕ) (q : F) → CalledAt g f x true q → ok x ≡ false) → ((x : ℕ) (q : F) → CalledAt g f x false q → (q ≡ f) × (ok x ≡ true)) → FirstBad ok n o
find_bad ok n s u f o e ran fails passes = bad_found ok n o (rw e at (first_from_Range s u f o (λ k. ok k ≡ false) (λ k. ok k ≡ true) ran fails passes))

-- none is found exactly where the first that fails is n
pub none_bad : (ok : ℕ → Bool) (n : ℕ) (o : Option ℕ) (r : Bool) → FirstBad ok n o → is_some o ≡ not r → r ≡ eqb (first_bad ok n) n
none_bad ok n None true h e = sym (eq-eqb _ _ h)
none_bad ok n (Some k) false h e = sym (ne_eqb _ _ (λ e. omega arith))
none_bad ok n None false h e = cc
none_bad ok n (Some k) true h e = cc

from_fails : (ok : ℕ → Bool) (left k : ℕ) → first_from ok k left < k + left → ok (first_from ok k left) ≡ false
unfolding first_from
from_fails ok zero k h = absurd (omega arith)
from_fails ok (suc left) k h =
    ⊎_elim
    (λ (t : ok k ≡ true).
    let u : first_from ok (suc k) left < k + suc left = rw t at h in
    rw t (from_fails ok left (suc k) (omega arith)))
    (λ (t : ok k ≡ false). rw (t, t))
    (true_or_false (ok k))

-- the first that fails does fail
pub bad_fails : (ok : ℕ → Bool) (n i : ℕ) → first_bad ok n ≡ i → i < n → ok i ≡ false
bad_fails ok n i e h =
    let z : first_bad ok n < 0 + n = omega arith in
    rw e at (from_fails ok n 0 z)

-- where the search over a table says that not each passes, one was found
pub some_bad : (ok : ℕ → Bool) (n : ℕ) (o : Option ℕ) → FirstBad ok n o → eqb (first_bad ok n) n ≡ false → IsSome o
some_bad ok n None h e = absurd (eqb-false _ _ e h)
some_bad ok n (Some k) h e = search rules

all_from : (ok : ℕ → Bool) (f k i : ℕ) → first_from ok k f ≡ k + f → k ≤ i → i < k + f → ok i ≡ true
unfolding first_from
all_from ok zero k i e l h = absurd (omega arith)
all_from ok (suc f) k i e l h =
    ⊎_elim
    (λ (t : ok k ≡ true).
    ⊎_elim (λ (q : k ≡ i). rw q at t)
    (λ (q : k < i).
    all_from ok f (suc k) i (let u : first_from ok (suc k) f ≡ k + suc f = rw t at e in omega arith) q (omega arith))
    (eq-or-lt_of_le l))
    (λ (t : ok k ≡ false). let u : k ≡ k + suc f = rw t at e in absurd (omega arith))
    (true_or_false (ok k))

-- where none fails, each passes
pub all_good : (ok : ℕ → Bool) (n i : ℕ) → first_bad ok n ≡ n → i < n → ok i ≡ true
all_good ok n i e h = all_from ok n 0 i (omega arith) (omega arith) (omega arith)
