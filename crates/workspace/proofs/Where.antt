-- The laws of rows put into a span where a test passes.
-- Assumes nothing.
use mathlib.Core.Path.{◌≡◌, refl, sym, ap, ◌∙◌}
use mathlib.Core.Logic.{◌≢◌}
use mathlib.Core.Bool.{Bool, true, false, ◌&&◌, ◌||◌, or-true, or-false}
use mathlib.Core.List.{List}
use Prim.Native.Nat.{ℕ, zero, suc, ◌+◌, ◌*◌, ◌/◌, ◌%◌, ◌^◌, ◌≤◌, ◌<◌}
use native.Mathlib.Numerals.{add-one}
use native.Mathlib.Omega.{arith}
use native.Mathlib.Decide.{ℕ_discrete, dec_lt}
use lib.ListN.{length, get_or, drop}
use lib.Seq.{get_or-set_other}
use lib.Bits.{bit_or}
use lib.Dec.{eqb, ltb}
use borrow.Author.Count.{below_more}
use borrow.Author.Tests.{eq-eqb, ne_eqb, lt-ltb, le-ltb}
use Rattle.std.specs.Prelude.{cond}
use Rattle.workspace.specs.Bits.{bit_at, set_bit, put_bit}
use Rattle.workspace.specs.Where.{put_below, PutWhere}
use Rattle.workspace.proofs.Bits.{length_set_bit, set_bit_same, set_bit_other, set_bit_apart, drop_set_bit}

-- ---- one row

module _ (ws : List ℕ) (s r : ℕ) where
  length_put : (on : Bool) → length (put_bit on ws s r) ≡ length ws
  unfolding put_bit
  length_put true = length_set_bit ws s r
  length_put false = refl

  put_same : (on : Bool) → 4 * s + 4 ≤ length ws → r < 256 → bit_at (put_bit on ws s r) s r ≡ (bit_at ws s r || on)
  unfolding put_bit
  put_same true room h = set_bit_same ws s r room h ∙ sym (or-true _)
  put_same false room h = sym (or-false _)

  put_other : (on : Bool) (q : ℕ) → q ≢ r → bit_at (put_bit on ws s r) s q ≡ bit_at ws s q
  unfolding put_bit
  put_other true q ne = set_bit_other ws s r q ne
  put_other false q ne = refl

  put_apart : (on : Bool) (t q : ℕ) → t ≢ s → r < 256 → bit_at (put_bit on ws s r) t q ≡ bit_at ws t q
  unfolding put_bit
  put_apart true t q ne h = set_bit_apart ws s r t q ne h
  put_apart false t q ne h = refl

  drop_put : (on : Bool) (n : ℕ) → 4 * s + 4 ≤ n → r < 256 → drop n (put_bit on ws s r) ≡ drop n ws
  unfolding put_bit
  drop_put true n l h = drop_set_bit ws s r n l h
  drop_put false n l h = refl

  low_put : (on : Bool) (i : ℕ) → i < 4 * s → get_or (put_bit on ws s r) i 0 ≡ get_or ws i 0
  unfolding put_bit set_bit
  low_put true i l = get_or-set_other ws (4 * s + r / 64) i (bit_or (get_or ws (4 * s + r / 64) 0) (2 ^ (r % 64))) 0 (λ e. omega arith)
  low_put false i l = refl

-- ---- the rows below n

module _ (passes : ℕ → Bool) (ws : List ℕ) (s : ℕ) where
  pub length_put_below : (n : ℕ) → length (put_below passes ws s n) ≡ length ws
  unfolding put_below
  length_put_below zero = refl
  length_put_below (suc n) = length_put (put_below passes ws s n) s n (passes n) ∙ length_put_below n

  -- the span has the rows that pass besides its own
  pub put_below_bit : (n : ℕ) → 4 * s + 4 ≤ length ws → n ≤ 256 → (r : ℕ) → bit_at (put_below passes ws s n) s r ≡ (bit_at ws s r || (ltb r n && passes r))
  unfolding put_below
  put_below_bit zero room few r = rw (le-ltb r 0 (omega arith)) (sym (or-false _))
  put_below_bit (suc n) room few r = go (ℕ_discrete r n) (put_below_bit n room (omega arith))
    where
      l : List ℕ
      l = put_below passes ws s n

      go : Dec (r ≡ n) → ((q : ℕ) → bit_at l s q ≡ (bit_at ws s q || (ltb q n && passes q)))
          → bit_at (put_bit (passes n) l s n) s r ≡ (bit_at ws s r || (ltb r (suc n) && passes r))
      go (yes e) before =
          let at : bit_at l s n ≡ bit_at ws s n = before n ∙ rw (le-ltb n n (omega arith)) (or-false (bit_at ws s n)) in
          rw (e, lt-ltb n (suc n) (omega arith)) (put_same l s n (passes n) (rw (length_put_below n) room) (omega arith) ∙ ap (λ x. x || passes n) at)
      go (no ne) before = put_other l s n (passes n) r ne ∙ before r ∙ ap (λ x. bit_at ws s r || (x && passes r)) (below (dec_lt r n))
        where
          below : Dec (r < n) → ltb r n ≡ ltb r (suc n)
          below (yes h) = rw (lt-ltb r n h, lt-ltb r (suc n) (omega arith))
          below (no h) = rw (le-ltb r n (omega arith), le-ltb r (suc n) (omega arith))

  -- the other spans are kept
  pub put_below_apart : (n : ℕ) → n ≤ 256 → (t q : ℕ) → t ≢ s → bit_at (put_below passes ws s n) t q ≡ bit_at ws t q
  unfolding put_below
  put_below_apart zero few t q ne = refl
  put_below_apart (suc n) few t q ne = put_apart (put_below passes ws s n) s n (passes n) t q ne (omega arith) ∙ put_below_apart n (omega arith) t q ne

  -- and so is what lies past the span
  pub drop_put_below : (n : ℕ) → n ≤ 256 → (k : ℕ) → 4 * s + 4 ≤ k → drop k (put_below passes ws s n) ≡ drop k ws
  unfolding put_below
  drop_put_below zero few k l = refl
  drop_put_below (suc n) few k l = drop_put (put_below passes ws s n) s n (passes n) k l (omega arith) ∙ drop_put_below n (omega arith) k l

  -- and each word before it
  pub low_put_below : (n i : ℕ) → i < 4 * s → get_or (put_below passes ws s n) i 0 ≡ get_or ws i 0
  unfolding put_below
  low_put_below zero i l = refl
  low_put_below (suc n) i l = low_put (put_below passes ws s n) s n (passes n) i l ∙ low_put_below n i l

-- ---- a row after the other

pub put_where_none : (answers : ℕ → Bool → Type 0) (s : ℕ) (ws : List ℕ) → PutWhere answers s 0 ws ws
unfolding put_below
put_where_none answers s ws = record { passes = λ q. false; told = λ q h. absurd (omega arith); put = refl }

-- the test after its call at row n
abbrev later : (ℕ → Bool) → ℕ → Bool → ℕ → Bool
later passes n on q = cond (eqb q n) on (passes q)

put_below_same : (f g : ℕ → Bool) (ws : List ℕ) (s n : ℕ) → ((q : ℕ) → q < n → f q ≡ g q) → put_below f ws s n ≡ put_below g ws s n
unfolding put_below
put_below_same f g ws s zero e = refl
put_below_same f g ws s (suc n) e = rw (e n (omega arith), put_below_same f g ws s n (λ q h. e q (omega arith)))

-- the rows are those of a test that each call's answer agrees with
pub put_where_is : {answers : ℕ → Bool → Type 0} {s n : ℕ} {old new : List ℕ} (test : ℕ → Bool) → PutWhere answers s n old new
    → ((q : ℕ) (on : Bool) → q < n → answers q on → on ≡ test q) → new ≡ put_below test old s n
put_where_is {s = s} {n = n} {old = old} test p agree = p.put ∙ put_below_same p.passes test old s n (λ q h. agree q (p.passes q) h (p.told q h))

later_same : (passes : ℕ → Bool) (n : ℕ) (on : Bool) (q : ℕ) → q ≢ n → later passes n on q ≡ passes q
later_same passes n on q ne = rw (ne_eqb q n ne)

later_here : (passes : ℕ → Bool) (n : ℕ) (on : Bool) → later passes n on n ≡ on
later_here passes n on = rw (eq-eqb n n refl)

pub put_where_more : {answers : ℕ → Bool → Type 0} {s n : ℕ} {old now next : List ℕ} (on : Bool) → PutWhere answers s n old now → answers n on
    → next ≡ put_bit on now s n → PutWhere answers s (n + 1) old next
unfolding put_below
put_where_more {answers = answers} {s = s} {n = n} {old = old} {now = now} {next = next} on p a e = record {
  passes = later p.passes n on;
  told = below_more _ n (λ q h. rw (later_same p.passes n on q (λ z. omega arith)) (p.told q h)) (rw (later_here p.passes n on) a);
  put = e ∙ rw (add-one, later_here p.passes n on) (ap (λ l. put_bit on l s n) (p.put ∙ put_below_same p.passes (later p.passes n on) old s n (λ q h. sym (later_same p.passes n on q (λ z. omega arith)))));
}
