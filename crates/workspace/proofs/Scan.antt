-- The next row whose bit is set in two entries of a table at once, looked for in the words that hold it.
-- Assumes nothing.
use Prim.Native.Nat.{ℕ, zero, suc, ◌+◌, ◌*◌, ◌/◌, ◌%◌, ◌^◌, ◌≤◌, ◌<◌}
use mathlib.Core.Path.{◌≡◌, refl, sym, ap, ◌∙◌}
use mathlib.Core.Bool.{true, false, ◌&&◌, and_self}
use mathlib.Core.List.{List}
use Rattle.std.specs.Prelude.{Option, Some, None}
use native.Mathlib.Omega.{arith}
use lib.Dec.{eqb}
use lib.Bits.{bit_and, and_mask, and_shr, and_mod}
use borrow.Author.Tests.{eq-eqb, ne_eqb}
use Rattle.workspace.specs.Bits.{bit, bit_at, word_at}
use Rattle.workspace.specs.Scan.{in_both, First, FirstOf}
use Rattle.workspace.proofs.Spans.{lt_or_le}
use Rattle.workspace.proofs.Words.{none_above, bit_lt}
use Rattle.workspace.proofs.Bits.{bit_in}

bit_and_lem : (x y k : ℕ) → bit (bit_and x y) k ≡ bit_and (bit x k) (bit y k)
unfolding bit
bit_and_lem x y k = ap (λ (z : ℕ). z % 2) (and_shr x y k) ∙ and_mod (x / 2 ^ k) (y / 2 ^ k) 1

both_bits : (x y : ℕ) → x < 2 → y < 2 → eqb (bit_and x y) 1 ≡ (eqb x 1 && eqb y 1)
both_bits zero zero hx hy = refl
both_bits zero (suc zero) hx hy = refl
both_bits zero (suc (suc y)) hx hy = absurd (omega arith)
both_bits (suc zero) zero hx hy = refl
both_bits (suc zero) (suc zero) hx hy = refl
both_bits (suc zero) (suc (suc y)) hx hy = absurd (omega arith)
both_bits (suc (suc x)) y hx hy = absurd (omega arith)

-- word w of the two entries, what both have
abbrev common : List ℕ → (a b w : ℕ) → ℕ
common ws a b w = bit_and (word_at ws a w) (word_at ws b w)

module _ (ws : List ℕ) (a b : ℕ) where
  both_is : (k : ℕ) → k < 256 → in_both ws a b k ≡ eqb (bit (common ws a b (k / 64)) (k % 64)) 1
  unfolding in_both
  both_is k h = rw (bit_in ws a k h, bit_in ws b k h, bit_and_lem _ _ (k % 64)) (sym (both_bits _ _ (bit_lt _ (k % 64)) (bit_lt _ (k % 64))))

  -- the lowest bit of the common word, shifted
  low_bit : (k : ℕ) → bit_and (common ws a b (k / 64) / 2 ^ (k % 64)) 1 ≡ bit (common ws a b (k / 64)) (k % 64)
  unfolding bit
  low_bit k = and_mask _ 1

  pub here : (k : ℕ) → k < 256 → bit_and (common ws a b (k / 64) / 2 ^ (k % 64)) 1 ≡ 1 → in_both ws a b k ≡ true
  here k h e = both_is k h ∙ eq-eqb _ 1 (sym (low_bit k) ∙ e)

  pub not_here : (k : ℕ) → k < 256 → (bit_and (common ws a b (k / 64) / 2 ^ (k % 64)) 1 ≡ 1 → ⊥) → in_both ws a b k ≡ false
  not_here k h e = both_is k h ∙ ne_eqb _ 1 (λ x. e (low_bit k ∙ x))

  -- a word with no bit left has none of its further rows
  pub passed : (p q : ℕ) → q < 256 → common ws a b (q / 64) / 2 ^ (q % 64) ≡ 0 → ((k : ℕ) → k < q → p ≤ k → in_both ws a b k ≡ false) → (k : ℕ) → k < 64 * (q / 64) + 64 → p ≤ k → in_both ws a b k ≡ false
  passed p q h e f k u l = lt_or_le k q (λ x. f k x l) further
    where
      further : q ≤ k → in_both ws a b k ≡ false
      further x =
          let w : k / 64 ≡ q / 64 = omega arith in
          let i : q % 64 ≤ k % 64 = omega arith in
          let z : bit (common ws a b (k / 64)) (k % 64) ≡ 0 = rw w (none_above (common ws a b (q / 64)) (q % 64) (k % 64) e i) in
          both_is k (omega arith) ∙ ap (λ (v : ℕ). eqb v 1) z

-- ---- one set alone

module _ (ws : List ℕ) (a : ℕ) where
  one_is : (k : ℕ) → in_both ws a a k ≡ bit_at ws a k
  unfolding in_both
  one_is k = and_self (bit_at ws a k)

  pub first_one : (p n q : ℕ) → First (in_both ws a a) p n q → First (bit_at ws a) p n q
  first_one p n q f = record {
    low = f.low;
    high = f.high;
    hit = λ h. sym (one_is q) ∙ f.hit h;
    gap = λ k u l. sym (one_is k) ∙ f.gap k u l;
  }

  pub first_of_one : (p n : ℕ) (o : Option ℕ) → FirstOf (in_both ws a a) p n o → FirstOf (bit_at ws a) p n o
  first_of_one p n (Some q) f = (f.0, first_one p n q f.1)
  first_of_one p n None f = first_one p n n f
