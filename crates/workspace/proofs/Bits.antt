-- The laws of a table's bits: after a bit is set, after four words are written, and in a zeroed table.
-- Assumes nothing.
use mathlib.Core.Path.{◌≡◌, refl, sym, ap, ◌∙◌}
use mathlib.Core.Logic.{◌≢◌}
use mathlib.Core.Bool.{true, false, ◌&&◌, ◌||◌}
use mathlib.Core.List.{List}
use Prim.Native.Nat.{ℕ, zero, suc, ◌+◌, ◌*◌, ◌/◌, ◌%◌, ◌^◌, ◌≤◌, ◌<◌}
use native.Mathlib.Nat.{one-mul}
use native.Mathlib.Omega.{arith}
use native.Mathlib.Decide.{ℕ_discrete}
use lib.ListN.{length, get_or, set, length-set, replicate, drop, get_or-replicate}
use lib.Seq.{get_or-set_same, get_or-set_other, set_out, drop-set-lt}
use lib.Pow.{shl_exact}
use lib.Bits.{bit_or, bit_and, and_mask}
use lib.Dec.{eqb, ltb, lit<}
use borrow.Author.Tests.{eqb-true, lt-ltb, le-ltb}
use Rattle.workspace.specs.Bits.{bit, bit_at, set_bit, four_at, word_at, wiped, copied, joined, none_at}
use Rattle.workspace.proofs.Spans.{lt_or_le}
use Rattle.workspace.proofs.Words.{bit_lt, bit_zero, bit_or_lem, mark_same, mark_other, or_none_left, or_none_right, of_four, first, length_four, four_word, four_other, drop_four}

-- ---- a bit in its word

-- a row past 255 has no bit
pub bit_past : (ws : List ℕ) (s r : ℕ) → 256 ≤ r → bit_at ws s r ≡ false
unfolding bit_at
bit_past ws s r h = rw (le-ltb r 256 h)

pub bit_in : (ws : List ℕ) (s r : ℕ) → r < 256 → bit_at ws s r ≡ eqb (bit (word_at ws s (r / 64)) (r % 64)) 1
unfolding bit_at
bit_in ws s r h = rw (lt-ltb r 256 h)

-- the word says the bit
by_word : (l ws : List ℕ) (s t r : ℕ) → (r < 256 → word_at l s (r / 64) ≡ word_at ws t (r / 64)) → bit_at l s r ≡ bit_at ws t r
unfolding bit_at
by_word l ws s t r f = lt_or_le r 256 (λ h. rw (f h)) (λ h. rw (le-ltb r 256 h))

-- a word of no bits
pub no_word : (ws : List ℕ) (s r : ℕ) → (r < 256 → word_at ws s (r / 64) ≡ 0) → bit_at ws s r ≡ false
no_word ws s r f = lt_or_le r 256 (λ h. bit_in ws s r h ∙ rw (f h, bit_zero (r % 64))) (bit_past ws s r)

-- ---- the code's forms

module _ (ws : List ℕ) (s r : ℕ) where
  pub test_is : r < 256 → eqb (bit_and (get_or ws (4 * s + r / 64) 0 / 2 ^ (r % 64)) 1) 1 ≡ bit_at ws s r
  unfolding bit
  test_is h = rw (bit_in ws s r h, and_mask _ 1)

  pub set_is : set ws (4 * s + r / 64) (bit_or (get_or ws (4 * s + r / 64) 0) ((1 * 2 ^ (r % 64)) % 2 ^ 64)) ≡ set_bit ws s r
  unfolding set_bit
  set_is = rw (shl_exact {a = 1} 1 (r % 64) 64 (lit< tt) (omega arith), one-mul)

-- ---- a bit is set

-- the word that `set_bit` stores
abbrev marked : List ℕ → ℕ → ℕ → ℕ
marked ws s r = bit_or (word_at ws s (r / 64)) (2 ^ (r % 64))

module _ (ws : List ℕ) (s r : ℕ) where
  pub length_set_bit : length (set_bit ws s r) ≡ length ws
  unfolding set_bit
  length_set_bit = length-set ws _ _

  pub set_bit_same : 4 * s + 4 ≤ length ws → r < 256 → bit_at (set_bit ws s r) s r ≡ true
  unfolding bit_at set_bit
  set_bit_same room h =
      rw (lt-ltb r 256 h, get_or-set_same ws (4 * s + r / 64) (marked ws s r) 0 (omega arith))
      (ap (λ (z : ℕ). eqb z 1) (mark_same (word_at ws s (r / 64)) (r % 64)))

  -- the bits of other rows of the span are kept
  pub set_bit_other : (q : ℕ) → q ≢ r → bit_at (set_bit ws s r) s q ≡ bit_at ws s q
  unfolding bit_at set_bit
  set_bit_other q ne = lt_or_le (4 * s + r / 64) (length ws) (λ h. go h (ℕ_discrete (q / 64) (r / 64))) (λ h. rw (set_out ws (4 * s + r / 64) (marked ws s r) h))
    where
      go : 4 * s + r / 64 < length ws → Dec (q / 64 ≡ r / 64) → bit_at (set_bit ws s r) s q ≡ bit_at ws s q
      go h (no k) = rw (get_or-set_other ws (4 * s + r / 64) (4 * s + q / 64) (marked ws s r) 0 (λ e. k (omega arith)))
      go h (yes k) =
          rw (k, get_or-set_same ws (4 * s + r / 64) (marked ws s r) 0 h)
          (ap (λ (z : ℕ). ltb q 256 && eqb z 1) (mark_other (word_at ws s (r / 64)) (q % 64) (r % 64) (λ e. ne (omega arith))))

  -- the bits of other spans are kept
  pub set_bit_apart : (t q : ℕ) → t ≢ s → r < 256 → bit_at (set_bit ws s r) t q ≡ bit_at ws t q
  unfolding set_bit
  set_bit_apart t q ne h = by_word (set_bit ws s r) ws t t q (λ l. get_or-set_other ws (4 * s + r / 64) (4 * t + q / 64) (marked ws s r) 0 (λ e. ne (omega arith)))

  -- what lies past the span is kept
  pub drop_set_bit : (n : ℕ) → 4 * s + 4 ≤ n → r < 256 → drop n (set_bit ws s r) ≡ drop n ws
  unfolding set_bit
  drop_set_bit n l h = drop-set-lt n ws (4 * s + r / 64) (marked ws s r) (omega arith)

-- ---- four words are written

-- the bits of another span are kept
four_apart : (ws : List ℕ) (s a b c d t r : ℕ) → t ≢ s → bit_at (four_at ws s a b c d) t r ≡ bit_at ws t r
four_apart ws s a b c d t r ne = by_word (four_at ws s a b c d) ws t t r (λ h. four_other ws s a b c d t (r / 64) ne (omega arith))

module _ (ws : List ℕ) (s : ℕ) where
  pub length_wiped : length (wiped ws s) ≡ length ws
  unfolding wiped
  length_wiped = length_four ws s 0 0 0 0

  pub wiped_bit : 4 * s + 4 ≤ length ws → (r : ℕ) → bit_at (wiped ws s) s r ≡ false
  unfolding wiped
  wiped_bit room r =
      no_word (four_at ws s 0 0 0 0) s r (λ h. four_word ws s 0 0 0 0 room (λ k. 0) refl refl refl refl (r / 64) (omega arith))

  pub wiped_apart : (t r : ℕ) → t ≢ s → bit_at (wiped ws s) t r ≡ bit_at ws t r
  unfolding wiped
  wiped_apart t r ne = four_apart ws s 0 0 0 0 t r ne

  pub drop_wiped : (n : ℕ) → 4 * s + 4 ≤ n → drop n (wiped ws s) ≡ drop n ws
  unfolding wiped
  drop_wiped n h = drop_four ws s 0 0 0 0 n h

  -- a span whose words are zero has no bit
  pub none_bit : none_at ws s ≡ true → (r : ℕ) → bit_at ws s r ≡ false
  unfolding none_at
  none_bit e r = no_word ws s r (λ h. each (get_or ws (4 * s) 0) (word_at ws s 1) (word_at ws s 2) (word_at ws s 3) (first ws s) refl refl refl (eqb-true _ 0 e) (r / 64) (omega arith))
    where
      each : (a b c d : ℕ) → word_at ws s 0 ≡ a → word_at ws s 1 ≡ b → word_at ws s 2 ≡ c → word_at ws s 3 ≡ d → bit_or (bit_or (bit_or a b) c) d ≡ 0 → (k : ℕ) → k < 4 → word_at ws s k ≡ 0
      each a b c d p0 p1 p2 p3 e k h =
          let ab : bit_or a b ≡ 0 = or_none_left (bit_or a b) c (or_none_left (bit_or (bit_or a b) c) d e) in
          of_four (λ k. word_at ws s k ≡ 0) (p0 ∙ or_none_left a b ab) (p1 ∙ or_none_right a b ab)
          (p2 ∙ or_none_right (bit_or a b) c (or_none_left (bit_or (bit_or a b) c) d e)) (p3 ∙ or_none_right (bit_or (bit_or a b) c) d e) k h

or_bit : (x y : ℕ) → x < 2 → y < 2 → eqb (bit_or x y) 1 ≡ (eqb x 1 || eqb y 1)
or_bit zero zero hx hy = refl
or_bit zero (suc zero) hx hy = refl
or_bit zero (suc (suc y)) hx hy = absurd (omega arith)
or_bit (suc zero) zero hx hy = refl
or_bit (suc zero) (suc zero) hx hy = refl
or_bit (suc zero) (suc (suc y)) hx hy = absurd (omega arith)
or_bit (suc (suc x)) y hx hy = absurd (omega arith)

module _ (ws : List ℕ) (s : ℕ) (from : List ℕ) (q : ℕ) where
  pub length_copied : length (copied ws s from q) ≡ length ws
  unfolding copied
  length_copied = length_four ws s _ _ _ _

  pub copied_bit : 4 * s + 4 ≤ length ws → (r : ℕ) → bit_at (copied ws s from q) s r ≡ bit_at from q r
  unfolding copied
  copied_bit room r =
      by_word (copied ws s from q) from s q r
      (λ h. four_word ws s _ _ _ _ room (word_at from q) (sym (first from q)) refl refl refl (r / 64) (omega arith))

  pub copied_apart : (t r : ℕ) → t ≢ s → bit_at (copied ws s from q) t r ≡ bit_at ws t r
  unfolding copied
  copied_apart t r ne = four_apart ws s _ _ _ _ t r ne

  pub drop_copied : (n : ℕ) → 4 * s + 4 ≤ n → drop n (copied ws s from q) ≡ drop n ws
  unfolding copied
  drop_copied n h = drop_four ws s _ _ _ _ n h

  pub length_joined : length (joined ws s from q) ≡ length ws
  unfolding joined
  length_joined = length_four ws s _ _ _ _

  joined_word : 4 * s + 4 ≤ length ws → (k : ℕ) → k < 4 → word_at (joined ws s from q) s k ≡ bit_or (word_at ws s k) (word_at from q k)
  unfolding joined
  joined_word room k h = four_word ws s _ _ _ _ room (λ k. bit_or (word_at ws s k) (word_at from q k)) (rw (first ws s, first from q)) refl refl refl k h

  pub joined_bit : 4 * s + 4 ≤ length ws → (r : ℕ) → bit_at (joined ws s from q) s r ≡ (bit_at ws s r || bit_at from q r)
  joined_bit room r = lt_or_le r 256 low (λ h. rw (bit_past (joined ws s from q) s r h, bit_past ws s r h, bit_past from q r h))
    where
      low : r < 256 → bit_at (joined ws s from q) s r ≡ (bit_at ws s r || bit_at from q r)
      low h =
          rw (bit_in (joined ws s from q) s r h, bit_in ws s r h, bit_in from q r h, joined_word room (r / 64) (omega arith), bit_or_lem (word_at ws s (r / 64)) (word_at from q (r / 64)) (r % 64))
          (or_bit _ _ (bit_lt _ (r % 64)) (bit_lt _ (r % 64)))

  pub joined_apart : (t r : ℕ) → t ≢ s → bit_at (joined ws s from q) t r ≡ bit_at ws t r
  unfolding joined
  joined_apart t r ne = four_apart ws s _ _ _ _ t r ne

  pub drop_joined : (n : ℕ) → 4 * s + 4 ≤ n → drop n (joined ws s from q) ≡ drop n ws
  unfolding joined
  drop_joined n h = drop_four ws s _ _ _ _ n h

-- ---- all words are zero

-- a cleared table has no bits
pub cleared_bit : (n s r : ℕ) → 4 * s + 4 ≤ n → bit_at (replicate n 0) s r ≡ false
cleared_bit n s r h = no_word (replicate n 0) s r (λ l. get_or-replicate n (4 * s + r / 64) 0 0 (omega arith))
