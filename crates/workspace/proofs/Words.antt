-- The bits of a word, and the words of a span.
-- Assumes nothing.
use mathlib.Core.Path.{◌≡◌, refl, ap, ◌∙◌}
use mathlib.Core.Logic.{◌≢◌}
use mathlib.Core.List.{List}
use Prim.Native.Nat.{ℕ, zero, suc, ◌+◌, ◌-◌, ◌*◌, ◌/◌, ◌%◌, ◌^◌, ◌≤◌, ◌<◌}
use native.Mathlib.Nat.{add-zero, div-eq_of_lt, div-lt_iff_lt-mul, zero-div}
use native.Mathlib.Omega.{arith}
use lib.ListN.{length, get_or, set, drop, length-set}
use lib.Seq.{get_or-set_same, get_or-set_other, drop-set-lt}
use lib.Pow.{pow-add, pow-lt, pow_mono, pow_pos, shl-shr}
use lib.Bits.{bit_or, or_shr, or_mod, or_zero_r, or_add_and, and_le_l, and_le_r}
use Rattle.workspace.specs.Bits.{bit, four_at, word_at}
use Rattle.workspace.proofs.Spans.{lt_or_le}

-- ---- a word

pub bit_lt : (x k : ℕ) → bit x k < 2
unfolding bit
bit_lt x k = omega arith

pub bit_zero : (k : ℕ) → bit 0 k ≡ 0
unfolding bit
bit_zero k = rw (zero-div (2 ^ k))

pub bit_or_lem : (x y k : ℕ) → bit (bit_or x y) k ≡ bit_or (bit x k) (bit y k)
unfolding bit
bit_or_lem x y k = ap (λ (z : ℕ). z % 2) (or_shr x y k) ∙ or_mod (x / 2 ^ k) (y / 2 ^ k) 1

mask_same : (k : ℕ) → bit (2 ^ k) k ≡ 1
unfolding bit
mask_same k = ap (λ (z : ℕ). z % 2) (ap (λ (z : ℕ). z / 2 ^ k) (omega arith) ∙ shl-shr 1 k)

mask_above : (j k : ℕ) → k < j → bit (2 ^ k) j ≡ 0
unfolding bit
mask_above j k h = ap (λ (z : ℕ). z % 2) (div-eq_of_lt (pow-lt h))

mask_below : (j d : ℕ) → bit (2 ^ (suc d + j)) j ≡ 0
unfolding bit
mask_below j d = ap (λ (z : ℕ). z % 2) (ap (λ (z : ℕ). z / 2 ^ j) (pow-add 2 (suc d) j) ∙ shl-shr (2 ^ suc d) j) ∙ omega arith

mask_other : (j k : ℕ) → j ≢ k → bit (2 ^ k) j ≡ 0
mask_other j k ne = lt_or_le k j (mask_above j k) (λ h. ap (λ (z : ℕ). bit (2 ^ z) j) (split h) ∙ mask_below j (k - suc j))
  where
    split : j ≤ k → k ≡ suc (k - suc j) + j
    split h = omega arith

or_one : (b : ℕ) → b < 2 → bit_or b 1 ≡ 1
or_one zero h = refl
or_one (suc zero) h = refl
or_one (suc (suc b)) h = absurd (omega arith)

-- a word shifted to nothing has no bit from there on
pub none_above : (x i j : ℕ) → x / 2 ^ i ≡ 0 → i ≤ j → bit x j ≡ 0
unfolding bit
none_above x i j e h =
    let l : x < 1 * 2 ^ i = (div-lt_iff_lt-mul {k = 2 ^ i} {x = x} {y = 1} (pow_pos i)).0 (omega arith) in
    let p : 2 ^ i ≤ 2 ^ j = pow_mono h in
    let u : x < 2 ^ j = omega arith in
    ap (λ (z : ℕ). z % 2) (div-eq_of_lt u)

pub mark_same : (x k : ℕ) → bit (bit_or x (2 ^ k)) k ≡ 1
mark_same x k = bit_or_lem x (2 ^ k) k ∙ ap (bit_or (bit x k)) (mask_same k) ∙ or_one (bit x k) (bit_lt x k)

pub mark_other : (x j k : ℕ) → j ≢ k → bit (bit_or x (2 ^ k)) j ≡ bit x j
mark_other x j k ne = bit_or_lem x (2 ^ k) j ∙ ap (bit_or (bit x j)) (mask_other j k ne) ∙ or_zero_r (bit x j)

pub or_none_left : (x y : ℕ) → bit_or x y ≡ 0 → x ≡ 0
or_none_left x y e = omega (arith, or_add_and x y, and_le_r x y)

pub or_none_right : (x y : ℕ) → bit_or x y ≡ 0 → y ≡ 0
or_none_right x y e = omega (arith, or_add_and x y, and_le_l x y)

-- ---- the four words of a span

-- what holds of each of four holds of the k-th
pub of_four : (P : ℕ → Type 0) → P 0 → P 1 → P 2 → P 3 → (k : ℕ) → k < 4 → P k
of_four P a b c d zero h = a
of_four P a b c d (suc zero) h = b
of_four P a b c d (suc (suc zero)) h = c
of_four P a b c d (suc (suc (suc zero))) h = d
of_four P a b c d (suc (suc (suc (suc k)))) h = absurd (omega arith)

-- the first of a span's words
pub first : (ws : List ℕ) (s : ℕ) → word_at ws s 0 ≡ get_or ws (4 * s) 0
first ws s = rw (add-zero (4 * s))

module _ (ws : List ℕ) (s a b c d : ℕ) where
  pub length_four : length (four_at ws s a b c d) ≡ length ws
  unfolding four_at
  length_four = simp length-set

  -- the words are there: each is f of its number
  pub four_word : 4 * s + 4 ≤ length ws → (f : ℕ → ℕ) → a ≡ f 0 → b ≡ f 1 → c ≡ f 2 → d ≡ f 3 → (k : ℕ) → k < 4 → word_at (four_at ws s a b c d) s k ≡ f k
  unfolding four_at
  four_word room f e0 e1 e2 e3 k h = of_four (λ k. word_at (four_at ws s a b c d) s k ≡ f k) (w0 ∙ e0) (w1 ∙ e1) (w2 ∙ e2) (w3 ∙ e3) k h
    where
      l1 : List ℕ
      l1 = set ws (4 * s) a

      l2 : List ℕ
      l2 = set l1 (4 * s + 1) b

      l3 : List ℕ
      l3 = set l2 (4 * s + 2) c

      w3 : get_or (set l3 (4 * s + 3) d) (4 * s + 3) 0 ≡ d
      w3 = get_or-set_same l3 (4 * s + 3) d 0 (simp length-set (omega arith))

      w2 : get_or (set l3 (4 * s + 3) d) (4 * s + 2) 0 ≡ c
      w2 = get_or-set_other l3 (4 * s + 3) (4 * s + 2) d 0 (λ e. omega arith) ∙ get_or-set_same l2 (4 * s + 2) c 0 (simp length-set (omega arith))

      w1 : get_or (set l3 (4 * s + 3) d) (4 * s + 1) 0 ≡ b
      w1 =
          get_or-set_other l3 (4 * s + 3) (4 * s + 1) d 0 (λ e. omega arith) ∙
          get_or-set_other l2 (4 * s + 2) (4 * s + 1) c 0 (λ e. omega arith) ∙
          get_or-set_same l1 (4 * s + 1) b 0 (simp length-set (omega arith))

      w0 : get_or (set l3 (4 * s + 3) d) (4 * s + 0) 0 ≡ a
      w0 =
          first (set l3 (4 * s + 3) d) s ∙
          get_or-set_other l3 (4 * s + 3) (4 * s) d 0 (λ e. omega arith) ∙
          get_or-set_other l2 (4 * s + 2) (4 * s) c 0 (λ e. omega arith) ∙
          get_or-set_other l1 (4 * s + 1) (4 * s) b 0 (λ e. omega arith) ∙
          get_or-set_same ws (4 * s) a 0 (omega arith)

  -- the words of another span are kept
  pub four_other : (t k : ℕ) → t ≢ s → k < 4 → word_at (four_at ws s a b c d) t k ≡ word_at ws t k
  unfolding four_at
  four_other t k ne h =
      get_or-set_other (set (set (set ws (4 * s) a) (4 * s + 1) b) (4 * s + 2) c) (4 * s + 3) (4 * t + k) d 0 (λ e. ne (omega arith)) ∙
      get_or-set_other (set (set ws (4 * s) a) (4 * s + 1) b) (4 * s + 2) (4 * t + k) c 0 (λ e. ne (omega arith)) ∙
      get_or-set_other (set ws (4 * s) a) (4 * s + 1) (4 * t + k) b 0 (λ e. ne (omega arith)) ∙
      get_or-set_other ws (4 * s) (4 * t + k) a 0 (λ e. ne (omega arith))

  -- and so is what lies past the span
  pub drop_four : (n : ℕ) → 4 * s + 4 ≤ n → drop n (four_at ws s a b c d) ≡ drop n ws
  unfolding four_at
  drop_four n h =
      drop-set-lt n (set (set (set ws (4 * s) a) (4 * s + 1) b) (4 * s + 2) c) (4 * s + 3) d (omega arith) ∙
      drop-set-lt n (set (set ws (4 * s) a) (4 * s + 1) b) (4 * s + 2) c (omega arith) ∙
      drop-set-lt n (set ws (4 * s) a) (4 * s + 1) b (omega arith) ∙
      drop-set-lt n ws (4 * s) a (omega arith)
