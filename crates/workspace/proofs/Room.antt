-- Room falls where a bit is new.
-- Assumes nothing.
use mathlib.Core.Path.{◌≡◌, refl, sym, ap, ◌∙◌}
use mathlib.Core.Logic.{◌≢◌}
use mathlib.Core.Bool.{true, false, true≢false}
use mathlib.Core.List.{List, [], ◌∷◌}
use Prim.Native.Nat.{ℕ, zero, suc, ◌+◌, ◌*◌, ◌/◌, ◌^◌, ◌≤◌, ◌<◌}
use native.Mathlib.Nat.{not-suc-le-zero, le_of_suc-le-suc, le_of_lt}
use native.Mathlib.Omega.{arith}
use lib.ListN.{length, get_or, set, length-set}
use lib.Seq.{get_or-set_other, set-get_or}
use lib.Bits.{bit_or, or_lt, or_add_and, and_le_r}
use Rattle.workspace.specs.Bits.{set_bit, words_at, four_at, either_of, word_at, joined}
use Rattle.workspace.specs.Room.{room, Grows}
use Rattle.workspace.proofs.Spans.{lt_or_le}

pub or_le : (x y : ℕ) → x ≤ bit_or x y
or_le x y = omega (arith, or_add_and x y, and_le_r x y)

-- ---- one answer or the other

pub grows_not : (ws : List ℕ) → Grows false ws ws
grows_not ws = record { still = λ e. refl; less = λ e. absurd (true≢false (sym e)) }

pub grows_by : {old now : List ℕ} → room now < room old → Grows true old now
grows_by h = record { still = λ e. absurd (true≢false e); less = λ e. h }

-- ---- one word is stored

-- what the word gains the room loses
pub room_set : (ws : List ℕ) (i v : ℕ) → i < length ws → get_or ws i 0 ≤ 2 ^ 64 → v ≤ 2 ^ 64 → room (set ws i v) + v ≡ room ws + get_or ws i 0
unfolding room
room_set [] i v h l b = absurd (not-suc-le-zero h)
room_set (w ∷ ws) zero v h l b = omega arith
room_set (w ∷ ws) (suc i) v h l b = omega (arith, room_set ws i v (le_of_suc-le-suc h) l b)

module _ (ws : List ℕ) (s r x : ℕ) (e : set ws (4 * s + r / 64) x ≡ set_bit ws s r) where
  pub mark_still : x ≡ get_or ws (4 * s + r / 64) 0 → (ws ≡ set_bit ws s r) × Grows false ws ws
  mark_still p = (sym (ap (set ws (4 * s + r / 64)) p ∙ set-get_or ws (4 * s + r / 64) 0) ∙ e, grows_not ws)

  pub mark_new : x ≢ get_or ws (4 * s + r / 64) 0 → get_or ws (4 * s + r / 64) 0 ≤ x → x ≤ 2 ^ 64 → 4 * s + r / 64 < length ws
      → (set ws (4 * s + r / 64) x ≡ set_bit ws s r) × Grows true ws (set ws (4 * s + r / 64) x)
  mark_new ne l b h = (e, grows_by (omega (arith, room_set ws (4 * s + r / 64) x h (omega arith) b, ne)))

-- ---- four words are stored

module _ (ws : List ℕ) (s a b c d : ℕ) where
  four_still : a ≡ get_or ws (4 * s) 0 → b ≡ word_at ws s 1 → c ≡ word_at ws s 2 → d ≡ word_at ws s 3 → four_at ws s a b c d ≡ ws
  unfolding four_at
  four_still p0 p1 p2 p3 =
      ap (λ l. set (set (set l (4 * s + 1) b) (4 * s + 2) c) (4 * s + 3) d) (ap (set ws (4 * s)) p0 ∙ set-get_or ws (4 * s) 0) ∙
      ap (λ l. set (set l (4 * s + 2) c) (4 * s + 3) d) (ap (set ws (4 * s + 1)) p1 ∙ set-get_or ws (4 * s + 1) 0) ∙
      ap (λ l. set l (4 * s + 3) d) (ap (set ws (4 * s + 2)) p2 ∙ set-get_or ws (4 * s + 2) 0) ∙
      ap (set ws (4 * s + 3)) p3 ∙ set-get_or ws (4 * s + 3) 0

  four_room : 4 * s + 4 ≤ length ws → ((i : ℕ) → get_or ws i 0 ≤ 2 ^ 64) → a ≤ 2 ^ 64 → b ≤ 2 ^ 64 → c ≤ 2 ^ 64 → d ≤ 2 ^ 64
      → room (four_at ws s a b c d) + (a + b + c + d) ≡ room ws + (get_or ws (4 * s) 0 + word_at ws s 1 + word_at ws s 2 + word_at ws s 3)
  unfolding four_at
  four_room h small ha hb hc hd =
      let l1 = set ws (4 * s) a in
      let l2 = set l1 (4 * s + 1) b in
      let l3 = set l2 (4 * s + 2) c in
      let n1 : length l1 ≡ length ws = length-set ws (4 * s) a in
      let n2 : length l2 ≡ length ws = length-set l1 (4 * s + 1) b ∙ n1 in
      let n3 : length l3 ≡ length ws = length-set l2 (4 * s + 2) c ∙ n2 in
      let k1 : get_or l1 (4 * s + 1) 0 ≡ word_at ws s 1 = get_or-set_other ws (4 * s) (4 * s + 1) a 0 (λ e. omega arith) in
      let k2 : get_or l2 (4 * s + 2) 0 ≡ word_at ws s 2 =
      get_or-set_other l1 (4 * s + 1) (4 * s + 2) b 0 (λ e. omega arith) ∙ get_or-set_other ws (4 * s) (4 * s + 2) a 0 (λ e. omega arith) in
      let k3 : get_or l3 (4 * s + 3) 0 ≡ word_at ws s 3 =
      get_or-set_other l2 (4 * s + 2) (4 * s + 3) c 0 (λ e. omega arith) ∙ get_or-set_other l1 (4 * s + 1) (4 * s + 3) b 0 (λ e. omega arith) ∙ get_or-set_other ws (4 * s) (4 * s + 3) a 0 (λ e. omega arith) in
      let r0 : room l1 + a ≡ room ws + get_or ws (4 * s) 0 = room_set ws (4 * s) a (omega arith) (small (4 * s)) ha in
      let r1 : room l2 + b ≡ room l1 + word_at ws s 1 = room_set l1 (4 * s + 1) b (rw n1 (omega arith)) (rw k1 (small (4 * s + 1))) hb ∙ ap (λ z. room l1 + z) k1 in
      let r2 : room l3 + c ≡ room l2 + word_at ws s 2 = room_set l2 (4 * s + 2) c (rw n2 (omega arith)) (rw k2 (small (4 * s + 2))) hc ∙ ap (λ z. room l2 + z) k2 in
      let r3 : room (set l3 (4 * s + 3) d) + d ≡ room l3 + word_at ws s 3 = room_set l3 (4 * s + 3) d (rw n3 (omega arith)) (rw k3 (small (4 * s + 3))) hd ∙ ap (λ z. room l3 + z) k3 in
      omega arith

-- where some word differs, the words gain
sums : (a b c d w x y z : ℕ) → w ≤ a → x ≤ b → y ≤ c → z ≤ d → (a ∷ b ∷ c ∷ d ∷ []) ≢ (w ∷ x ∷ y ∷ z ∷ []) → w + x + y + z < a + b + c + d
sums a b c d w x y z ha hb hc hd ne = lt_or_le (w + x + y + z) (a + b + c + d) (λ h. h) (λ h. absurd (ne (same (omega arith) (omega arith) (omega arith) (omega arith))))
  where
    same : a ≡ w → b ≡ x → c ≡ y → d ≡ z → (a ∷ b ∷ c ∷ d ∷ []) ≡ (w ∷ x ∷ y ∷ z ∷ [])
    same p q r t = rw (p, q, r, t) refl

module _ (ws : List ℕ) (s q : ℕ) where
  -- the words that `joined` stores
  abbrev pub both : List ℕ
  both = either_of (words_at ws s) (words_at ws q)

  pub merge_still : both ≡ words_at ws s → (ws ≡ joined ws s ws q) × Grows false ws ws
  unfolding joined
  merge_still e = (sym (four_still ws s _ _ _ _ (at 0) (at 1) (at 2) (at 3)), grows_not ws)
    where
      at : (k : ℕ) → get_or both k 0 ≡ get_or (words_at ws s) k 0
      at k = ap (λ l. get_or l k 0) e

  pub merge_new : both ≢ words_at ws s → 4 * s + 4 ≤ length ws → ((i : ℕ) → get_or ws i 0 < 2 ^ 64) → Grows true ws (joined ws s ws q)
  unfolding joined
  merge_new ne h small =
      grows_by
      (omega (
        arith,
        four_room ws s (or (4 * s) (4 * q)) (or (4 * s + 1) (4 * q + 1)) (or (4 * s + 2) (4 * q + 2)) (or (4 * s + 3) (4 * q + 3)) h (λ i. le_of_lt (small i)) (under _ _) (under _ _) (under _ _) (under _ _),
        sums (or (4 * s) (4 * q)) (or (4 * s + 1) (4 * q + 1)) (or (4 * s + 2) (4 * q + 2)) (or (4 * s + 3) (4 * q + 3)) (get_or ws (4 * s) 0) (word_at ws s 1) (word_at ws s 2) (word_at ws s 3)
            (or_le _ _) (or_le _ _) (or_le _ _) (or_le _ _) ne,
      ))
    where
      or : (i j : ℕ) → ℕ
      or i j = bit_or (get_or ws i 0) (get_or ws j 0)

      under : (i j : ℕ) → or i j ≤ 2 ^ 64
      under i j = le_of_lt (or_lt 64 (get_or ws i 0) (get_or ws j 0) (small i) (small j))
