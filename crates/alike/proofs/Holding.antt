-- The table of the range rows that hold each byte.
-- Assumes nothing.
use Prim.Native.Nat.{ℕ, ◌+◌, ◌-◌, ◌*◌, ◌/◌, ◌%◌, ◌≤◌, ◌<◌}
use mathlib.Core.Path.{◌≡◌, refl, sym, ap, ◌∙◌}
use mathlib.Core.Logic.{◌≢◌}
use mathlib.Core.Bool.{Bool, true, false, ◌&&◌, ◌||◌, and-false}
use mathlib.Core.List.{List}
use native.Mathlib.Omega.{arith}
use native.Mathlib.Decide.{dec_lt, ℕ_discrete}
use lib.Dec.{eqb, ltb, leb}
use lib.Seq.{get_or-take, get_or-drop}
use lib.ListN.{length, get_or, take, drop, replicate, length-replicate, get_or-replicate, get_or-eq_default}
use borrow.Author.Tests.{lt-ltb, le-ltb, le-leb, lt-leb, eq-eqb, ne_eqb}
use Rattle.paper.specs.Rows.{Range, Grammar, row, no_row}
use Rattle.workspace.specs.Bits.{bit, bit_at, set_bit, word_at}
use Rattle.workspace.proofs.Bits.{length_set_bit, set_bit_same, set_bit_other, set_bit_apart}
use Rattle.workspace.proofs.Words.{bit_zero}
use Rattle.sheet_contents.specs.Ranges.{holds_byte}
use Rattle.alike.specs.Slots.{between, Added, Holders, SameRows}

-- ---- a row into the entries of some bytes

pub added_none : (test : ℕ → Bool) (r : ℕ) (ws : List ℕ) → ((b : ℕ) → test b ≡ false) → Added test r ws ws
added_none test r ws h = record { long = refl; bits = λ b q l m. rw (h b, and-false (eqb q r)) }

pub added_as : (test other : ℕ → Bool) (r : ℕ) (ws ws' : List ℕ) → ((b : ℕ) → test b ≡ other b) → Added test r ws ws' → Added other r ws ws'
added_as test other r ws ws' h a = record { long = a.long; bits = λ b q l m. rw (← h b) (a.bits b q l m) }

-- below x + 1 and at most x are the same
ltb_more : (b x : ℕ) → ltb b (x + 1) ≡ leb b x
ltb_more b x = go (dec_lt x b)
  where
    go : Dec (x < b) → ltb b (x + 1) ≡ leb b x
    go (yes l) = rw (le-ltb b (x + 1) (omega arith), lt-leb b x l)
    go (no l) = rw (lt-ltb b (x + 1) (omega arith), le-leb b x (omega arith))

between_other : (lo x b : ℕ) → b ≢ x → between lo x b ≡ between lo (x + 1) b
between_other lo x b n = go (dec_lt b x)
  where
    go : Dec (b < x) → between lo x b ≡ between lo (x + 1) b
    go (yes l) = rw (lt-ltb b x l, lt-ltb b (x + 1) (omega arith))
    go (no l) = rw (le-ltb b x (omega arith), le-ltb b (x + 1) (omega arith))

module _ (lo x r : ℕ) (ws ws' : List ℕ) (above : lo ≤ x) (byte : x < 256) (few : r < 256) (long : length ws ≡ 1024) (a : Added (between lo x) r ws ws') where
  added_bit : (b q : ℕ) → b < 256 → q < 256 → bit_at (set_bit ws' x r) b q ≡ ((eqb q r && between lo (x + 1) b) || bit_at ws b q)
  added_bit b q l m = go (ℕ_discrete b x) (ℕ_discrete q r)
    where
      go : Dec (b ≡ x) → Dec (q ≡ r) → bit_at (set_bit ws' x r) b q ≡ ((eqb q r && between lo (x + 1) b) || bit_at ws b q)
      go (yes e) (yes f) =
          rw (e, f, set_bit_same ws' x r (omega (arith, a.long)) few, eq-eqb r r refl, le-leb lo x above, lt-ltb x (x + 1) (omega arith))
      go (yes e) (no f) = rw (e, set_bit_other ws' x r q f, ne_eqb q r f) (rw (ne_eqb q r f) at (a.bits x q byte m))
      go (no e) y = set_bit_apart ws' x r b q e few ∙ rw (← between_other lo x b e) (a.bits b q l m)

  pub added_more : Added (between lo (x + 1)) r ws (set_bit ws' x r)
  added_more = record { long = length_set_bit ws' x r ∙ a.long; bits = added_bit }

-- a range row's bytes
pub added_range : (lo hi r : ℕ) (ws ws' : List ℕ) → Added (between lo (hi + 1)) r ws ws' → Added (holds_byte (Range lo hi)) r ws ws'
unfolding holds_byte
added_range lo hi r ws ws' a = added_as (between lo (hi + 1)) (holds_byte (Range lo hi)) r ws ws' (λ b. rw (ltb_more b hi)) a

-- a row that is not there holds no byte
none_held_lem : (b : ℕ) → holds_byte no_row b ≡ false
unfolding holds_byte
none_held_lem b = go (dec_lt b 1)
  where
    go : Dec (b < 1) → (leb 1 b && leb b 0) ≡ false
    go (yes l) = rw (lt-leb 1 b l)
    go (no l) = rw (le-leb 1 b (omega arith), lt-leb b 0 (omega arith))

-- ---- the rows of a grammar

-- each element of a list of zeros, and past it
pub zero_at : (n i : ℕ) → get_or (replicate {A = ℕ} n 0) i 0 ≡ 0
zero_at n i = go (dec_lt i n)
  where
    go : Dec (i < n) → get_or (replicate {A = ℕ} n 0) i 0 ≡ 0
    go (yes l) = get_or-replicate n i 0 0 l
    go (no l) = get_or-eq_default (replicate n 0) 0 (rw length-replicate (omega arith))

zero_bit : (n b q : ℕ) → bit_at (replicate n 0) b q ≡ false
unfolding bit_at
zero_bit n b q = rw (zero_at n (4 * b + q / 64), bit_zero) (and-false (ltb q 256))

pub holders_start : (g : Grammar) (n : ℕ) → n ≡ 1024 → Holders g 0 (replicate n 0)
holders_start g n e = record { long = length-replicate n 0 ∙ e; bits = λ b q l m. zero_bit n b q ∙ rw (le-ltb q 0 (omega arith)) }

module _ (g : Grammar) where
  -- bytes of the same entry are held by the same rows
  pub rows_same : (ws : List ℕ) → length g.rows ≤ 256 → Holders g (length g.rows) ws → (b c : ℕ) → b < 256 → c < 256 → SameRows ws b c
      → (r : ℕ) → holds_byte (row g r) b ≡ holds_byte (row g r) c
  unfolding row
  rows_same ws few h b c l m e r = go (dec_lt r (length g.rows))
    where
      go : Dec (r < length g.rows) → holds_byte (row g r) b ≡ holds_byte (row g r) c
      go (yes y) = let t : ltb r (length g.rows) ≡ true = lt-ltb _ _ y in sym (rw t at (h.bits b r l (omega arith))) ∙ e r ∙ rw t at (h.bits c r m (omega arith))
      go (no y) =
          let n : row g r ≡ no_row = get_or-eq_default g.rows no_row (omega arith) in
          rw n (none_held_lem b ∙ sym (none_held_lem c))

-- entries of the same four words
pub words_same : (ws : List ℕ) (b c : ℕ) → take (4 * b + 4 - 4 * b) (drop (4 * b) ws) ≡ take (4 * c + 4 - 4 * c) (drop (4 * c) ws) → SameRows ws b c
unfolding bit_at
words_same ws b c e q = go (dec_lt q 256)
  where
    word : (a k : ℕ) → k < 4 → get_or (take (4 * a + 4 - 4 * a) (drop (4 * a) ws)) k 0 ≡ word_at ws a k
    word a k l = get_or-take (4 * a + 4 - 4 * a) (drop (4 * a) ws) k 0 (omega arith) ∙ get_or-drop (4 * a) ws k 0

    same : (k : ℕ) → k < 4 → word_at ws b k ≡ word_at ws c k
    same k l = sym (word b k l) ∙ ap (λ (x : List ℕ). get_or x k 0) e ∙ word c k l

    go : Dec (q < 256) → (ltb q 256 && eqb (bit (word_at ws b (q / 64)) (q % 64)) 1) ≡ (ltb q 256 && eqb (bit (word_at ws c (q / 64)) (q % 64)) 1)
    go (yes l) = rw (same (q / 64) (omega arith))
    go (no l) = rw (le-ltb q 256 (omega arith))
