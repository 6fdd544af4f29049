-- A row by its kind: whether it splits, the length of its text, and whether it holds a letter.
-- Assumes nothing.
use Prim.Native.Nat.{ℕ, ◌+◌, ◌-◌, ◌*◌, ◌%◌, ◌^◌, ◌≤◌, ◌<◌}
use mathlib.Core.Path.{◌≡◌, refl, sym, ap, ◌∙◌}
use mathlib.Core.Logic.{◌⊎◌, inl, inr}
use mathlib.Core.Bool.{true, false}
use native.Mathlib.Nat.{one-mul}
use native.Mathlib.Numerals.{add-one}
use native.Mathlib.Omega.{arith}
use native.Mathlib.Decide.{ℕ_discrete}
use Rattle.std.specs.Prelude.{Some}
use lib.Bits.{bit_or}
use lib.Dec.{lit<}
use lib.Pow.{shl_exact}
use Rattle.paper.specs.Tests.{any_below}
use Rattle.paper.specs.Rows.{Row, Empty, Range, Text, Alt, Seq, Star}
use Rattle.paper.specs.Sheet.{Sheet, letter}
use Rattle.paper.proofs.Sound.{SoundRow}
use Rattle.paper.proofs.Tests.{any_none, any_intro, any_nowhere}
use Rattle.workspace.specs.Bits.{bit}
use Rattle.workspace.proofs.Words.{mark_same, mark_other}
use Rattle.groundwork.specs.declared.splits.Pair.{Pair}
use Rattle.groundwork.specs.Laying.{letter_from, some_letter, pair, pair_of, LengthTold}
use Rattle.groundwork.specs.Ground.{Splits, PairOf}

-- ---- a range that holds a letter

module _ (s : Sheet) where
  pub letters_of : (low high : ℕ) → any_below (high + 1 - low) (letter_from s low) ≡ some_letter s (Range low high)
  unfolding some_letter
  letters_of low high = rw add-one

  pub letters_some : (low high b : ℕ) → low ≤ b → b < high + 1 → true ≡ letter s b → true ≡ some_letter s (Range low high)
  letters_some low high b l h e =
      let p : b ≡ low + (b - low) = omega arith in
      sym (any_intro (high + 1 - low) (letter_from s low) (b - low) (omega arith) (sym (e ∙ ap (letter s) p))) ∙ letters_of low high

  pub letters_none : (low high : ℕ) → ((b : ℕ) → low ≤ b → b < high + 1 → letter s b ≡ false) → false ≡ some_letter s (Range low high)
  letters_none low high f = sym (any_nowhere (high + 1 - low) (letter_from s low) (λ k l. f (low + k) (omega arith) (omega arith))) ∙ letters_of low high

  pub no_row_letter : some_letter s (Range 1 0) ≡ false
  unfolding some_letter
  no_row_letter = any_none _

-- ---- a row that splits

pub splits_which : {q : ℕ} {r : Row} {a b : ℕ} → Splits q r a b → (r ≡ Seq a b) ⊎ ((r ≡ Star a) × (b ≡ q))
splits_which Splits.by_seq = inl refl
splits_which Splits.by_star = inr (refl, refl)

pub splits_pair : {q : ℕ} {r : Row} {a b : ℕ} → Splits q r a b → pair_of q r ≡ Some (pair q a b)
splits_pair Splits.by_seq = refl
splits_pair Splits.by_star = refl

pub pair_row : (q : ℕ) (p : Pair) (r : Row) → pair_of q r ≡ Some p → p.row ≡ q
pair_row q p Empty e = cc
pair_row q p (Range lo hi) e = cc
pair_row q p (Text off len) e = cc
pair_row q p (Alt a b) e = cc
pair_row q p (Seq a b) e = let z : pair q a b ≡ p = cc in rw (← z)
pair_row q p (Star a) e = let z : pair q a q ≡ p = cc in rw (← z)

module _ (text n q : ℕ) (few : n ≤ 256) (low : q < 256) where
  pub pair_splits : (p : Pair) (r : Row) → SoundRow text n r → pair_of q r ≡ Some p → PairOf r p
  pair_splits p Empty h e = cc
  pair_splits p (Range lo hi) h e = cc
  pair_splits p (Text off len) h e = cc
  pair_splits p (Alt a b) h e = cc
  pair_splits p (Seq a b) h e =
      let z : pair q a b ≡ p = cc in rw (← z) (record { row = low; left = omega (arith, h.0); right = omega (arith, h.1); splits = Splits.by_seq })
  pair_splits p (Star a) h e =
      let z : pair q a q ≡ p = cc in rw (← z) (record { row = low; left = omega (arith, h); right = low; splits = Splits.by_star })

-- ---- a text row's length

module _ (a b x : ℕ) where
  text_length : (off m : ℕ) → Text a b ≡ Text off m → m ≡ b
  text_length off m e = cc

  pub told_text : b ≤ 60 → LengthTold (Text a b) x (bit_or x ((1 * 2 ^ b) % 2 ^ 64))
  told_text l = rw (shl_exact {a = 1} 1 b 64 (lit< tt) (omega arith), one-mul) (record { kept = λ m z. go m z (ℕ_discrete m b); told = λ off m e z. rw (text_length off m e) (mark_same x b) })
    where
      go : (m : ℕ) → bit x m ≡ 1 → Dec (m ≡ b) → bit (bit_or x (2 ^ b)) m ≡ 1
      go m z (yes e) = rw e (mark_same x b)
      go m z (no ne) = mark_other x m b ne ∙ z
