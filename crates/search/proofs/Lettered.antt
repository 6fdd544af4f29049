-- A sheet's ranges, joined one by one, are its letters.
use Prim.Native.Nat.{ℕ, ◌+◌, ◌<◌}
use mathlib.Core.Path.{◌≡◌, sym, ap, ◌∙◌}
use mathlib.Core.List.{List}
use native.Mathlib.Omega.{arith}
use native.Mathlib.Numerals.{add-one}
use native.Mathlib.Decide.{dec_lt}
use borrow.Author.Tests.{le-ltb}
use Rattle.paper.specs.Tests.{any_below}
use Rattle.paper.specs.Bytes.{u8_at}
use Rattle.paper.specs.Trailer.{count_of, record_at}
use Rattle.paper.specs.Sheet.{sheet_of, letter}
use Rattle.paper.proofs.Tests.{any_none, any_suc}
use Rattle.sheet.proofs.Contents.{in_span, letter_is}
use Rattle.workspace.proofs.Bits.{bit_past}
use Rattle.walk_state.specs.Letters.{has_letter, NoLetter, Joined}

-- the first i ranges have been joined
abbrev pub RangesTo : List ℕ → ℕ → List ℕ → Type 0
RangesTo s i of = (b : ℕ) → has_letter of b ≡ any_below i (in_span s b)

pub ranges_start : (s of : List ℕ) → NoLetter of → RangesTo s 0 of
ranges_start s of h b = h b ∙ sym (any_none (in_span s b))

pub ranges_more : (s of r : List ℕ) (i : ℕ) → RangesTo s i of → Joined of (u8_at s (record_at s 0 i)) (u8_at s (record_at s 0 i + 1)) r → RangesTo s (i + 1) r
ranges_more s of r i h j b = j b ∙ rw (h b) (sym (any_suc i (in_span s b))) ∙ ap (λ (k : ℕ). any_below k (in_span s b)) (sym (add-one i))

pub ranges_end : (s of : List ℕ) (i : ℕ) → count_of s 0 ≡ i → RangesTo s i of → (b : ℕ) → has_letter of b ≡ letter (sheet_of s) b
unfolding letter has_letter
ranges_end s of i e h b = go (dec_lt b 256)
  where
    go : Dec (b < 256) → has_letter of b ≡ letter (sheet_of s) b
    go (yes y) = h b ∙ rw (← e) (sym (letter_is s b y))
    go (no y) = bit_past of 0 b (omega arith) ∙ rw (le-ltb b 256 (omega arith))
