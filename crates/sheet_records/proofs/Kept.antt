-- What the rules give of a record that keeps them: its row, part or assertion is sound.
-- Assumes nothing.
use Prim.Native.Nat.{ℕ, ◌+◌, ◌<◌, ◌≤◌}
use mathlib.Core.Path.{◌≡◌, sym}
use mathlib.Core.List.{List}
use mathlib.Core.Bool.{Bool, true, false, cond, ◌&&◌, true≢false}
use lib.Dec.{ltb, leb, eqb}
use borrow.Author.Tests.{eqb-true, leb-true, ltb-true}
use native.Mathlib.Omega.{arith}
use Rattle.paper.specs.Bytes.{u8_at, u16_at}
use Rattle.paper.specs.Trailer.{count_of, record_at}
use Rattle.paper.specs.Rows.{Empty, Range, Text, Alt, Seq, Star, no_row, row_of}
use Rattle.paper.specs.Terms.{Const, All, Cut, part_of}
use Rattle.paper.specs.Sheet.{Claim, Derived, Contains, Equals, ContainsTerm, claim_of, second_run, row_at, part_at, assertion_at}
use Rattle.paper.specs.Records.{row_fields, row_ok, part_fields, part_ok, assert_fields, assert_ok, record_ok, table_ok, bad_table}
use Rattle.paper.proofs.Tests.{and_left, and_right}
use Rattle.paper.proofs.Sound.{SoundRow, SoundPart, SoundClaim, SoundAssertion}
use Rattle.sheet_trailer.proofs.Search.{all_good}

-- where no table has a bad record, each record keeps its rule
pub kept : (s : List ℕ) (t i : ℕ) → bad_table s ≡ 5 → t < 5 → i < count_of s t → record_ok s t (record_at s t i) ≡ true
unfolding table_ok
kept s t i e l h =
    all_good (λ k. record_ok s t (record_at s t k)) (count_of s t) i (eqb-true _ _ (all_good (table_ok s) 5 t e l)) h

-- ---- kind by kind

below_both : (a b n : ℕ) → (ltb a n && ltb b n) ≡ true → (a < n) × (b < n)
below_both a b n e = (ltb-true a n (and_left (ltb a n) (ltb b n) e), ltb-true b n (and_right (ltb a n) (ltb b n) e))

module _ (rows text a b : ℕ) where
  row_kinds : (one two three four five six : Bool)
      → cond one (eqb a 0 && eqb b 0) (cond two (leb a b && leb b 255) (cond three (leb (a + b) text)
      (cond four (ltb a rows && ltb b rows) (cond five (ltb a rows && ltb b rows) (cond six (ltb a rows && eqb b 0) false))))) ≡ true
      → SoundRow text rows (cond one Empty (cond two (Range a b) (cond three (Text a b) (cond four (Alt a b) (cond five (Seq a b) (cond six (Star a) no_row))))))
  row_kinds true two three four five six e = tt
  row_kinds false true three four five six e = (leb-true a b (and_left (leb a b) (leb b 255) e), leb-true b 255 (and_right (leb a b) (leb b 255) e))
  row_kinds false false true four five six e = leb-true (a + b) text e
  row_kinds false false false true five six e = below_both a b rows e
  row_kinds false false false false true six e = below_both a b rows e
  row_kinds false false false false false true e = ltb-true a rows (and_left (ltb a rows) (eqb b 0) e)
  row_kinds false false false false false false e = absurd (true≢false (sym e))

  part_kinds : (one two three : Bool) → cond one (leb (a + b) text) (cond two (eqb a 0 && eqb b 0) three) ≡ true → SoundPart text (cond one (Const a b) (cond two All (Cut a b)))
  part_kinds true two three e = leb-true (a + b) text e
  part_kinds false true three e = tt
  part_kinds false false three e = tt

row_fields_lem : (rows text k a b : ℕ) → row_fields rows text k a b ≡ true → SoundRow text rows (row_of k a b)
unfolding row_fields row_of
row_fields_lem rows text k a b e = row_kinds rows text a b (eqb k 1) (eqb k 2) (eqb k 3) (eqb k 4) (eqb k 5) (eqb k 6) e

part_fields_lem : (text k a b : ℕ) → part_fields text k a b ≡ true → SoundPart text (part_of k a b)
unfolding part_fields part_of
part_fields_lem text k a b e = part_kinds 0 text a b (eqb k 1) (eqb k 2) (eqb k 3) e

module _ (text rows parts a b : ℕ) where
  claim_kinds : (one two three four : Bool)
      → cond one (ltb a rows && eqb b 0) (cond two (leb (a + b) text) (cond three (leb (a + b) parts) (cond four (leb (a + b) parts) false))) ≡ true
      → SoundClaim text rows parts (cond one (Derived a) (cond two (Contains a b) (cond three (Equals a b) (ContainsTerm a b))))
  claim_kinds true two three four e = ltb-true a rows (and_left (ltb a rows) (eqb b 0) e)
  claim_kinds false true three four e = leb-true (a + b) text e
  claim_kinds false false true four e = leb-true (a + b) parts e
  claim_kinds false false false true e = leb-true (a + b) parts e
  claim_kinds false false false false e = absurd (true≢false (sym e))

  claim_sound : (k : ℕ) → assert_fields text rows parts k a b ≡ true → SoundClaim text rows parts (claim_of k a b)
  unfolding assert_fields claim_of
  claim_sound k e = claim_kinds (eqb k 1) (eqb k 2) (eqb k 3) (eqb k 4) e

-- a claim's second run lies inside the parts
pub second_inside : (text rows parts : ℕ) (c : Claim) → SoundClaim text rows parts c → (second_run c).first + (second_run c).count ≤ parts
second_inside text rows parts (Derived r) h = omega arith
second_inside text rows parts (Contains a b) h = omega arith
second_inside text rows parts (Equals a b) h = h
second_inside text rows parts (ContainsTerm a b) h = h

-- ---- the record at o

module _ (s : List ℕ) (o : ℕ) where
  pub row_sound : record_ok s 2 o ≡ true → SoundRow (count_of s 1) (count_of s 2) (row_at s o)
  unfolding record_ok row_ok row_at
  row_sound e = row_fields_lem _ _ _ _ _ (and_right (eqb (u8_at s (o + 1)) 0) _ e)

  pub part_sound : record_ok s 3 o ≡ true → SoundPart (count_of s 1) (part_at s o)
  unfolding record_ok part_ok part_at
  part_sound e = part_fields_lem _ _ _ _ (and_right (eqb (u8_at s (o + 1)) 0) _ e)

  pub assertion_sound : record_ok s 4 o ≡ true → SoundAssertion (count_of s 1) (count_of s 2) (count_of s 3) (assertion_at s o)
  unfolding record_ok assert_ok assertion_at
  assertion_sound e =
      let run = and_right (leb (u8_at s (o + 1)) 1) _ e in
      let fields = and_right (eqb (u16_at s (o + 10)) 0) _ (and_right (leb (u16_at s (o + 2) + u16_at s (o + 4)) (count_of s 3)) _ run) in
      let c = claim_sound (count_of s 1) (count_of s 2) (count_of s 3) (u16_at s (o + 6)) (u16_at s (o + 8)) (u8_at s o) fields in
      record {
        run = leb-true _ _ (and_left (leb (u16_at s (o + 2) + u16_at s (o + 4)) (count_of s 3)) _ run);
        second = second_inside (count_of s 1) (count_of s 2) (count_of s 3) (assertion_at s o).claim c;
        claim = c;
      }
