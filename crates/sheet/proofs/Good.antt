-- Acceptance, by whichever call, gives what the readers of a sheet rest on.
-- Assumes nothing.
use Prim.Native.Nat.{ℕ, ◌+◌, ◌<◌, ◌≤◌}
use mathlib.Core.Path.{◌≡◌, refl}
use mathlib.Core.List.{List}
use mathlib.Core.Bool.{Bool, true, false}
use lib.ListN.{length}
use lib.Dec.{leb, eqb}
use borrow.Author.Tests.{eqb-true, leb-true}
use native.Mathlib.Omega.{arith}
use Rattle.paper.specs.Bytes.{u8_at}
use Rattle.paper.specs.Tests.{first_bad}
use Rattle.paper.specs.Trailer.{edition, trailer_size, size, least, most, limit, shortest, longest, offset_of, count_of, record_at, count_ok, lengths_ok, offsets_ok, rules_ok, mark_ok, total_ok}
use Rattle.paper.specs.Sheet.{second_run, assertion_at}
use Rattle.paper.specs.Records.{letter_ok, record_ok, bad_table, term_fits, assert_fits, bad_term}
use Rattle.paper.specs.Refusals.{Fault, plain, count_fault, rule_fault, record_fault, term_fault, unless, content_refusal, table_refusal, Takes, refusal}
use Rattle.paper.proofs.Tests.{and_left, and_right}
use Rattle.sheet_trailer.specs.Placed.{Trailed, Laid}
use Rattle.sheet_trailer.proofs.Search.{all_good}
use Rattle.sheet_trailer.proofs.Tables as tables
use Rattle.sheet_records.proofs.Kept.{kept, row_sound, part_sound, assertion_sound}
use Rattle.sheet.specs.Good.{Good}

-- ---- the tests that acceptance passes

pub pass : (f : Fault) (test : Bool) (later : Fault) → 0 < f.number → (unless f test later).number ≡ 0 → (test ≡ true) × (later.number ≡ 0)
pass f true later p e = (refl, e)
pass f false later p e = absurd (omega arith)

pub record Ends (takes : Takes) (s : List ℕ) : Type 0 where
  pub low : 32 ≤ length s
  pub high : length s ≤ takes.bytes
  pub mark : mark_ok takes.first takes.last s ≡ true
  pub total : total_ok s ≡ true
  pub trailed : Trailed s
  pub rest : (table_refusal s).number ≡ 0

pub record Tables (s : List ℕ) : Type 0 where
  pub counts : first_bad (count_ok s) 5 ≡ 5
  pub lengths : lengths_ok s ≡ true
  pub offsets : offsets_ok s ≡ true
  pub rules : rules_ok s ≡ true
  pub records : bad_table s ≡ 5
  pub terms : bad_term s ≡ count_of s 4

pub heads : (takes : Takes) (s : List ℕ) → (refusal takes s).number ≡ 0 → Ends takes s
unfolding refusal total_ok
heads takes s e =
    let a = pass (plain 10) (leb 32 (length s)) _ (omega arith) e in
    let b = pass (plain 11) (leb (length s) takes.bytes) _ (omega arith) a.1 in
    let c = pass (plain 12) (mark_ok takes.first takes.last s) _ (omega arith) b.1 in
    let d = pass (plain 13) (total_ok s) _ (omega arith) c.1 in
    record {
      low = leb-true _ _ a.0;
      high = leb-true _ _ b.0;
      mark = c.0;
      total = d.0;
      trailed = leb-true _ _ (and_left (leb (trailer_size (edition s)) (length s)) _ d.0);
      rest = d.1;
    }

pub tails : (s : List ℕ) → (table_refusal s).number ≡ 0 → Tables s
unfolding table_refusal content_refusal
tails s e =
    let a = pass (count_fault s) (eqb (first_bad (count_ok s) 5) 5) _ (omega arith) e in
    let b = pass (plain 141) (lengths_ok s) _ (omega arith) a.1 in
    let c = pass (plain 15) (offsets_ok s) _ (omega arith) b.1 in
    let n = pass rule_fault (rules_ok s) _ (omega arith) c.1 in
    let d = pass (record_fault s) (eqb (bad_table s) 5) _ (omega arith) n.1 in
    let f = pass (term_fault s) (eqb (bad_term s) (count_of s 4)) _ (omega arith) d.1 in
    record {
      counts = eqb-true _ _ a.0;
      lengths = b.0;
      offsets = c.0;
      rules = n.0;
      records = eqb-true _ _ d.0;
      terms = eqb-true _ _ f.0;
    }

module _ (s : List ℕ) (e : (table_refusal s).number ≡ 0) where
  pair_ok : shortest s ≤ longest s
  unfolding lengths_ok
  pair_ok = leb-true _ _ (and_left (leb (shortest s) (longest s)) _ (tails s e).lengths)

  short_ok : longest s ≤ limit
  unfolding lengths_ok
  short_ok = leb-true _ _ (and_right (leb (shortest s) (longest s)) _ (tails s e).lengths)

  count_ok_lem : (t : ℕ) → t < 5 → (least t ≤ count_of s t) × (count_of s t ≤ most t)
  unfolding count_ok
  count_ok_lem t l =
      let h = all_good (count_ok s) 5 t (tails s e).counts l in
      (leb-true _ _ (and_left (leb (least t) (count_of s t)) (leb (count_of s t) (most t)) h), leb-true _ _ (and_right (leb (least t) (count_of s t)) (leb (count_of s t) (most t)) h))

-- what the faults before 16 leave
pub laid : (s : List ℕ) → Trailed s → first_bad (count_ok s) 5 ≡ 5 → lengths_ok s ≡ true → offsets_ok s ≡ true → Laid s
unfolding count_ok lengths_ok
laid s t c l o = record {
  trailed = t;
  counts = λ k h. leb-true _ _ (and_right (leb (least k) (count_of s k)) _ (all_good (count_ok s) 5 k c h));
  short = leb-true _ _ (and_right (leb (shortest s) (longest s)) _ l);
  placed = tables.placed s o;
}

letter_at : (s : List ℕ) (o : ℕ) → record_ok s 0 o ≡ true → u8_at s o ≤ u8_at s (o + 1)
unfolding record_ok letter_ok
letter_at s o e = leb-true _ _ e

terms_at : (s : List ℕ) (o : ℕ) → assert_fits s o ≡ true → (term_fits s (assertion_at s o).term ≡ true) × (term_fits s (second_run (assertion_at s o).claim) ≡ true)
unfolding assert_fits
terms_at s o e = (and_left _ _ e, and_right (term_fits s (assertion_at s o).term) _ e)

pub good : (takes : Takes) (s : List ℕ) → takes.bytes < 65536 → (refusal takes s).number ≡ 0 → Good s
good takes s n e =
    let h = heads takes s e in
    let t = tails s h.rest in
    let placed = tables.placed s t.offsets in
    record {
      trailed = h.trailed;
      small = omega (arith, h.high);
      pair = pair_ok s h.rest;
      short = short_ok s h.rest;
      counts = count_ok_lem s h.rest;
      placed = placed;
      room = λ k i l g. tables.room (size k) (offset_of s k) (count_of s k) i (length s) g (placed k l);
      letters = λ i g. letter_at s _ (kept s 0 i t.records (omega arith) g);
      rows = λ i g. row_sound s _ (kept s 2 i t.records (omega arith) g);
      parts = λ i g. part_sound s _ (kept s 3 i t.records (omega arith) g);
      assertions = λ i g. assertion_sound s _ (kept s 4 i t.records (omega arith) g);
      terms = λ i g. terms_at s _ (all_good (λ k. assert_fits s (record_at s 4 k)) (count_of s 4) i t.terms g);
    }
