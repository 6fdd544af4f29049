-- An accepted sheet with no rule, and what it is in edition e: it is accepted, and reads as the sheet does.
-- Assumes nothing.
use Prim.Native.Nat.{ℕ, zero, suc, ◌+◌, ◌*◌, ◌-◌, ◌≤◌, ◌<◌}
use mathlib.Core.Path.{◌≡◌, sym, ap, ◌∙◌}
use mathlib.Core.Bool.{true}
use mathlib.Core.List.{List}
use native.Mathlib.Omega.{arith}
use lib.Dec.{leb, eqb}
use lib.ListN.{length, get_or}
use lib.Seq.{get_or-take}
use borrow.Author.Tests.{eq-eqb, le-leb, eqb-true, leb-true}
use Rattle.paper.specs.Bytes.{mark_at}
use Rattle.paper.specs.Rules.{no_rule}
use Rattle.paper.specs.Trailer.{size, edition, trailer_size, base, offset_of, count_of, new_byte, rules_of, start_of, longest, rules_ok, mark_ok, total_ok}
use Rattle.paper.specs.Sheet.{grammar_of, sheet_of}
use Rattle.paper.specs.Refusals.{Takes, latest, content_refusal, table_refusal, refusal, Accepted}
use Rattle.paper.specs.Editions.{in_edition, only}
use Rattle.paper.proofs.Tests.{and_intro, and_left, and_right}
use Rattle.sheet_trailer.proofs.Tables.{before_trailer, ends}
use Rattle.sheet.proofs.Good.{good, Tables, heads, tails}
use Rattle.editions.proofs.Moved.{moved_length, moved_front, moved_base, moved_new, moved_mark, moved_total}
use Rattle.editions.proofs.Alike.{Alike, count_alike, counts_alike, lengths_alike, offsets_alike, rules_ok_alike, bad_table_alike, bad_term_alike, longest_alike, grammar_alike, sheet_alike}
use Rattle.editions.proofs.Back.{Ended}

-- the first edition has no rule
pub first_no_rule : (s : List ℕ) → edition s ≡ 1 → no_rule (rules_of s) ≡ true
unfolding no_rule rules_of new_byte
first_no_rule s e = rw e

-- ---- what a call takes

-- the mark's edition is one that the call reads, and the mark is the edition's
mark_read : (first last : ℕ) (s : List ℕ) → mark_ok first last s ≡ true → (first ≤ edition s) × (edition s ≤ last) × (mark_at s (length s - 4) 80 82 77 (48 + edition s) ≡ true)
unfolding mark_ok
mark_read first last s m =
    let n = and_right (leb first (edition s)) _ m in
    (leb-true _ _ (and_left (leb first (edition s)) _ m), leb-true _ _ (and_left (leb (edition s) last) _ n), and_right (leb (edition s) last) _ n)

mark_taken : (first last : ℕ) (s : List ℕ) → first ≤ edition s → edition s ≤ last → mark_at s (length s - 4) 80 82 77 (48 + edition s) ≡ true → mark_ok first last s ≡ true
unfolding mark_ok
mark_taken first last s p q m = and_intro (le-leb _ _ p) (and_intro (le-leb _ _ q) m)

passes : (takes : Takes) (s : List ℕ) → 32 ≤ length s → length s ≤ takes.bytes → mark_ok takes.first takes.last s ≡ true → total_ok s ≡ true → (table_refusal s).number ≡ 0
    → (refusal takes s).number ≡ 0
unfolding refusal
passes takes s l h m t e = rw (le-leb _ _ l, le-leb _ _ h, m, t) e

-- a call that takes one edition alone takes the accepted sheets of it
pub only_accepted : (s : List ℕ) → Accepted s → (refusal (only (edition s)) s).number ≡ 0
only_accepted s a =
    let h = heads latest s a in
    passes (only (edition s)) s h.low h.high (mark_taken _ _ s (omega arith) (omega arith) (mark_read 1 2 s h.mark).2) h.total h.rest

pub accepted_only : (e : ℕ) → 1 ≤ e → e ≤ 2 → (s : List ℕ) → (refusal (only e) s).number ≡ 0 → Accepted s × (edition s ≡ e)
accepted_only e lo hi s a =
    let h = heads (only e) s a in
    let m = mark_read e e s h.mark in
    (passes latest s h.low h.high (mark_taken _ _ s (omega (arith, m.0)) (omega (arith, m.1)) m.2) h.total h.rest, omega (arith, m.0, m.1))

-- ---- an accepted sheet with no rule

module _ (s : List ℕ) (a : Accepted s) (r : no_rule (rules_of s) ≡ true) where
  no_new : (k : ℕ) → k < 4 → new_byte s k ≡ 0
  unfolding no_rule rules_of rules_ok
  no_new k h = go k h
    where
      rules : rules_ok s ≡ true
      rules = (tails s (heads latest s a).rest).rules

      go : (k : ℕ) → k < 4 → new_byte s k ≡ 0
      go zero h = eqb-true _ _ (and_left (eqb (new_byte s 0) 0) _ r)
      go (suc zero) h = eqb-true _ _ (and_right (eqb (new_byte s 0) 0) _ r)
      go (suc (suc zero)) h = eqb-true _ _ (and_left (eqb (new_byte s 2) 0) _ (and_right (eqb (new_byte s 1) 0) _ (and_right (leb (new_byte s 0) 1) _ rules)))
      go (suc (suc (suc zero))) h = eqb-true _ _ (and_right (eqb (new_byte s 2) 0) _ (and_right (eqb (new_byte s 1) 0) _ (and_right (leb (new_byte s 0) 1) _ rules)))
      go (suc (suc (suc (suc k)))) h = absurd (omega arith)

  pub ended : Ended s
  unfolding total_ok
  ended =
      let h = heads latest s a in
      let m = mark_read 1 2 s h.mark in
      record {
        trailed = h.trailed;
        low = m.0;
        high = m.1;
        mark = m.2;
        total = eqb-true _ _ (and_right (leb (trailer_size (edition s)) (length s)) _ h.total);
        new = no_new;
      }

  -- full tables have 3,344 bytes
  pub base_most : base s ≤ 3344
  unfolding start_of
  base_most =
      let c = (good latest s (omega arith) a).counts in
      omega (arith, ends s (tails s (heads latest s a).rest).offsets, (c 0 (omega arith)).1, (c 1 (omega arith)).1, (c 2 (omega arith)).1, (c 3 (omega arith)).1, (c 4 (omega arith)).1)

  module _ (e : ℕ) (lo : 1 ≤ e) (hi : e ≤ 2) where
    pub alike : Alike s (in_edition e s)
    unfolding base
    alike =
        let t = (heads latest s a).trailed in
        record {
          begins = sym (moved_base s t e lo hi);
          bytes = λ i h. sym (get_or-take (base s + 24) s i 0 h) ∙ ap (λ (z : List ℕ). get_or z i 0) (sym (moved_front s t e lo hi)) ∙ get_or-take (base s + 24) (in_edition e s) i 0 h;
          new = λ k h. no_new k h ∙ sym (moved_new s t e lo hi k h);
          long = omega arith;
          long' = omega (arith, moved_length s t e lo hi);
        }

    tables : Tables s
    tables = tails s (heads latest s a).rest

    before : (k : ℕ) → k < 5 → offset_of s k + size k * count_of s k ≤ base s
    before = before_trailer s tables.offsets

    moved_tables : (table_refusal (in_edition e s)).number ≡ 0
    unfolding table_refusal content_refusal
    moved_tables =
        let t = tables in
        rw (
          eq-eqb _ _ (sym (counts_alike s _ alike) ∙ t.counts),
          sym (lengths_alike s _ alike) ∙ t.lengths,
          sym (offsets_alike s _ alike) ∙ t.offsets,
          sym (rules_ok_alike s _ alike) ∙ t.rules,
          eq-eqb _ _ (sym (bad_table_alike s _ alike before) ∙ t.records),
          eq-eqb _ _ (sym (bad_term_alike s _ alike before (good latest s (omega arith) a).assertions) ∙ t.terms ∙ count_alike s _ alike 4 (omega arith)),
        )

    -- THE SHEET MOVED is accepted, by each call that reads its edition
    pub moved_accepted : (takes : Takes) → takes.first ≤ e → e ≤ takes.last → 3380 ≤ takes.bytes → (refusal takes (in_edition e s)).number ≡ 0
    unfolding base
    moved_accepted takes p q m =
        let t = (heads latest s a).trailed in
        let n = moved_length s t e lo hi in
        passes takes (in_edition e s) (omega arith) (omega (arith, base_most)) (moved_mark s t e lo hi takes.first takes.last p q) (moved_total s t e lo hi (good latest s (omega arith) a).small) moved_tables

    -- AND IT READS AS THE SHEET DOES
    pub sheet_same : sheet_of s ≡ sheet_of (in_edition e s)
    sheet_same = sheet_alike s _ alike before

    pub grammar_same : grammar_of s ≡ grammar_of (in_edition e s)
    grammar_same = grammar_alike s _ alike before

    pub longest_same : longest s ≡ longest (in_edition e s)
    longest_same = longest_alike s _ alike

    pub count_same : count_of s 2 ≡ count_of (in_edition e s) 2
    count_same = count_alike s _ alike 2 (omega arith)

    -- no rule is set
    pub moved_no_rule : no_rule (rules_of (in_edition e s)) ≡ true
    unfolding no_rule rules_of
    moved_no_rule =
        let t = (heads latest s a).trailed in
        and_intro (eq-eqb _ _ (moved_new s t e lo hi 0 (omega arith))) (eq-eqb _ _ (moved_new s t e lo hi 1 (omega arith)))
