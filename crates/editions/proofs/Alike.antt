-- Two sheets that agree on all that stands before the new bytes, and in these: every field, record and table reads the same.
-- Assumes nothing.
use Prim.Native.Nat.{ℕ, zero, suc, ◌+◌, ◌*◌, ◌<◌, ◌≤◌}
use mathlib.Core.Path.{◌≡◌, refl, sym, ap, ◌∙◌}
use mathlib.Core.Bool.{Bool}
use mathlib.Core.List.{List}
use native.Mathlib.Omega.{arith}
use lib.Dec.{leb}
use lib.ListN.{length, take, drop, get_or, length-drop}
use lib.Seq.{ext_get_or, length-take-le, get_or-take, get_or-drop}
use Rattle.paper.specs.Bytes.{u8_at, u16_at}
use Rattle.paper.specs.Tests.{first_from, first_bad, table_from}
use Rattle.paper.specs.Trailer.{size, base, field, longest, offset_of, count_of, new_byte, rules_of, record_at, start_of, count_ok, lengths_ok, rules_ok, offset_ok, offsets_ok}
use Rattle.paper.specs.Sheet.{Run, second_run, span_at, row_at, part_at, assertion_at, of_table, table_of, text_of, grammar_of, sheet_of}
use Rattle.paper.specs.Records.{letter_ok, row_ok, part_ok, assert_ok, record_ok, table_ok, part_len, term_len, term_fits, assert_fits, bad_table, bad_term}
use Rattle.paper.proofs.Sound.{SoundAssertion}
use Rattle.sheet_trailer.proofs.Tables.{room}

-- ---- searches and tables that agree as far as they go

first_from_same : (f g : ℕ → Bool) (k n : ℕ) → ((i : ℕ) → i < k + n → f i ≡ g i) → first_from f k n ≡ first_from g k n
unfolding first_from
first_from_same f g k zero h = refl
first_from_same f g k (suc n) h = rw (h k (omega arith), first_from_same f g (suc k) n (λ i l. h i (omega arith)))

first_same : (f g : ℕ → Bool) (n : ℕ) → ((i : ℕ) → i < n → f i ≡ g i) → first_bad f n ≡ first_bad g n
first_same f g n h = first_from_same f g 0 n (λ i l. h i (omega arith))

table_same : {A : Type 0} (f g : ℕ → A) (k n : ℕ) → ((i : ℕ) → i < k + n → f i ≡ g i) → table_from k n f ≡ table_from k n g
unfolding table_from
table_same f g k zero h = refl
table_same f g k (suc n) h = rw (h k (omega arith), table_same f g (suc k) n (λ i l. h i (omega arith)))

-- ---- the sheets s and t

pub record Alike (s t : List ℕ) : Type 0 where
  pub begins : base s ≡ base t
  pub bytes : (i : ℕ) → i < base s + 24 → u8_at s i ≡ u8_at t i
  pub new : (k : ℕ) → k < 4 → new_byte s k ≡ new_byte t k
  pub long : base s + 24 ≤ length s
  pub long' : base s + 24 ≤ length t

module _ (s t : List ℕ) (a : Alike s t) where
  word_alike : (o : ℕ) → o + 2 ≤ base s + 24 → u16_at s o ≡ u16_at t o
  unfolding u16_at
  word_alike o h = rw (a.bytes o (omega arith), a.bytes (o + 1) (omega arith))

  field_alike : (k : ℕ) → k < 12 → field s k ≡ field t k
  unfolding field
  field_alike k h = word_alike (base s + 2 * k) (omega arith) ∙ ap (λ (b : ℕ). u16_at t (b + 2 * k)) a.begins

  pub longest_alike : longest s ≡ longest t
  longest_alike = field_alike 1 (omega arith)

  pub count_alike : (k : ℕ) → k < 5 → count_of s k ≡ count_of t k
  count_alike k h = field_alike (3 + 2 * k) (omega arith)

  offset_alike : (k : ℕ) → k < 5 → offset_of s k ≡ offset_of t k
  offset_alike k h = field_alike (2 + 2 * k) (omega arith)

  -- ---- 14, 141, 15 and the new bytes

  pub counts_alike : first_bad (count_ok s) 5 ≡ first_bad (count_ok t) 5
  unfolding count_ok
  counts_alike = first_same (count_ok s) (count_ok t) 5 (λ k h. rw (count_alike k h))

  pub lengths_alike : lengths_ok s ≡ lengths_ok t
  unfolding lengths_ok
  lengths_alike = rw (field_alike 0 (omega arith), longest_alike)

  start_alike : (k : ℕ) → k ≤ 5 → start_of s k ≡ start_of t k
  unfolding start_of
  start_alike zero h = refl
  start_alike (suc k) h = rw (start_alike k (omega arith), count_alike k h)

  pub offsets_alike : offsets_ok s ≡ offsets_ok t
  unfolding offsets_ok offset_ok
  offsets_alike =
      let each = first_same (offset_ok s) (offset_ok t) 5 (λ k h. rw (offset_alike k h, start_alike k (omega arith))) in
      rw (each, start_alike 5 (omega arith), a.begins)

  pub rules_ok_alike : rules_ok s ≡ rules_ok t
  unfolding rules_ok
  rules_ok_alike = rw (a.new 0 (omega arith), a.new 1 (omega arith), a.new 2 (omega arith), a.new 3 (omega arith))

  rules_alike : rules_of s ≡ rules_of t
  unfolding rules_of
  rules_alike = rw (a.new 0 (omega arith), a.new 1 (omega arith))

  -- ---- a record that begins before the trailer

  module _ (o : ℕ) (h : o ≤ base s) where
    span_alike : span_at s o ≡ span_at t o
    unfolding span_at
    span_alike = rw (a.bytes o (omega arith), a.bytes (o + 1) (omega arith))

    row_alike : row_at s o ≡ row_at t o
    unfolding row_at
    row_alike = rw (a.bytes o (omega arith), word_alike (o + 2) (omega arith), word_alike (o + 4) (omega arith))

    part_alike : part_at s o ≡ part_at t o
    unfolding part_at
    part_alike = rw (a.bytes o (omega arith), word_alike (o + 2) (omega arith), word_alike (o + 4) (omega arith))

    assertion_alike : assertion_at s o ≡ assertion_at t o
    unfolding assertion_at
    assertion_alike = rw (a.bytes o (omega arith), a.bytes (o + 1) (omega arith), word_alike (o + 2) (omega arith), word_alike (o + 4) (omega arith), word_alike (o + 6) (omega arith), word_alike (o + 8) (omega arith))

    record_alike : (k : ℕ) → record_ok s k o ≡ record_ok t k o
    unfolding record_ok letter_ok row_ok part_ok assert_ok
    record_alike k =
        rw (
          a.bytes o (omega arith),
          a.bytes (o + 1) (omega arith),
          word_alike (o + 2) (omega arith),
          word_alike (o + 4) (omega arith),
          word_alike (o + 6) (omega arith),
          word_alike (o + 8) (omega arith),
          word_alike (o + 10) (omega arith),
          count_alike 1 (omega arith),
          count_alike 2 (omega arith),
          count_alike 3 (omega arith),
        )

  -- ---- the tables, where they lie before the trailer

  module _ (before : (k : ℕ) → k < 5 → offset_of s k + size k * count_of s k ≤ base s) where
    record_before : (k i : ℕ) → k < 5 → i < count_of s k → record_at s k i ≤ base s
    record_before k i h l = omega (arith, room (size k) (offset_of s k) (count_of s k) i (base s) l (before k h))

    at_alike : (k i : ℕ) → k < 5 → record_at s k i ≡ record_at t k i
    at_alike k i h = ap (λ (o : ℕ). o + size k * i) (offset_alike k h)

    table_ok_alike : (k : ℕ) → k < 5 → table_ok s k ≡ table_ok t k
    unfolding table_ok
    table_ok_alike k h =
        let each = first_same (λ i. record_ok s k (record_at s k i)) (λ i. record_ok t k (record_at t k i)) (count_of s k) (λ i l. record_alike (record_at s k i) (record_before k i h l) k ∙ ap (record_ok t k) (at_alike k i h)) in
        rw (each, count_alike k h)

    pub bad_table_alike : bad_table s ≡ bad_table t
    bad_table_alike = first_same (table_ok s) (table_ok t) 5 (λ k h. table_ok_alike k h)

    table_alike : {A : Type 0} (at : List ℕ → ℕ → A) → ((o : ℕ) → o ≤ base s → at s o ≡ at t o) → (k : ℕ) → k < 5 → table_of at s k ≡ table_of at t k
    unfolding table_of
    table_alike at same k h =
        table_same (of_table at s k) (of_table at t k) 0 (count_of s k) (λ i l. same (record_at s k i) (record_before k i h (omega arith)) ∙ ap (at t) (at_alike k i h))
        ∙ ap (λ (n : ℕ). table_from 0 n (of_table at t k)) (count_alike k h)

    pub text_alike : text_of s ≡ text_of t
    unfolding text_of
    text_alike = stretch (offset_of s 1) (count_of s 1) (before 1 (omega arith)) ∙ rw (offset_alike 1 (omega arith), count_alike 1 (omega arith))
      where
        taken : (l : List ℕ) (o n : ℕ) → o + n ≤ length l → length (take n (drop o l)) ≡ n
        taken l o n h = length-take-le n (drop o l) (rw length-drop (omega arith))

        read : (l : List ℕ) (o n i : ℕ) → i < n → get_or (take n (drop o l)) i 0 ≡ u8_at l (o + i)
        read l o n i h = get_or-take n (drop o l) i 0 h ∙ get_or-drop o l i 0

        stretch : (o n : ℕ) → o + 1 * n ≤ base s → take n (drop o s) ≡ take n (drop o t)
        stretch o n h =
            let p = taken s o n (omega (arith, a.long)) in
            let q = taken t o n (omega (arith, a.long')) in
            ext_get_or 0 (take n (drop o s)) (take n (drop o t)) (p ∙ sym q)
            (λ i l. let m : i < n = omega arith in read s o n i m ∙ a.bytes (o + i) (omega arith) ∙ sym (read t o n i m))

    pub grammar_alike : grammar_of s ≡ grammar_of t
    unfolding grammar_of
    grammar_alike = rw (table_alike row_at row_alike 2 (omega arith), text_alike)

    -- THE TWO SHEETS hold the same
    pub sheet_alike : sheet_of s ≡ sheet_of t
    unfolding sheet_of
    sheet_alike =
        rw (rules_alike, table_alike span_at span_alike 0 (omega arith), grammar_alike, table_alike part_at part_alike 3 (omega arith), table_alike assertion_at assertion_alike 4 (omega arith), field_alike 0 (omega arith), longest_alike)

    -- ---- 17

    term_alike : (o n : ℕ) → o + 6 * n ≤ base s → term_len s o n ≡ term_len t o n
    unfolding term_len part_len
    term_alike o zero h = refl
    term_alike o (suc n) h = rw (term_alike o n (omega arith), part_alike (o + 6 * n) (omega arith), longest_alike)

    fits_alike : (r : Run) → r.first + r.count ≤ count_of s 3 → term_fits s r ≡ term_fits t r
    fits_alike r h =
        let e = term_alike (record_at s 3 r.first) r.count (omega (arith, before 3 (omega arith))) in
        ap (λ (n : ℕ). leb n 60) (e ∙ ap (λ (o : ℕ). term_len t o r.count) (at_alike 3 r.first (omega arith)))

    pub bad_term_alike : ((i : ℕ) → i < count_of s 4 → SoundAssertion (count_of s 1) (count_of s 2) (count_of s 3) (assertion_at s (record_at s 4 i))) → bad_term s ≡ bad_term t
    unfolding assert_fits
    bad_term_alike sound =
        first_same (λ i. assert_fits s (record_at s 4 i)) (λ i. assert_fits t (record_at t 4 i)) (count_of s 4) each
        ∙ ap (λ (n : ℕ). first_bad (λ i. assert_fits t (record_at t 4 i)) n) (count_alike 4 (omega arith))
      where
        each : (i : ℕ) → i < count_of s 4 → assert_fits s (record_at s 4 i) ≡ assert_fits t (record_at t 4 i)
        each i l =
            let o = record_at s 4 i in
            rw (← at_alike 4 i (omega arith), ← assertion_alike o (record_before 4 i (omega arith) l), fits_alike (assertion_at s o).term (sound i l).run, fits_alike (second_run (assertion_at s o).claim) (sound i l).second)
