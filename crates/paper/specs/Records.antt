-- 16: the rule of each record (kind, sign, zero field, order of a pair, reference). 17: the length of each term.
-- A record stands at o; the counts of the text, the rows and the parts are given.
use Rattle.std.specs.Prelude.{ℕ, zero, suc, ◌+◌, ◌*◌, List, Bool, cond, true, false, ◌&&◌, ltb, leb, eqb}
use Rattle.paper.specs.Bytes.{u8_at, u16_at}
use Rattle.paper.specs.Tests.{first_bad}
use Rattle.paper.specs.Trailer.{count_of, record_at, longest, limit}
use Rattle.paper.specs.Terms.{full_length}
use Rattle.paper.specs.Sheet.{Run, second_run, part_at, assertion_at}

-- letters: low at most high
unfoldable pub letter_ok : List ℕ → ℕ → Bool
letter_ok s o = leb (u8_at s o) (u8_at s (o + 1))

-- rows: what each kind asks of a and b
unfoldable pub row_fields : (rows text kind a b : ℕ) → Bool
row_fields rows text kind a b =
    cond (eqb kind 1) (eqb a 0 && eqb b 0)
    (cond (eqb kind 2) (leb a b && leb b 255)
    (cond (eqb kind 3) (leb (a + b) text)
    (cond (eqb kind 4) (ltb a rows && ltb b rows)
    (cond (eqb kind 5) (ltb a rows && ltb b rows)
    (cond (eqb kind 6) (ltb a rows && eqb b 0)
    false)))))

unfoldable pub row_ok : List ℕ → (o rows text : ℕ) → Bool
row_ok s o rows text = eqb (u8_at s (o + 1)) 0 && row_fields rows text (u8_at s o) (u16_at s (o + 2)) (u16_at s (o + 4))

-- parts: a text stretch lies in the text; all of v has no fields; a cut takes any a and b
unfoldable pub part_fields : (text kind a b : ℕ) → Bool
part_fields text kind a b =
    cond (eqb kind 1) (leb (a + b) text)
    (cond (eqb kind 2) (eqb a 0 && eqb b 0)
    (eqb kind 3))

unfoldable pub part_ok : List ℕ → (o text : ℕ) → Bool
part_ok s o text = eqb (u8_at s (o + 1)) 0 && part_fields text (u8_at s o) (u16_at s (o + 2)) (u16_at s (o + 4))

-- assertions: what each kind asks of a and b
unfoldable pub assert_fields : (text rows parts kind a b : ℕ) → Bool
assert_fields text rows parts kind a b =
    cond (eqb kind 1) (ltb a rows && eqb b 0)
    (cond (eqb kind 2) (leb (a + b) text)
    (cond (eqb kind 3) (leb (a + b) parts)
    (cond (eqb kind 4) (leb (a + b) parts)
    false)))

-- a sign of 0 or 1, a run inside the parts, the zero field, and the kind's own
unfoldable pub assert_ok : List ℕ → (o text rows parts : ℕ) → Bool
assert_ok s o text rows parts =
    leb (u8_at s (o + 1)) 1 && (leb (u16_at s (o + 2) + u16_at s (o + 4)) parts &&
    (eqb (u16_at s (o + 10)) 0 && assert_fields text rows parts (u8_at s o) (u16_at s (o + 6)) (u16_at s (o + 8))))

-- the record of table t at o; a byte of the text is always good
unfoldable pub record_ok : List ℕ → (t o : ℕ) → Bool
record_ok s t o =
    cond (eqb t 0) (letter_ok s o)
    (cond (eqb t 1) true
    (cond (eqb t 2) (row_ok s o (count_of s 2) (count_of s 1))
    (cond (eqb t 3) (part_ok s o (count_of s 1))
    (assert_ok s o (count_of s 1) (count_of s 2) (count_of s 3)))))

-- the first bad record of table t, or its count
abbrev pub bad_record : List ℕ → ℕ → ℕ
bad_record s t = first_bad (λ i. record_ok s t (record_at s t i)) (count_of s t)

unfoldable pub table_ok : List ℕ → ℕ → Bool
table_ok s t = eqb (bad_record s t) (count_of s t)

-- the first table with a bad record, or 5
abbrev pub bad_table : List ℕ → ℕ
bad_table s = first_bad (table_ok s) 5

-- 17: the bytes of the part at o at the longest length
unfoldable pub part_len : List ℕ → ℕ → ℕ
part_len s o = full_length (longest s) (part_at s o)

-- the bytes of n parts, the first at o
unfoldable pub term_len : List ℕ → (o n : ℕ) → ℕ
term_len s o zero = 0
term_len s o (suc n) = term_len s o n + part_len s (o + 6 * n)

-- the term of a run of parts has at most 60 bytes
abbrev pub term_fits : List ℕ → Run → Bool
term_fits s r = leb (term_len s (record_at s 3 r.first) r.count) limit

-- the assertion at o: its term and the second one
unfoldable pub assert_fits : List ℕ → ℕ → Bool
assert_fits s o = term_fits s (assertion_at s o).term && term_fits s (second_run (assertion_at s o).claim)

-- the first assertion with an overlong term, or their number
abbrev pub bad_term : List ℕ → ℕ
bad_term s = first_bad (λ i. assert_fits s (record_at s 4 i)) (count_of s 4)
