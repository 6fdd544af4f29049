-- "Each call checks in this order": the first fault of a sheet, 10 to 17 with 141 behind 14, and 0 where the sheet is accepted.
use Rattle.std.specs.Prelude.{ℕ, ◌≡◌, List, Bool, cond, length, leb, eqb}
use Rattle.paper.specs.Tests.{first_bad}
use Rattle.paper.specs.Trailer.{sheet_most, mark_ok, total_ok, count_ok, lengths_ok, offsets_ok, rules_ok, count_of}
use Rattle.paper.specs.Records.{bad_record, bad_table, bad_term}

-- "the answer shall carry a table number (0 letters to 4 assertions) and a record number"
pub record Fault : Type 0 where
  pub number : ℕ
  pub table : ℕ
  pub «record» : ℕ

-- "all other answers carry table 0, record 0"
abbrev pub plain : ℕ → Fault
plain n = record { number = n; table = 0; «record» = 0 }

-- no fault: the sheet is accepted
abbrev pub no_fault : Fault
no_fault = plain 0

-- the one unless the test holds, and then what follows
abbrev pub unless : {A : Type 0} → A → Bool → A → A
unless f test later = cond test later f

-- the sheet's fault where it has one, and else a later one
abbrev pub or_else : Fault → Fault → Fault
or_else f later = cond (eqb f.number 0) later f

-- 14 "names the first table at fault, record 0"
abbrev pub count_fault : List ℕ → Fault
count_fault s = record { number = 14; table = first_bad (count_ok s) 5; «record» = 0 }

-- "a bad new byte is 16, .. told as table 5, record 0"
abbrev pub rule_fault : Fault
rule_fault = record { number = 16; table = 5; «record» = 0 }

-- 16 names "the first offending record in table order"
abbrev pub record_fault : List ℕ → Fault
record_fault s = record { number = 16; table = bad_table s; «record» = bad_record s (bad_table s) }

-- "17 names the first assertion with an overlong term"
abbrev pub term_fault : List ℕ → Fault
term_fault s = record { number = 17; table = 4; «record» = bad_term s }

-- 16 and 17, of a sheet whose tables lie right; a bad new byte comes "before any table's record"
unfoldable pub content_refusal : List ℕ → Fault
content_refusal s =
    unless rule_fault (rules_ok s)
    (unless (record_fault s) (eqb (bad_table s) 5)
    (unless (term_fault s) (eqb (bad_term s) (count_of s 4)) no_fault))

-- 14 to 17, of a sheet with its mark and its total; "141 is the bad length pair, after 14 and before 15"
unfoldable pub table_refusal : List ℕ → Fault
table_refusal s =
    unless (count_fault s) (eqb (first_bad (count_ok s) 5) 5)
    (unless (plain 141) (lengths_ok s)
    (unless (plain 15) (offsets_ok s)
    (content_refusal s)))

-- what a call takes: the editions that it reads, and how many bytes at most
pub record Takes : Type 0 where
  pub first : ℕ
  pub last : ℕ
  pub bytes : ℕ

-- 10 to 17, by a call that takes so much
unfoldable pub refusal : Takes → List ℕ → Fault
refusal takes s =
    unless (plain 10) (leb 32 (length s))
    (unless (plain 11) (leb (length s) takes.bytes)
    (unless (plain 12) (mark_ok takes.first takes.last s)
    (unless (plain 13) (total_ok s)
    (table_refusal s))))

-- what the everyday calls take: "12 allows both marks", "11 now means over 3,380 bytes"
abbrev pub latest : Takes
latest = record { first = 1; last = 2; bytes = sheet_most 2 }

-- "a sheet is accepted when none of 10 to 17 holds"
abbrev pub Accepted : List ℕ → Type 0
Accepted s = (refusal latest s).number ≡ 0
