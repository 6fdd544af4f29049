-- A sheet's contents: its rules, letters, rows over the text, parts, assertions and the two lengths; and how they are read from its bytes.
use Rattle.std.specs.Prelude.{ℕ, ◌+◌, Bool, cond, ◌&&◌, List, eqb, leb, ltb, take, drop}
use Rattle.paper.specs.Bytes.{u8_at, u16_at}
use Rattle.paper.specs.Tests.{any_of, all_of, table_from}
use Rattle.paper.specs.Trailer as trailer
use Rattle.paper.specs.Trailer.{count_of, offset_of, record_at, rules_of}
use Rattle.paper.specs.Rules.{Rules}
use Rattle.paper.specs.Rows.{Row, row_of, Grammar}
use Rattle.paper.specs.Terms.{Part, part_of, cut_inside}

-- a range of letters
pub record Span : Type 0 where
  pub low : ℕ
  pub high : ℕ

-- a run of parts of the table
pub record Run : Type 0 where
  pub first : ℕ
  pub count : ℕ

pub data Claim : Type 0 where
  Derived : ℕ → Claim  -- 1: the term is derived by row a
  Contains : ℕ → ℕ → Claim  -- 2: the term contains text from offset a, b bytes
  Equals : ℕ → ℕ → Claim  -- 3: the term equals the term of b parts from part a
  ContainsTerm : ℕ → ℕ → Claim  -- 4: the term contains the term of b parts from part a

-- the claim of a kind with its a and b
unfoldable pub claim_of : (kind a b : ℕ) → Claim
claim_of kind a b =
    cond (eqb kind 1) (Derived a)
    (cond (eqb kind 2) (Contains a b)
    (cond (eqb kind 3) (Equals a b)
    (ContainsTerm a b)))

pub record Assertion : Type 0 where
  pub claim : Claim
  pub denied : Bool
  pub term : Run

-- the second term of an assertion: kinds 3 and 4 have one, for the others it is the empty term
abbrev pub second_run : Claim → Run
second_run (Derived a) = record { first = 0; count = 0 }
second_run (Contains a b) = record { first = 0; count = 0 }
second_run (Equals a b) = record { first = a; count = b }
second_run (ContainsTerm a b) = record { first = a; count = b }

pub record Sheet : Type 0 where
  pub rules : Rules
  pub letters : List Span
  pub grammar : Grammar
  pub parts : List Part
  pub assertions : List Assertion
  pub shortest : ℕ
  pub longest : ℕ

-- "v is made only of bytes in the union of the ranges"
unfoldable pub letter : Sheet → ℕ → Bool
letter s b = ltb b 256 && any_of (λ r. leb r.low b && leb b r.high) s.letters

-- the parts of a run
unfoldable pub parts_of : Sheet → Run → List Part
parts_of s r = take r.count (drop r.first s.parts)

-- no cut in any of an assertion's terms reaches past the end of v at length n, or the rule shortens it
unfoldable pub inside : Sheet → ℕ → Assertion → Bool
inside s n a = all_of (cut_inside s.rules n) (parts_of s a.term) && all_of (cut_inside s.rules n) (parts_of s (second_run a.claim))

-- ---- read from the bytes: the record that stands at o

unfoldable pub span_at : List ℕ → ℕ → Span
span_at s o = record { low = u8_at s o; high = u8_at s (o + 1) }

unfoldable pub row_at : List ℕ → ℕ → Row
row_at s o = row_of (u8_at s o) (u16_at s (o + 2)) (u16_at s (o + 4))

unfoldable pub part_at : List ℕ → ℕ → Part
part_at s o = part_of (u8_at s o) (u16_at s (o + 2)) (u16_at s (o + 4))

unfoldable pub assertion_at : List ℕ → ℕ → Assertion
assertion_at s o = record {
  claim = claim_of (u8_at s o) (u16_at s (o + 6)) (u16_at s (o + 8));
  denied = eqb (u8_at s (o + 1)) 1;
  term = record { first = u16_at s (o + 2); count = u16_at s (o + 4) };
}

-- record i of table t, read by `at`; and a whole table
abbrev pub of_table : {A : Type 0} → (List ℕ → ℕ → A) → List ℕ → (t i : ℕ) → A
of_table at s t i = at s (record_at s t i)

unfoldable pub table_of : {A : Type 0} → (List ℕ → ℕ → A) → List ℕ → (t : ℕ) → List A
table_of at s t = table_from 0 (count_of s t) (of_table at s t)

-- the text lent with a sheet: its text table
unfoldable pub text_of : List ℕ → List ℕ
text_of s = take (count_of s 1) (drop (offset_of s 1) s)

unfoldable pub grammar_of : List ℕ → Grammar
grammar_of s = record { rows = table_of row_at s 2; text = text_of s }

unfoldable pub sheet_of : List ℕ → Sheet
sheet_of s = record {
  rules = rules_of s;
  letters = table_of span_at s 0;
  grammar = grammar_of s;
  parts = table_of part_at s 3;
  assertions = table_of assertion_at s 4;
  shortest = trailer.shortest s;
  longest = trailer.longest s;
}
