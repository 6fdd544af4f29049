-- What each call says and leaves in everything lent to it.
use Rattle.std.specs.Prelude.{ℕ, Bool, true, false, cond, List, ◌++◌, eqb, leb, ltb, length, drop, replicate}
use Rattle.paper.specs.Trailer.{count_of, longest, limit}
use Rattle.paper.specs.Refusals.{Fault, plain, no_fault, unless, or_else, latest, refusal}
use Rattle.paper.specs.Sheet.{Sheet, sheet_of, grammar_of, letter}
use Rattle.paper.specs.Opens.{opens}
use Rattle.paper.specs.Walk.{Walked, found, none, count, walk}
use Rattle.paper.specs.Cuts.{cut_list}
use Rattle.paper.specs.Gate.{n_of, well_formed, reading}

-- the words of workspace that solver and gate use: 256 rows by the 1,891 spans of a 60-byte term, one bit each
unfoldable pub words : ℕ
words = 7564

-- workspace after 0, 1 or 2: its first k words are zero, later words stay
unfoldable pub zeroed : ℕ → List ℕ → List ℕ
zeroed k work = replicate k 0 ++ drop k work

-- a buffer with a word or a list at its start, the later bytes kept
unfoldable pub written : List ℕ → List ℕ → List ℕ
written w buffer = w ++ drop (length w) buffer

-- ---- the solver

pub data Said : Type 0 where
  Found : List ℕ → ℕ → Said  -- 0: the word, and its trials
  None : ℕ → Said  -- 1: the full count
  Spent : ℕ → Said  -- 2: the budget
  Refused : Fault → Said  -- 10 to 19

-- what is reported: the number, the table and the record; the word's length, the trials
pub record Report : Type 0 where
  pub number : ℕ
  pub table : ℕ
  pub «record» : ℕ
  pub length : ℕ
  pub trials : ℕ

abbrev pub report_of : Said → Report
report_of (Found w t) = record { number = 0; table = 0; «record» = 0; length = length w; trials = t }
report_of (None t) = record { number = 1; table = 0; «record» = 0; length = 0; trials = t }
report_of (Spent b) = record { number = 2; table = 0; «record» = 0; length = 0; trials = b }
report_of (Refused f) = record { number = f.number; table = f.table; «record» = f.«record»; length = 0; trials = 0 }

-- the output after the call: only found writes to it
abbrev pub out_after : Said → List ℕ → List ℕ
out_after (Found w t) out = written w out
out_after (None t) out = out
out_after (Spent b) out = out
out_after (Refused f) out = out

-- the workspace after the call: a refusal changes nothing
abbrev pub work_after : Said → List ℕ → List ℕ
work_after (Found w t) work = zeroed words work
work_after (None t) work = zeroed words work
work_after (Spent b) work = zeroed words work
work_after (Refused f) work = work

-- a sheet's walk
unfoldable pub walk_of : Sheet → Walked
walk_of s = walk (letter s) (opens s) s.shortest s.longest

abbrev pub whole : Walked → Said
whole (found w t) = Found w t
whole (none t) = None t

abbrev pub whether : Bool → Said → Said → Said
whether true a b = a
whether false a b = b

-- "spent is answered exactly when the walk's full count is above it, and then the reported trials equal the budget"
unfoldable pub under : ℕ → Walked → Said
under budget w = whether (ltb budget (count w)) (Spent budget) (whole w)

-- 10 to 19: 18 a workspace of too few words, 19 an output shorter than the longest length
unfoldable pub solver_refusal : (s : List ℕ) (work out : ℕ) → Fault
solver_refusal s work out =
    or_else (refusal latest s)
    (unless (plain 18) (leb words work)
    (unless (plain 19) (leb (longest s) out) no_fault))

-- what the solver says of a sheet and a budget, lent so many words and bytes
unfoldable pub solver_says : (s : List ℕ) (budget work out : ℕ) → Said
solver_says s budget work out =
    let r = solver_refusal s work out in
    let a = under budget (walk_of (sheet_of s)) in
    whether (eqb r.number 0) a (Refused r)

-- ---- a call that writes bytes, or refuses

-- what is reported: the number, the table and the record; the length of what is written
pub record WriteReport : Type 0 where
  pub number : ℕ
  pub table : ℕ
  pub «record» : ℕ
  pub length : ℕ

-- a fault and no length, or 0 and the length of the bytes
abbrev pub write_report : Fault → (bytes : List ℕ) → WriteReport
write_report f bytes = record { number = f.number; table = f.table; «record» = f.«record»; length = cond (eqb f.number 0) (length bytes) 0 }

-- a refusal changes nothing, else the bytes are written at the start
abbrev pub space_with : Fault → (bytes space : List ℕ) → List ℕ
space_with f bytes space = cond (eqb f.number 0) (written bytes space) space

-- ---- the maker

-- 10 to 17, then 20 to 22: the row is not in the sheet, the length is above 60, the list is longer than the space
unfoldable pub maker_refusal : (s : List ℕ) (row n space : ℕ) → Fault
maker_refusal s row n space =
    or_else (refusal latest s)
    (unless (plain 20) (ltb row (count_of s 2))
    (unless (plain 21) (leb n limit)
    (unless (plain 22) (leb (length (cut_list (grammar_of s) row n)) space) no_fault)))

unfoldable pub maker_says : (s : List ℕ) (row n space : ℕ) → WriteReport
maker_says s row n space = write_report (maker_refusal s row n space) (cut_list (grammar_of s) row n)

-- the space after the call: the list at its start where it is written, else as it was
unfoldable pub space_after : (s : List ℕ) (row n : ℕ) (space : List ℕ) → List ℕ
space_after s row n space = space_with (maker_refusal s row n (length space)) (cut_list (grammar_of s) row n) space

-- ---- the gate

-- 30 the list is not well formed, 31 the word's length is not the list's n, 18 the workspace; else 0 yes or 1 no
unfoldable pub gate_says : (list text word : List ℕ) (work : ℕ) → ℕ
gate_says list text word work =
    unless 30 (well_formed list (length text))
    (unless 31 (eqb (length word) (n_of list))
    (unless 18 (leb words work)
    (cond (reading list text word) 0 1)))

-- the workspace after the call: a refusal changes nothing
unfoldable pub gate_leaves : (number : ℕ) → List ℕ → List ℕ
gate_leaves number work = cond (leb number 1) (zeroed words work) work
