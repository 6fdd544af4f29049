-- What the paper says, as the code tells it: a fault, what a call takes, and the answer of a call that writes.
use Rattle.std.specs.Prelude.{ℕ, cond, eqb, Result, Ok, Err}
use Rattle.paper.specs.Refusals as paper
use Rattle.paper.specs.Refusals.{plain, no_fault}
use Rattle.paper.specs.Answers.{WriteReport}
use Rattle.sheet.specs.declared.Fault.{Fault}
use Rattle.sheet.specs.declared.Fault.TheVariants.{Short, Long, Mark, Total, Count, Lengths, Offsets, Record, Term, Workspace, Output, Row, Length, List, Rule, Space}
use Rattle.sheet.specs.declared.Takes.{Takes}

-- a fault as the paper words it: its number, its table and its record
abbrev pub worded : Fault → paper.Fault
worded Short = plain 10
worded Long = plain 11
worded Mark = plain 12
worded Total = plain 13
worded (Count t) = record { number = 14; table = t; «record» = 0 }
worded Lengths = plain 141
worded Offsets = plain 15
worded (Record t i) = record { number = 16; table = t; «record» = i }
worded (Term i) = record { number = 17; table = 4; «record» = i }
worded Workspace = plain 18
worded Output = plain 19
worded Row = plain 20
worded Length = plain 21
worded List = plain 22
worded Rule = plain 40
worded Space = plain 41

-- the fault that the paper's number means
unfoldable pub fault_of : paper.Fault → Fault
fault_of f =
    cond (eqb f.number 10) Short
    (cond (eqb f.number 11) Long
    (cond (eqb f.number 12) Mark
    (cond (eqb f.number 13) Total
    (cond (eqb f.number 14) (Count f.table)
    (cond (eqb f.number 141) Lengths
    (cond (eqb f.number 15) Offsets
    (cond (eqb f.number 16) (Record f.table f.«record»)
    (cond (eqb f.number 17) (Term f.«record»)
    (cond (eqb f.number 18) Workspace
    (cond (eqb f.number 19) Output
    (cond (eqb f.number 20) Row
    (cond (eqb f.number 21) Length
    (cond (eqb f.number 22) List
    (cond (eqb f.number 40) Rule
    Space))))))))))))))

-- whether a sheet is refused, and by which fault
unfoldable pub told : paper.Fault → Result (Unit {0}) Fault
told f = cond (eqb f.number 0) (Ok tt) (Err (fault_of f))

-- a fault told as the paper words it
abbrev pub told_worded : Result (Unit {0}) Fault → paper.Fault
told_worded (Ok x) = no_fault
told_worded (Err f) = worded f

-- what a call takes
abbrev pub taken : Takes → paper.Takes
taken t = record { first = t.first; last = t.last; bytes = t.bytes }

-- the length written, or the fault
abbrev pub made : WriteReport → Result ℕ Fault
made r = cond (eqb r.number 0) (Ok r.length) (Err (fault_of (record { number = r.number; table = r.table; «record» = r.«record» })))

-- 0 and the length written, or the fault and no length
abbrev pub reported : Result ℕ Fault → WriteReport
reported (Ok k) = record { number = 0; table = 0; «record» = 0; length = k }
reported (Err f) = record { number = (worded f).number; table = (worded f).table; «record» = (worded f).«record»; length = 0 }
