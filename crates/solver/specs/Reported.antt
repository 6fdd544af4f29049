-- What is said, as the solver's answer tells it; and the paper's number, length and trials of each answer.
use Rattle.std.specs.Prelude.{ℕ, length, Result, Ok, Err}
use Rattle.paper.specs.Answers as paper
use Rattle.paper.specs.Answers.{Said, Report}
use Rattle.sheet.specs.declared.Fault.{Fault}
use Rattle.sheet.specs.Told.{worded, fault_of}
use Rattle.solver.specs.declared.Solved.{Solved}
use Rattle.solver.specs.declared.Solved.TheVariants.{Found, None, Spent}

abbrev pub solved : Said → Result Solved Fault
solved (paper.Found w t) = Ok (Found (length w) t)
solved (paper.None t) = Ok (None t)
solved (paper.Spent b) = Ok (Spent b)
solved (paper.Refused f) = Err (fault_of f)

-- "a refusal reports length 0 and trials 0"
abbrev pub refused : (number table item : ℕ) → Report
refused number table item = record { number = number; table = table; «record» = item; length = 0; trials = 0 }

-- the number, the table and the record, the length and the trials that each answer reports
abbrev pub reported : Result Solved Fault → Report
reported (Ok (Found len t)) = record { number = 0; table = 0; «record» = 0; length = len; trials = t }
reported (Ok (None t)) = record { number = 1; table = 0; «record» = 0; length = 0; trials = t }
reported (Ok (Spent b)) = record { number = 2; table = 0; «record» = 0; length = 0; trials = b }
reported (Err f) = refused (worded f).number (worded f).table (worded f).«record»
