-- What is said, as the structs of the C calls tell it; and what the structs report, in the paper's terms.
use Rattle.paper.specs.Answers.{Said, Report, report_of, WriteReport}
use Rattle.strovimel_c.specs.declared.Solved.{Solved}
use Rattle.strovimel_c.specs.declared.Made.{Made}

abbrev pub struct_of : Report → Solved
struct_of r = record { number = r.number; table = r.table; «record» = r.«record»; length = r.length; trials = r.trials }

abbrev pub solved_of : Said → Solved
solved_of a = struct_of (report_of a)

abbrev pub solved_report : Solved → Report
solved_report r = record { number = r.number; table = r.table; «record» = r.«record»; length = r.length; trials = r.trials }

abbrev pub made_of : WriteReport → Made
made_of r = record { number = r.number; table = r.table; «record» = r.«record»; length = r.length }

abbrev pub made_report : Made → WriteReport
made_report r = record { number = r.number; table = r.table; «record» = r.«record»; length = r.length }
