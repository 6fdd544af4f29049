-- The paper's number of each answer of the gate.
use Rattle.std.specs.Prelude.{ℕ, Bool, cond, Result, Ok, Err}
use Rattle.gate.specs.declared.answer.Refusal.{Refusal}
use Rattle.gate.specs.declared.answer.Refusal.TheVariants.{Malformed, Length, Workspace}

-- the number of a refusal
abbrev pub refused : Refusal → ℕ
refused Workspace = 18
refused Malformed = 30
refused Length = 31

-- yes, no, or a refusal
abbrev pub number_of : Result Bool Refusal → ℕ
number_of (Ok accepted) = cond accepted 0 1
number_of (Err refusal) = refused refusal
