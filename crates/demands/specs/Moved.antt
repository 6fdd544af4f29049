-- What is demanded of a move between editions, in the paper's words.
use Rattle.std.specs.Prelude.{◌≡◌, ℕ, List, length}
use Rattle.paper.specs.Trailer.{edition}
use Rattle.paper.specs.Refusals.{Accepted}
use Rattle.paper.specs.Answers.{WriteReport, written}
use Rattle.paper.specs.Editions.{Move, ToSecond, ToFirst, to, in_edition}

-- the other way
abbrev pub back : Move → Move
back ToSecond = ToFirst
back ToFirst = ToSecond

-- 0 and the length of the sheet, which stands at the start of the space, the space after it kept; an accepted sheet of the edition wanted
pub record SheetWritten (m : Move) (sheet space : List ℕ) (r : WriteReport) (space' : List ℕ) : Type 0 where
  pub number : r.number ≡ 0
  pub size : r.length ≡ length (in_edition (to m) sheet)
  pub bytes : space' ≡ written (in_edition (to m) sheet) space
  pub accepted : Accepted (in_edition (to m) sheet)
  pub wanted : edition (in_edition (to m) sheet) ≡ to m
