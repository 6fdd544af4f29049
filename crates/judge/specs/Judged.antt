-- What judging one assertion gives, where v has the places that it has.
use Rattle.std.specs.Prelude.{ℕ, ◌≡◌, Bool, List, Option}
use Rattle.paper.specs.Sheet.{Assertion, sheet_of}
use Rattle.paper.specs.Opens.{possible}
use Rattle.sheet_contents.specs.declared.Run.{Run}
use Rattle.terms.specs.declared.places.Places.{Places}
use Rattle.terms.specs.Shown.{shown}
use Rattle.judge.specs.Charts.{Keeps}

-- ok: it is possible; the workspace holds the chart that it is then said to hold
pub record Judged (s : List ℕ) (v : Places) (a : Assertion) (ok : Bool) (held : Option Run) (work : List ℕ) : Type 0 where
  pub right : ok ≡ possible (sheet_of s) v.len (shown v) a
  pub keeps : Keeps s (shown v) held work
