-- "Moving sheets between editions": the sheet that is written, what is refused, and what a call says and leaves.
use Rattle.std.specs.Prelude.{ℕ, ◌+◌, cond, List, [], ◌∷◌, ◌++◌, leb, length, take}
use Rattle.paper.specs.Bytes.{u32}
use Rattle.paper.specs.Rules.{no_rule}
use Rattle.paper.specs.Trailer.{trailer_size, base, rules_of}
use Rattle.paper.specs.Refusals.{Fault, plain, no_fault, unless, or_else, Takes, latest, refusal}
use Rattle.paper.specs.Answers.{WriteReport, write_report, space_with}

-- "convert `PRM1` to `PRM2` .., and `PRM2` to `PRM1`"
pub data Move : Type 0 where
  ToSecond : Move
  ToFirst : Move

-- the edition of the sheet that is given, and the one that is wanted
abbrev pub from : Move → ℕ
from ToSecond = 1
from ToFirst = 2

abbrev pub to : Move → ℕ
to ToSecond = 2
to ToFirst = 1

-- "with all four new bytes zero"; `PRM1` has none
abbrev pub zeros : ℕ → List ℕ
zeros e = cond (leb 2 e) (0 ∷ 0 ∷ 0 ∷ 0 ∷ []) []

-- the sheet in edition e: its tables, its length pair and its table fields as they are, the new bytes zero, then total and mark
unfoldable pub in_edition : ℕ → List ℕ → List ℕ
in_edition e s = take (base s + 24) s ++ (zeros e ++ (u32 (base s + trailer_size e) ++ (80 ∷ 82 ∷ 77 ∷ (48 + e) ∷ [])))

-- "12 also covers a sheet that already has the wanted mark": one edition alone is read
abbrev pub only : ℕ → Takes
only e = record { first = e; last = e; bytes = latest.bytes }

-- "41 no room"
abbrev pub room_refusal : (e : ℕ) (s : List ℕ) (space : ℕ) → Fault
room_refusal e s space = unless (plain 41) (leb (length (in_edition e s)) space) no_fault

-- "10 to 17 of the input, .. then 40 a nonzero rule for the old edition", which no `PRM1` sheet has, then 41
unfoldable pub move_refusal : (m : Move) (s : List ℕ) (space : ℕ) → Fault
move_refusal m s space = or_else (refusal (only (from m)) s) (unless (plain 40) (no_rule (rules_of s)) (room_refusal (to m) s space))

unfoldable pub move_says : (m : Move) (s : List ℕ) (space : ℕ) → WriteReport
move_says m s space = write_report (move_refusal m s space) (in_edition (to m) s)

-- the space after the call: the sheet at its start where it is written, else as it was
unfoldable pub move_leaves : (m : Move) (s space : List ℕ) → List ℕ
move_leaves m s space = space_with (move_refusal m s (length space)) (in_edition (to m) s) space
