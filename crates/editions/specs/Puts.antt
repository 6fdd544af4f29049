-- What is written of a sheet that may be moved.
use Rattle.std.specs.Prelude.{ℕ, ◌+◌, ◌≡◌, cond, leb, List, [], ◌∷◌, ◌++◌, length, Result}
use Rattle.paper.specs.Bytes.{u32}
use Rattle.paper.specs.Answers.{write_report, space_with}
use Rattle.paper.specs.Editions.{Move, ToSecond, ToFirst, in_edition, room_refusal}
use Rattle.sheet.specs.declared.Fault.{Fault}
use Rattle.sheet.specs.Told.{made}

-- total and mark of a sheet of edition e
abbrev pub ending : (total e : ℕ) → List ℕ
ending total e = u32 total ++ (80 ∷ 82 ∷ 77 ∷ (48 + e) ∷ [])

-- the move to edition e
abbrev pub moving : ℕ → Move
moving e = cond (leb 2 e) ToSecond ToFirst

-- the sheet in edition e, or 41
pub record Puts (e : ℕ) (s space : List ℕ) (r : Result ℕ Fault) (space' : List ℕ) : Type 0 where
  pub said : r ≡ made (write_report (room_refusal e s (length space)) (in_edition e s))
  pub wrote : space' ≡ space_with (room_refusal e s (length space)) (in_edition e s) space
