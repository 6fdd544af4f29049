-- The walk of the search is the sheet's: its letters and its lengths are.
use Prim.Native.Nat.{ℕ}
use mathlib.Core.Path.{◌≡◌, refl, ap, fun_ext, subst, ◌∙◌}
use mathlib.Core.Bool.{Bool}
use mathlib.Core.List.{List}
use Rattle.paper.specs.Trailer.{shortest, longest}
use Rattle.paper.specs.Sheet.{Sheet, sheet_of}
use Rattle.paper.specs.Opens.{opens}
use Rattle.paper.specs.Walk.{Walked, walk}
use Rattle.paper.specs.Answers.{under, walk_of}
use Rattle.sheet.specs.declared.accepted.Sheet as sheet
use Rattle.groundwork.specs.Laying.{LettersIn}
use Rattle.walk_state.specs.Letters.{has_letter}
use Rattle.search.specs.Tells.{Tells}
use Rattle.search.specs.declared.Sought.{Sought}

lengths_are : (s : List ℕ) → (shortest s ≡ (sheet_of s).shortest) × (longest s ≡ (sheet_of s).longest)
unfolding sheet_of
lengths_are s = (refl, refl)

-- with such letters and lengths
walk_is : (s : Sheet) (of : List ℕ) (lo hi : ℕ) → LettersIn s of → lo ≡ s.shortest → hi ≡ s.longest → walk (has_letter of) (opens s) lo hi ≡ walk_of s
unfolding has_letter walk_of
walk_is s of lo hi h e f = ap (λ (is : ℕ → Bool). walk is (opens s) lo hi) (fun_ext h) ∙ rw (e, f)

pub tells_walk : (sheet : sheet.Sheet) (letters : List ℕ) (budget : ℕ) (r : Sought) → LettersIn (sheet_of sheet.bytes.now) letters
    → Tells sheet.longest (under budget (walk (has_letter letters) (opens (sheet_of sheet.bytes.now)) sheet.shortest sheet.longest)) r
    → Tells sheet.longest (under budget (walk_of (sheet_of sheet.bytes.now))) r
tells_walk sheet letters budget r h =
    let l = lengths_are sheet.bytes.now in
    subst (λ (w : Walked). Tells sheet.longest (under budget w) r) (walk_is (sheet_of sheet.bytes.now) letters sheet.shortest sheet.longest h (sheet.shortest_is ∙ l.0) (sheet.longest_is ∙ l.1))
