-- When a prefix is open at n: "each assertion, taken alone, is possible". The meaning, with no procedure in it.
use Rattle.std.specs.Prelude.{ℕ, ◌≡◌, Bool, true, false, ◌⊎◌, List, [], ◌∷◌, ◌++◌, map}
use Rattle.paper.specs.Tests.{Every}
use Rattle.paper.specs.Terms.{Place, Known, Unknown, places_of, term}
use Rattle.paper.specs.Sheet.{Sheet, Claim, Assertion, Run, second_run, letter, parts_of, inside}
use Rattle.paper.specs.Satisfy.{Holds}

-- the places of a term where v has the places W
unfoldable pub term_on : Sheet → List Place → Run → List Place
term_on s W r = term Known s.grammar.text W (parts_of s r)

-- "a way to fill the unknown bytes .. with letters, each place separately even if it comes from the same place of v"
pub data Fills (s : Sheet) : List Place → List ℕ → Type 0 where
  none : Fills s [] []
  known : {b : ℕ} {ps : List Place} {w : List ℕ} → Fills s ps w → Fills s (Known b ∷ ps) (b ∷ w)
  filled : {b : ℕ} {ps : List Place} {w : List ℕ} → letter s b ≡ true → Fills s ps w → Fills s (Unknown ∷ ps) (b ∷ w)

-- some place is unknown
abbrev pub SomeUnknown : List Place → Type 0
SomeUnknown ps = (x : List Place) × (y : List Place) × (ps ≡ x ++ (Unknown ∷ y))

-- "asserted: there is a way to fill the unknown bytes of its terms .. that makes it hold"
abbrev pub CanHold : Sheet → Claim → List Place → List Place → Type 0
CanHold s c T U = (t : List ℕ) × (u : List ℕ) × Fills s T t × Fills s U u × Holds s c t u

-- "denied: some byte of its terms is unknown, or the denial holds"
abbrev pub CanFail : Sheet → Claim → List Place → List Place → Type 0
CanFail s c T U = SomeUnknown (T ++ U) ⊎ ((t : List ℕ) × (u : List ℕ) × (T ≡ map Known t) × (U ≡ map Known u) × (Holds s c t u → ⊥))

abbrev pub Can : Bool → Sheet → Claim → List Place → List Place → Type 0
Can false s c T U = CanHold s c T U
Can true s c T U = CanFail s c T U

-- an assertion is possible at n where v has the places W; "a cut past n: not possible"
pub record Possible (s : Sheet) (n : ℕ) (W : List Place) (a : Assertion) : Type 0 where
  pub within : inside s n a ≡ true
  pub can : Can a.denied s a.claim (term_on s W a.term) (term_on s W (second_run a.claim))

-- "a prefix is open when each assertion, taken alone, is possible"
abbrev pub Open : Sheet → ℕ → List ℕ → Type 0
Open s n p = Every (Possible s n (places_of n p)) s.assertions
