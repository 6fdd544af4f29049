-- The chart of a term in the workspace, and whose chart it is.
use Rattle.std.specs.Prelude.{ℕ, ◌+◌, ◌<◌, ◌≤◌, ◌≡◌, ◌⊎◌, List, length, Option, Some}
use Rattle.paper.specs.Terms.{Place}
use Rattle.paper.specs.Sheet.{Claim, Derived, Contains, Equals, ContainsTerm, sheet_of, grammar_of}
use Rattle.paper.specs.Decide.{accepts}
use Rattle.paper.specs.Open.{term_on}
use Rattle.paper.specs.Opens.{pattern}
use Rattle.workspace.specs.Spans.{span_at}
use Rattle.workspace.specs.Bits.{bit_at}
use Rattle.sheet_contents.specs.declared.Run.{Run}
use Rattle.sheet_contents.specs.Read.{as_run}

-- the workspace holds the chart of the places T: each span's bits are the rows that derive it
pub record Charts (s : List ℕ) (T : List Place) (work : List ℕ) : Type 0 where
  pub bits : (m i r : ℕ) → i + m ≤ length T → r < 256 → bit_at work (span_at i m) r ≡ accepts (grammar_of s) (pattern (sheet_of s) T) m i r

-- the run whose term's chart is held once a claim over the run r's term was looked at
abbrev pub after_of : Option Run → Claim → Run → Option Run
after_of h (Derived q) r = Some r
after_of h (Contains a b) r = h
after_of h (Equals a b) r = h
after_of h (ContainsTerm a b) r = h

-- how looking at a claim over T leaves the workspace: a derivation with the chart of T, another claim as it was
abbrev pub Leaves : List ℕ → Claim → List Place → (old new : List ℕ) → Type 0
Leaves s (Derived q) T old new = Charts s T new
Leaves s (Contains a b) T old new = new ≡ old
Leaves s (Equals a b) T old new = new ≡ old
Leaves s (ContainsTerm a b) T old new = new ≡ old

pub record Left (s : List ℕ) (c : Claim) (r : Run) (T : List Place) (h after : Option Run) (old new : List ℕ) : Type 0 where
  pub held : after ≡ after_of h c r
  pub leaves : Leaves s c T old new

-- if the chart held is said to be this run's, it is the chart of T
pub record Meant (s : List ℕ) (r : Run) (T : List Place) (h : Option Run) (work : List ℕ) : Type 0 where
  pub chart : h ≡ Some r → Charts s T work

-- so it is for every run, where v has the places W: whichever run's chart is held, it is that of the run's term
pub record Keeps (s : List ℕ) (W : List Place) (h : Option Run) (work : List ℕ) : Type 0 where
  pub meant : (r : Run) → Meant s r (term_on (sheet_of s) W (as_run r)) h work

-- once T, this run's term, was asked about: nothing has changed, or its chart is held
pub record Asked (s : List ℕ) (r : Run) (T : List Place) (h after : Option Run) (old new : List ℕ) : Type 0 where
  pub held : ((after ≡ h) × (new ≡ old)) ⊎ ((after ≡ Some r) × Charts s T new)
