-- Each end of a search holds what is said.
-- Assumes nothing.
use Prim.Native.Nat.{ℕ, ◌≤◌}
use mathlib.Core.Path.{◌≡◌}
use lib.ListN.{length, take}
use Rattle.paper.specs.Answers as paper
use Rattle.walk_state.specs.declared.prefix.Prefix.{Prefix}
use Rattle.search.specs.declared.Sought.TheVariants.{Found, None, Spent}
use Rattle.search.specs.Tells.{said_by, Tells}

module _ (hi : ℕ) (a : paper.Said) where
  pub tells_found : (p : Prefix) (t : ℕ) → p.len ≤ hi → length p.bytes ≡ 60 → a ≡ paper.Found (take p.len p.bytes) t → Tells hi a (Found p t)
  unfolding said_by
  tells_found p t h l e = record { within = (h, l); said = e }

  pub tells_none : (t : ℕ) → a ≡ paper.None t → Tells hi a (None t)
  unfolding said_by
  tells_none t e = record { within = tt; said = e }

  pub tells_spent : (t : ℕ) → a ≡ paper.Spent t → Tells hi a (Spent t)
  unfolding said_by
  tells_spent t e = record { within = tt; said = e }
