-- The chart that the workspace holds: filled, read, and shared by assertions over one term.
use Prim.Native.Nat.{ℕ, ◌<◌}
use mathlib.Core.Path.{◌≡◌, refl, sym, ap, subst, ◌∙◌}
use mathlib.Core.Logic.{◌⊎◌, inl, inr}
use mathlib.Core.Bool.{Bool}
use mathlib.Core.List.{List}
use native.Mathlib.Omega.{arith}
use lib.ListN.{length}
use Rattle.std.proofs.Common.{Option, Some, None}
use Rattle.paper.specs.Terms.{Place}
use Rattle.paper.specs.Sheet.{Claim, Derived, Contains, Equals, ContainsTerm, sheet_of}
use Rattle.paper.specs.Open.{term_on}
use Rattle.paper.specs.Opens.{can_hold}
use Rattle.sheet_contents.specs.declared.Run.{Run}
use Rattle.sheet_contents.specs.Read.{as_run}
use Rattle.workspace.specs.Places.{places_in}
use Rattle.workspace.specs.Spans.{span_at}
use Rattle.workspace.specs.Bits.{bit_at}
use Rattle.chart.specs.Cells.{Charted}
use Rattle.terms.proofs.Showing.{places_length}
use Rattle.judge.specs.Charts.{Charts, Left, Meant, Keeps, Asked}

-- ---- a chart, filled and read

pub charts_filled : (s : List ℕ) (places : List (Option ℕ)) (work : List ℕ) → Charted s places work → Charts s (places_in places) work
charts_filled s places work c =
    let n = places_length places in
    record { bits = λ m i r h k. c.bits m i r (omega arith) k }

-- a row read off it
pub derived : (s : List ℕ) (places : List (Option ℕ)) (work : List ℕ) (row : ℕ) (x : Bool) → row < 256 → Charts s (places_in places) work
    → x ≡ bit_at work (span_at 0 (length places)) row → (u : List Place) → x ≡ can_hold (sheet_of s) (Derived row) (places_in places) u
unfolding can_hold sheet_of
derived s places work row x h c e u =
    e ∙ ap (λ (n : ℕ). bit_at work (span_at 0 n) row) (sym (places_length places)) ∙ c.bits (length (places_in places)) 0 row (omega arith) h

-- ---- whose chart it is

pub none_held : (s : List ℕ) (W : List Place) (work : List ℕ) → Keeps s W None work
none_held s W work = record { meant = λ r. record { chart = λ e. (cc) } }

module _ (s : List ℕ) (W : List Place) (r : Run) (T : List Place) (laid : T ≡ term_on (sheet_of s) W (as_run r)) (h : Option Run) (old : List ℕ) (keeps : Keeps s W h old) where
  -- the term of an assertion that is looked at
  pub meant_here : Meant s r T h old
  meant_here = rw laid (keeps.meant r)

  -- and after it was looked at
  pub keeps_on : (after : Option Run) (new : List ℕ) → Asked s r T h after old new → Keeps s W after new
  keeps_on after new a = go a.held
    where
      go : ((after ≡ h) × (new ≡ old)) ⊎ ((after ≡ Some r) × Charts s T new) → Keeps s W after new
      go (inl e) = rw (e.0, e.1) keeps
      go (inr e) = rw e.0 (record {
        meant = λ q. record { chart = λ is. let same : r ≡ q = cc in subst (λ (U : List Place). Charts s U new) (laid ∙ ap (λ (x : Run). term_on (sheet_of s) W (as_run x)) same) e.1 };
      })

-- ---- a term looked at

module _ (s : List ℕ) (r : Run) (T : List Place) (h : Option Run) (old : List ℕ) where
  pub asked_none : Asked s r T h h old old
  asked_none = record { held = inl (refl, refl) }

  pub asked_left : (c : Claim) (after : Option Run) (new : List ℕ) → Left s c r T h after old new → Asked s r T h after old new
  asked_left (Derived q) after new l = record { held = inr (l.held, l.leaves) }
  asked_left (Contains a b) after new l = record { held = inl (l.held, l.leaves) }
  asked_left (Equals a b) after new l = record { held = inl (l.held, l.leaves) }
  asked_left (ContainsTerm a b) after new l = record { held = inl (l.held, l.leaves) }
