-- A constant over a term's places as the code has them.
use Prim.Native.Nat.{ℕ, suc, ◌+◌, ◌-◌, ◌<◌, ◌≤◌}
use mathlib.Core.Path.{◌≡◌, sym}
use mathlib.Core.Bool.{Bool, true, false}
use mathlib.Core.List.{List}
use native.Mathlib.Omega.{arith}
use lib.ListN.{length}
use Rattle.std.specs.Prelude.{Option}
use Rattle.paper.specs.Rows.{stretch}
use Rattle.paper.specs.Terms.{Place}
use Rattle.paper.specs.Sheet.{Sheet, Contains}
use Rattle.paper.specs.Decide.{fits}
use Rattle.paper.specs.Opens.{pattern, can_hold}
use Rattle.paper.proofs.Tests.{any_intro, any_nowhere}
use Rattle.workspace.specs.Places.{places_in}
use Rattle.terms.proofs.Showing.{places_length}

module _ (S : Sheet) (places : List (Option ℕ)) (a b : ℕ) where
  -- the constant stands at i
  abbrev pub stands : ℕ → Bool
  stands i = fits (pattern S (places_in places)) i (stretch 0 S.grammar.text a b)

  pub here : (i : ℕ) → i + b ≤ length places → stands i ≡ true → (u : List Place) → true ≡ can_hold S (Contains a b) (places_in places) u
  unfolding can_hold
  here i h e u =
      let n = places_length places in
      sym (any_intro (suc (length (places_in places)) - b) stands i (omega arith) e)

  -- the constant stands at no place from which it ends before e
  abbrev pub NoneBefore : ℕ → Type 0
  NoneBefore e = (k : ℕ) → k < e → b ≤ k → stands (k - b) ≡ false

  pub nowhere : (e : ℕ) → NoneBefore e → length places < e → (u : List Place) → false ≡ can_hold S (Contains a b) (places_in places) u
  unfolding can_hold
  nowhere e h l u =
      let n = places_length places in
      sym (any_nowhere (suc (length (places_in places)) - b) stands (λ j k. let same : j + b - b ≡ j = omega arith in rw same at (h (j + b) (omega arith) (omega arith))))
