-- The loop that carries a span's rows back along the steps that keep the length, in place.
-- Assumes nothing.
use Prim.Native.Nat.{ℕ, ◌+◌, ◌≤◌, ◌<◌}
use mathlib.Core.Path.{◌≡◌, sym, ◌∙◌, subst}
use mathlib.Core.Bool.{true, false, ◌||◌, and-false}
use mathlib.Core.Logic.{◌⊎◌, inl, inr}
use mathlib.Core.List.{List}
use native.Mathlib.Omega.{arith}
use native.Mathlib.Decide.{dec_lt}
use Rattle.paper.proofs.Tests.{any_intro, any_elim, and_intro, and_left, and_right, or_left, or_right, or_cases, and_true, same_test}
use Rattle.workspace.specs.Bits.{bit_at, none_at}
use Rattle.workspace.proofs.Bits.{none_bit}
use Rattle.chart_cells.specs.Steps.{Kept, Adds, Chained, brought, carried_in}
use Rattle.chart_cells.proofs.Adding.{kept_then, adds_none, adds_same}
use Rattle.chart_cells.proofs.Splitting.{any_fails}

-- the first c rows have had their turn: what was there stays, what reaches one of them that was there is in, and nothing else is
pub record Carrying (reach : List ℕ) (sp n : ℕ) (old now : List ℕ) (c : ℕ) : Type 0 where
  pub kept : Kept sp old now
  pub stays : (r : ℕ) → r < 256 → bit_at old sp r ≡ true → bit_at now sp r ≡ true
  pub adds : (q r : ℕ) → r < 256 → q < c → brought reach old sp q r ≡ true → bit_at now sp r ≡ true
  pub sound : (r : ℕ) → r < 256 → bit_at now sp r ≡ true → (bit_at old sp r || carried_in reach old sp n r) ≡ true

module _ (reach : List ℕ) (sp : ℕ) where
  -- a row that is not there brings none
  pub bring_none : (ws : List ℕ) (q : ℕ) → bit_at ws sp q ≡ false → Adds sp (brought reach ws sp q) ws ws
  unfolding brought
  bring_none ws q e = adds_none sp (brought reach ws sp q) ws (λ r. rw e (and-false (bit_at reach q r)))

  pub bring_all : (ws new : List ℕ) (q : ℕ) → bit_at ws sp q ≡ true → Adds sp (bit_at reach q) ws new → Adds sp (brought reach ws sp q) ws new
  unfolding brought
  bring_all ws new q e x = adds_same sp (bit_at reach q) (brought reach ws sp q) ws new x (λ r l. rw e (sym (and_true (bit_at reach q r))))

module _ (reach : List ℕ) (sp n : ℕ) where
  pub carry_turn : (old now next : List ℕ) (c : ℕ) → Chained reach n → c < 256 → c < n → Carrying reach sp n old now c → Adds sp (brought reach now sp c) now next → Carrying reach sp n old next (c + 1)
  unfolding brought carried_in
  carry_turn old now next c chain row h x y = record {
    kept = kept_then sp old now next x.kept y.kept;
    stays = λ r l e. grown r l (x.stays r l e);
    adds = λ q r l m e. turned q r l (dec_lt q c) m e;
    sound = λ r l e. from r l (or_cases (bit_at now sp r) (brought reach now sp c r) (sym (y.bits r l) ∙ e));
  }
    where
      grown : (r : ℕ) → r < 256 → bit_at now sp r ≡ true → bit_at next sp r ≡ true
      grown r l e = y.bits r l ∙ or_left (bit_at now sp r) (brought reach now sp c r) e

      here : (r : ℕ) → r < 256 → brought reach old sp c r ≡ true → bit_at next sp r ≡ true
      here r l e =
          y.bits r l ∙
          or_right (bit_at now sp r) (brought reach now sp c r)
          (and_intro (and_left (bit_at reach c r) (bit_at old sp c) e) (x.stays c (omega arith) (and_right (bit_at reach c r) (bit_at old sp c) e)))

      turned : (q r : ℕ) → r < 256 → Dec (q < c) → q < c + 1 → brought reach old sp q r ≡ true → bit_at next sp r ≡ true
      turned q r l (yes m) k e = grown r l (x.adds q r l m e)
      turned q r l (no m) k e = here r l (subst (λ z. brought reach old sp z r ≡ true) same e)
        where
          same : q ≡ c
          same = omega arith

      through : (r : ℕ) → bit_at reach c r ≡ true → (bit_at old sp c ≡ true) ⊎ (carried_in reach old sp n c ≡ true) → carried_in reach old sp n r ≡ true
      through r e (inl p) = any_intro n (λ q. brought reach old sp q r) c h (and_intro e p)
      through r e (inr p) =
          let z = any_elim n (λ q. brought reach old sp q c) p in
          let q = z.0 in
          any_intro n (λ q. brought reach old sp q r) q z.1
          (and_intro (chain q c r z.1 h (and_left (bit_at reach q c) (bit_at old sp q) z.2) e) (and_right (bit_at reach q c) (bit_at old sp q) z.2))

      from : (r : ℕ) → r < 256 → (bit_at now sp r ≡ true) ⊎ (brought reach now sp c r ≡ true) → (bit_at old sp r || carried_in reach old sp n r) ≡ true
      from r l (inl p) = x.sound r l p
      from r l (inr p) =
          or_right (bit_at old sp r) (carried_in reach old sp n r)
          (through r (and_left (bit_at reach c r) (bit_at now sp c) p)
          (or_cases (bit_at old sp c) (carried_in reach old sp n c) (x.sound c (omega arith) (and_right (bit_at reach c r) (bit_at now sp c) p))))

  pub carry_done : (old now : List ℕ) (c : ℕ) → n ≤ c → Carrying reach sp n old now c → Adds sp (carried_in reach old sp n) old now
  unfolding carried_in
  carry_done old now c h x = record { kept = x.kept; bits = λ r l. same_test _ _ (x.sound r l) (λ e. back r l (or_cases (bit_at old sp r) (carried_in reach old sp n r) e)) }
    where
      back : (r : ℕ) → r < 256 → (bit_at old sp r ≡ true) ⊎ (carried_in reach old sp n r ≡ true) → bit_at now sp r ≡ true
      back r l (inl p) = x.stays r l p
      back r l (inr p) = let z = any_elim n (λ q. brought reach old sp q r) p in x.adds z.0 r l (omega (arith, z.1)) z.2

  -- a span with no row gets none
  pub carry_none : (ws : List ℕ) → none_at ws sp ≡ true → Adds sp (carried_in reach ws sp n) ws ws
  unfolding carried_in brought
  carry_none ws e = adds_none sp (carried_in reach ws sp n) ws (λ r. any_fails n _ (λ q h. rw (none_bit ws sp e q) (and-false (bit_at reach q r))))
