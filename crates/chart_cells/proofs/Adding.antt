-- How steps that set bits of one span follow each other, and the table's own operations as such steps.
-- Assumes nothing.
use Prim.Native.Nat.{ℕ, ◌+◌, ◌*◌, ◌≤◌, ◌<◌}
use mathlib.Core.Path.{◌≡◌, refl, sym, ◌∙◌}
use mathlib.Core.Bool.{Bool, true, false, ◌&&◌, ◌||◌, and-false}
use mathlib.Core.List.{List}
use native.Mathlib.Decide.{ℕ_discrete}
use lib.Dec.{eqb, ltb}
use lib.ListN.{length}
use borrow.Author.Tests.{eq-eqb, ne_eqb}
use Rattle.paper.proofs.Tests.{or_assoc, or_false, or_right}
use Rattle.workspace.specs.Bits.{bit_at, set_bit, put_bit, joined}
use Rattle.workspace.proofs.Bits.{set_bit_same, set_bit_other, set_bit_apart, joined_bit, joined_apart}
use Rattle.workspace.specs.Where.{put_below}
use Rattle.workspace.proofs.Where.{put_below_bit, put_below_apart}
use Rattle.chart_cells.specs.Steps.{Kept, Adds, only}

pub kept_none : (sp : ℕ) (ws : List ℕ) → Kept sp ws ws
kept_none sp ws t r ne = refl

pub kept_then : (sp : ℕ) (a b c : List ℕ) → Kept sp a b → Kept sp b c → Kept sp a c
kept_then sp a b c x y t r ne = y t r ne ∙ x t r ne

-- nothing passes: nothing is done
pub only_off : (q r : ℕ) → only q false r ≡ false
unfolding only
only_off q r = and-false (eqb r q)

pub adds_none : (sp : ℕ) (P : ℕ → Bool) (ws : List ℕ) → ((r : ℕ) → P r ≡ false) → Adds sp P ws ws
adds_none sp P ws h = record { kept = kept_none sp ws; bits = λ r l. rw (h r) (sym (or_false (bit_at ws sp r))) }

module _ (sp : ℕ) (P Q : ℕ → Bool) where
  -- the same tests by another name
  pub adds_same : (old new : List ℕ) → Adds sp P old new → ((r : ℕ) → r < 256 → P r ≡ Q r) → Adds sp Q old new
  adds_same old new x h = record { kept = x.kept; bits = λ r l. rw (← h r l) (x.bits r l) }

  -- one step after another
  pub adds_then : (R : ℕ → Bool) (a b c : List ℕ) → Adds sp P a b → Adds sp Q b c → ((r : ℕ) → r < 256 → (P r || Q r) ≡ R r) → Adds sp R a c
  adds_then R a b c x y h = record {
    kept = kept_then sp a b c x.kept y.kept;
    bits = λ r l. y.bits r l ∙ rw (x.bits r l, ← h r l) (or_assoc (bit_at a sp r) (P r) (Q r));
  }

-- ---- the table's operations

module _ (ws : List ℕ) (sp : ℕ) where
  pub adds_joined : (from : List ℕ) (q : ℕ) → 4 * sp + 4 ≤ length ws → Adds sp (bit_at from q) ws (joined ws sp from q)
  adds_joined from q room = record { kept = joined_apart ws sp from q; bits = λ r h. joined_bit ws sp from q room r }

  module _ (q : ℕ) (h : q < 256) where
    adds_set : 4 * sp + 4 ≤ length ws → Adds sp (only q true) ws (set_bit ws sp q)
    unfolding only
    adds_set room = record { kept = λ t r ne. set_bit_apart ws sp q t r ne h; bits = λ r m. go r (ℕ_discrete r q) }
      where
        go : (r : ℕ) → Dec (r ≡ q) → bit_at (set_bit ws sp q) sp r ≡ (bit_at ws sp r || (eqb r q && true))
        go r (yes e) = rw (eq-eqb r q e) (rw e (set_bit_same ws sp q room h) ∙ sym (or_right (bit_at ws sp r) true refl))
        go r (no e) = rw (ne_eqb r q e) (set_bit_other ws sp q r e ∙ sym (or_false (bit_at ws sp r)))

    pub adds_put : 4 * sp + 4 ≤ length ws → (on : Bool) → Adds sp (only q on) ws (put_bit on ws sp q)
    unfolding put_bit
    adds_put room true = adds_set room
    adds_put room false = adds_none sp (only q false) ws (only_off q)

  -- the rows below n that pass a test
  pub adds_below : (test : ℕ → Bool) (n : ℕ) → 4 * sp + 4 ≤ length ws → n ≤ 256 → Adds sp (λ r. ltb r n && test r) ws (put_below test ws sp n)
  adds_below test n room few = record {
    kept = λ t r ne. put_below_apart test ws sp n few t r ne;
    bits = λ r h. put_below_bit test ws sp n room few r;
  }
