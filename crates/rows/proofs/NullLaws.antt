-- The rows that derive the empty word: a row's turn, and the end.
-- Assumes nothing.
use Prim.Native.Nat.{ℕ, ◌≤◌, ◌<◌}
use mathlib.Core.Path.{◌≡◌, sym, ◌∙◌}
use mathlib.Core.Bool.{Bool, true, false, true≢false}
use mathlib.Core.List.{List}
use native.Mathlib.Decide.{ℕ_discrete}
use native.Mathlib.Omega.{arith}
use lib.ListN.{length, replicate}
use Rattle.paper.specs.Rows.{Row, Grammar, row}
use Rattle.paper.specs.Decide.{has, closure, null_row, null_rule, nullable}
use Rattle.paper.proofs.Tests.{same_test}
use Rattle.paper.proofs.Closure.{closure_closed, closure_least}
use Rattle.paper.proofs.Reaching.{null_mono}
use Rattle.workspace.specs.Bits.{bit_at, set_bit}
use Rattle.workspace.specs.Room.{Grows}
use Rattle.workspace.proofs.Bits.{set_bit_same, set_bit_other}
use Rattle.workspace.proofs.Room.{grows_not}
use Rattle.rows.specs.Sets.{Nulls, NullSound, NullSettled}
use Rattle.rows.specs.Passes.{Turn}
use Rattle.rows.proofs.Zeros.{zero_bit}

module _ (g : Grammar) (r : ℕ) (x : Row) (is : x ≡ row g r) (old : List ℕ) where
  -- the rule asks for r: it is put in
  pub null_yes : {new : Bool} {now : List ℕ} → r < length g.rows → r < 256 → 4 ≤ length old → null_row (bit_at old 0) x ≡ true → now ≡ set_bit old 0 r → Grows new old now
      → Turn (NullSound g) (NullSettled g) r new old now
  unfolding null_rule nullable
  null_yes {new} {now} l low room e p grows = record {
    grows = grows;
    sound = λ s q h. at s q (ℕ_discrete q r) h;
    settled = λ z h. rw p (set_bit_same old 0 r (omega arith) low);
  }
    where
      at : NullSound g old → (q : ℕ) → Dec (q ≡ r) → bit_at now 0 q ≡ true → nullable g q ≡ true
      at s q (yes k) h = rw k (closure_closed (length g.rows) (null_rule g) (null_mono g) r l (null_mono g (bit_at old 0) (has (closure (length g.rows) (null_rule g))) s r (rw is at e)))
      at s q (no k) h = s q (sym (set_bit_other old 0 r q k) ∙ rw p at h)

  -- it does not
  pub null_no : null_row (bit_at old 0) x ≡ false → Turn (NullSound g) (NullSettled g) r false old old
  unfolding null_rule
  null_no e = record { grows = grows_not old; sound = λ s. s; settled = λ z h. absurd (true≢false (sym h ∙ rw is at e)) }

pub null_start : (g : Grammar) (n : ℕ) → NullSound g (replicate n 0)
null_start g n r h = absurd (true≢false (sym h ∙ zero_bit n 0 r))

-- where every row is settled, the bits are the rows that derive the empty word
pub null_end : (g : Grammar) (ws : List ℕ) → NullSound g ws → ((r : ℕ) → r < length g.rows → NullSettled g ws r) → Nulls g ws
unfolding nullable
null_end g ws s f = record {
  bits = λ r. same_test (bit_at ws 0 r) (nullable g r) (s r)
      (closure_least (length g.rows) (null_rule g) (λ j. bit_at ws 0 j ≡ true) (λ t h k l e. f k l (null_mono g t (bit_at ws 0) h k e)) r);
}
