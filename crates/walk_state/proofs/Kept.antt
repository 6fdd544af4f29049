-- What every prefix and every state of the walk has: at most 60 bytes, and no prefix of the one at hand begun after the trials made.
-- The first has it, and each move keeps it.
use mathlib.Core.Path.{◌≡◌}
use Prim.Native.Nat.{ℕ, ◌+◌, ◌≤◌, ◌<◌}
use native.Mathlib.Omega.{arith}
use native.Mathlib.Decide.{dec_lt, ℕ_discrete}
use mathlib.Core.Logic.{◌≢◌}
use mathlib.Core.List.{List}
use lib.ListN.{length, get_or, set, get_or-eq_default}
use lib.Seq.{get_or-set_same, get_or-set_other, set_out}
use Rattle.walk_state.specs.declared.prefix.Prefix.{Prefix}
use Rattle.walk_state.specs.declared.state.State.{State}
use Rattle.walk_state.specs.Moves.{empty_prefix, longer, ending, shorter, start_state, down_of, next_of, back_of, counted_of, again_of, Marks}

pub short_empty : empty_prefix.len ≤ 60
short_empty = omega arith

pub short_longer : (p : Prefix) (b : ℕ) → p.len < 60 → (longer p b).len ≤ 60
short_longer p b h = omega arith

pub short_ending : (p : Prefix) (b : ℕ) → p.len ≤ 60 → (ending p b).len ≤ 60
short_ending p b h = h

pub short_shorter : (p : Prefix) → p.len ≤ 60 → (shorter p).len ≤ 60
short_shorter p h = omega arith

-- a mark set to the trials made
marked : (s : List ℕ) (k t j : ℕ) → (j ≢ k → get_or s j 0 ≤ t) → get_or (set s k t) j 0 ≤ t
marked s k t j m = go (ℕ_discrete j k) (dec_lt k (length s))
  where
    go : Dec (j ≡ k) → Dec (k < length s) → get_or (set s k t) j 0 ≤ t
    go (yes e) (yes h) = rw (e, get_or-set_same s k t 0 h) (omega arith)
    go (yes e) (no h) = rw (set_out s k t (omega arith), e, get_or-eq_default s 0 {n = k} (omega arith)) (omega arith)
    go (no e) d = rw (get_or-set_other s k j t 0 e) (m e)

pub marks_start : Marks start_state
marks_start j i = let z : j ≡ 0 = omega arith in rw z (omega arith)

module _ (q : State) (m : Marks q) where
  pub marks_down : (b : ℕ) → Marks (down_of q b)
  marks_down b j i = marked q.begun (q.prefix.len + 1) q.trials j (λ e. m j (omega arith))

  pub marks_next : (b : ℕ) → Marks (next_of q b)
  marks_next b j i = marked q.begun q.prefix.len q.trials j (λ e. m j i)

  pub marks_back : Marks (back_of q)
  marks_back j i = m j (omega arith)

  pub marks_counted : (t : ℕ) → Marks (counted_of q t)
  marks_counted t j i = omega (arith, m j i)

  pub marks_again : Marks (again_of q)
  marks_again j i = marked q.begun 0 q.trials j (λ e. m j i)
