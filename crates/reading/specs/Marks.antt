-- How the reading fills its table: the shorter lengths first, in a length head by head, in a head option by option, for an option start by start.
use Rattle.std.specs.Prelude.{ℕ, zero, suc, ◌-◌, cond, List, length}
use Rattle.paper.specs.Decide.{Test, exactly}
use Rattle.paper.specs.Cuts.{Opt}
use Rattle.paper.specs.Gate.{n_of, rows_of, option_count, head_at, option_at, opt_of, holds}
use Rattle.workspace.specs.Spans.{span_at}
use Rattle.workspace.specs.Bits.{bit_at, set_bit}

-- what the table says of a length, a place and a row
unfoldable pub in_table : List ℕ → Test
in_table ws k i q = bit_at ws (span_at i k) q

-- f 0, then f 1, .., then f (n - 1)
unfoldable pub in_turn : ℕ → (ℕ → List ℕ → List ℕ) → List ℕ → List ℕ
in_turn zero f ws = ws
in_turn (suc n) f ws = f n (in_turn n f ws)

-- the bit of row r and the m bytes from place i on, where the option holds
unfoldable pub mark_start : (text word : List ℕ) (m r : ℕ) → Opt → ℕ → List ℕ → List ℕ
mark_start text word m r x i ws = cond (holds text (exactly word) (in_table ws) m i x) (set_bit ws (span_at i m) r) ws

unfoldable pub mark_option : (text word : List ℕ) (m r : ℕ) → Opt → List ℕ → List ℕ
mark_option text word m r x ws = in_turn (suc (length word) - m) (mark_start text word m r x) ws

-- option j of row r's head at length m
unfoldable pub mark_at : (l text word : List ℕ) (m r j : ℕ) → List ℕ → List ℕ
mark_at l text word m r j ws = mark_option text word m r (opt_of l (option_at (head_at l m r) j)) ws

unfoldable pub mark_head : (l text word : List ℕ) (m r : ℕ) → List ℕ → List ℕ
mark_head l text word m r ws = in_turn (option_count l (head_at l m r)) (mark_at l text word m r) ws

unfoldable pub mark_group : (l text word : List ℕ) (m : ℕ) → List ℕ → List ℕ
mark_group l text word m ws = in_turn (rows_of l) (mark_head l text word m) ws

unfoldable pub marked : (l text word : List ℕ) → List ℕ → List ℕ
marked l text word ws = in_turn (suc (n_of l)) (mark_group l text word) ws
