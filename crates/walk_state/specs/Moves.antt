-- The moves of a prefix, and of the walk's state that holds it.
use Rattle.std.specs.Prelude.{ℕ, ◌+◌, ◌-◌, ◌≤◌, set, get_or, replicate}
use Rattle.walk_state.specs.declared.prefix.Prefix.{Prefix}
use Rattle.walk_state.specs.declared.state.State.{State}

-- no letter
abbrev pub empty_prefix : Prefix
empty_prefix = record { bytes = replicate 60 0; len = 0 }

-- one letter more
abbrev pub longer : Prefix → ℕ → Prefix
longer p b = record { bytes = set p.bytes p.len b; len = p.len + 1 }

-- another letter in the last place
abbrev pub ending : Prefix → ℕ → Prefix
ending p b = record { bytes = set p.bytes (p.len - 1) b; len = p.len }

-- one letter less
abbrev pub shorter : Prefix → Prefix
shorter p = record { bytes = p.bytes; len = p.len - 1 }

-- the last letter
abbrev pub last_of : Prefix → ℕ
last_of p = get_or p.bytes (p.len - 1) 0

-- before the first trial
abbrev pub start_state : State
start_state = record { prefix = empty_prefix; begun = replicate 61 0; trials = 0 }

-- one letter longer, begun now
abbrev pub down_of : State → ℕ → State
down_of q b = record { prefix = longer q.prefix b; begun = set q.begun (q.prefix.len + 1) q.trials; trials = q.trials }

-- another letter in the last place, begun now
abbrev pub next_of : State → ℕ → State
next_of q b = record { prefix = ending q.prefix b; begun = set q.begun q.prefix.len q.trials; trials = q.trials }

-- one letter shorter
abbrev pub back_of : State → State
back_of q = record { prefix = shorter q.prefix; begun = q.begun; trials = q.trials }

-- so many trials more
abbrev pub counted_of : State → ℕ → State
counted_of q t = record { prefix = q.prefix; begun = q.begun; trials = q.trials + t }

-- the empty prefix, begun now
abbrev pub again_of : State → State
again_of q = record { prefix = q.prefix; begun = set q.begun 0 q.trials; trials = q.trials }

-- the trials since the prefix at hand was begun
abbrev pub since_of : State → ℕ
since_of q = q.trials - get_or q.begun q.prefix.len 0

-- no prefix of the one at hand was begun after the trials made
abbrev pub Marks : State → Type 0
Marks q = (j : ℕ) → j ≤ q.prefix.len → get_or q.begun j 0 ≤ q.trials
