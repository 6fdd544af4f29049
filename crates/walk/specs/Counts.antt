-- The remembered counts, eight a place, one for each slot: the trials of a letter of that slot there, where they are known.
use Rattle.std.specs.Prelude.{ℕ, ◌-◌, ◌<◌, cond, List, [], eqb, set, get_or, replicate, Option, Some, None}

-- every slot of the table is below 8
abbrev pub Small : List ℕ → Type 0
Small slot = (b : ℕ) → get_or slot b 0 < 8

-- the places' counts
abbrev pub Counts : Type 0
Counts = List (List (Option ℕ))

-- the count of slot s at place j
abbrev pub count_at : Counts → (j s : ℕ) → Option ℕ
count_at m j s = get_or (get_or m j []) s None

-- the count of slot s in the last of k places is t
abbrev pub noted_at : Counts → (k s t : ℕ) → Counts
noted_at m k s t = set m (k - 1) (set (get_or m (k - 1) []) s (Some t))

-- what is known of slot s in the last of k places; of slot 0 nothing is
unfoldable pub seen_at : Counts → (k s : ℕ) → Option ℕ
seen_at m k s = cond (eqb s 0) None (count_at m (k - 1) s)

-- the counts of the place j, forgotten
abbrev pub forgotten : Counts → ℕ → Counts
forgotten m j = set m j (replicate 8 None)
