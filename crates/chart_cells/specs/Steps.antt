-- What each step of a cell does to the table: it sets bits of the cell's span and keeps all else.
use Rattle.std.specs.Prelude.{ℕ, suc, ◌+◌, ◌-◌, ◌<◌, ◌≡◌, ◌≢◌, Bool, true, ◌&&◌, ◌||◌, List, eqb, length, get_or, take}
use Rattle.paper.specs.Tests.{any_below}
use Rattle.workspace.specs.Spans.{span_at}
use Rattle.workspace.specs.Bits.{bit_at}
use Rattle.groundwork.specs.declared.splits.Pair.{Pair}
use Rattle.groundwork.specs.Laying.{no_pair}
use Rattle.groundwork.specs.declared.ground.Groundwork.{Groundwork}

-- nothing but the span sp has changed
abbrev pub Kept : ℕ → (old new : List ℕ) → Type 0
Kept sp old new = (t r : ℕ) → t ≢ sp → bit_at new t r ≡ bit_at old t r

-- the rows that pass are put into the span
pub record Adds (sp : ℕ) (P : ℕ → Bool) (old new : List ℕ) : Type 0 where
  pub kept : Kept sp old new
  pub bits : (r : ℕ) → r < 256 → bit_at new sp r ≡ (bit_at old sp r || P r)

-- row q, where the test passes
unfoldable pub only : (q : ℕ) → Bool → ℕ → Bool
only q on r = eqb r q && on

-- ---- splits

-- a pair has its left row in one span and its right one in the other
unfoldable pub both : List ℕ → (left right : ℕ) → Pair → Bool
both ws left right p = bit_at ws left p.left && bit_at ws right p.right

-- the pairs of the groundwork
abbrev pub listed : Groundwork → List Pair
listed g = take g.count g.pairs

-- one of the first n pairs splits r over the two spans
unfoldable pub paired : List Pair → (ws : List ℕ) (left right n r : ℕ) → Bool
paired pairs ws left right n r = any_below n (λ j. only (get_or pairs j no_pair).row (both ws left right (get_or pairs j no_pair)) r)

-- one of the pairs does so at one of the first n splits of the m places from i on
unfoldable pub parted : List Pair → (ws : List ℕ) (i m n r : ℕ) → Bool
parted pairs ws i m n r = any_below n (λ j. paired pairs ws (span_at i (suc j)) (span_at (i + suc j) (m - suc j)) (length pairs) r)

-- ---- reach

-- r reaches the row q, and q is in the span
unfoldable pub brought : (reach ws : List ℕ) (sp q r : ℕ) → Bool
brought reach ws sp q r = bit_at reach q r && bit_at ws sp q

-- r reaches one of the first n rows that is in the span
unfoldable pub carried_in : (reach ws : List ℕ) (sp n r : ℕ) → Bool
carried_in reach ws sp n r = any_below n (λ q. brought reach ws sp q r)

-- what reaches a row that reaches another reaches that one
abbrev pub Chained : List ℕ → ℕ → Type 0
Chained reach n = (p q r : ℕ) → p < n → q < n → bit_at reach p q ≡ true → bit_at reach q r ≡ true → bit_at reach p r ≡ true
