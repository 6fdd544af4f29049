-- The rows and the lengths in rising order: what one turn of a loop over them adds to a row's options, to a group, to the groups.
-- Assumes nothing.
use Prim.Native.Nat.{ℕ, zero, suc, ◌+◌, ◌≤◌, ◌<◌}
use mathlib.Core.Path.{◌≡◌, refl, ap, ◌∙◌}
use mathlib.Core.List.{List, ◌++◌}
use Rattle.std.specs.Prelude.{Some, None}
use native.Mathlib.Omega.{arith}
use native.Mathlib.Numerals.{add-one}
use native.Mathlib.Nat.{zero-add}
use lib.ListN.{length, set, length-append}
use Rattle.std.specs.List.{range_with_len, sum_by}
use Rattle.std.proofs.lemmas.List.Sums.{sum_by-cons}
use lib.Seq.{get_or-set_same, get_or-set_other}
use Rattle.paper.specs.Tests.{gather}
use Rattle.paper.specs.Rows.{Grammar}
use Rattle.paper.specs.Cuts.{own_opts, options, entry, group, groups}
use Rattle.paper.proofs.Gathered.{gather_suc, gather_rises}
use Rattle.paper.proofs.Encoding.{length_groups}
use Rattle.paper.proofs.Sound.{Sound}
use Rattle.paper.proofs.Obeys.{options_few, group_most, groups_most}
use Rattle.workspace.specs.Scan.{First, FirstOf}
use Rattle.workspace.proofs.Spans.{lt_or_le}
use Rattle.sheet_contents.specs.declared.Row.{Row}
use Rattle.sheet_contents.specs.Read.{as_row}
use Rattle.sheet.specs.declared.accepted.Sheet.{Sheet}
use Rattle.sheet.specs.Readers.{RowRead}
use Rattle.sheet.proofs.Rows.{rows_few, rows_all}
use Rattle.sheet.proofs.Soundness.{good_sound}
use Rattle.maker_options.specs.declared.plan.Plan.{Plan}
use Rattle.maker_options.specs.Giving.{from_below}
use Rattle.maker_options.specs.Prepared.{chosen, Offsets}
use Rattle.maker_options.specs.Planned.{grammar}
use Rattle.maker_options.proofs.Options.{below_rises, below_next, below_more, below_done}

-- ---- entries and groups

entry_more : (g : Grammar) (m r : ℕ) → length (gather 0 (r + 1) (entry g m)) ≡ length (gather 0 r (entry g m)) + length (entry g m r)
entry_more g m r = rw (add-one, gather_suc 0 r (entry g m), length-append, zero-add)

-- the entry of row r ends inside the group
entry_inside : (g : Grammar) (m r : ℕ) → r < length g.rows → length (gather 0 r (entry g m)) + length (entry g m r) ≤ length (group g m)
unfolding group
entry_inside g m r h = omega (arith, entry_more g m r, gather_rises 0 (r + 1) (length g.rows) (entry g m) (omega arith))

pub groups_none : (g : Grammar) → 0 ≡ length (groups g 0)
unfolding groups gather
groups_none g = refl

pub groups_more : (g : Grammar) (m : ℕ) → length (groups g (m + 1)) ≡ length (groups g m) + length (group g m)
groups_more g m = rw add-one (length_groups g m)

pub groups_inside : (g : Grammar) (m n : ℕ) → m ≤ n → length (groups g m) + length (group g m) ≤ length (groups g (n + 1))
unfolding groups
groups_inside g m n h = omega (arith, groups_more g m, gather_rises 0 (m + 1) (n + 1) (group g) (omega arith))

-- one group offset more
pub offset_more : (g : Grammar) (m : ℕ) (offsets : List ℕ) (total : ℕ) → m < length offsets → total ≡ length (groups g m) → Offsets g m offsets → Offsets g (m + 1) (set offsets m total)
offset_more g m offsets total h e x = record {
  each = λ k l.
      lt_or_le k m (λ u. get_or-set_other offsets m k total 0 (λ d. omega arith) ∙ x.each k u)
      (λ u. let d : k ≡ m = omega arith in rw d (get_or-set_same offsets m total 0 h ∙ e));
}

-- ---- the entries of a group, summed

gather_sum : (f : ℕ → List ℕ) (i n : ℕ) → sum_by (λ r. length (f r)) (range_with_len i n) ≡ length (gather i n f)
unfolding gather
gather_sum f i zero = refl
gather_sum f i (suc n) = sum_by-cons (λ r. length (f r)) i (range_with_len (i + 1) n) ∙ rw (length-append, ← gather_sum f (suc i) n, add-one)

pub entries_sum : (g : Grammar) (m n : ℕ) → n ≡ length g.rows → sum_by (λ r. length (entry g m r)) (range_with_len 0 n) ≡ length (group g m)
unfolding group
entries_sum g m n e = rw e (gather_sum (entry g m) 0 (length g.rows))

-- ---- an accepted sheet's rows, and a plan's

pub sheet_few : (sheet : Sheet) → sheet.rows.count ≤ 256
sheet_few sheet = rows_few sheet.good sheet.rows_at

module _ (p : Plan) where
  pub plan_rows : p.sheet.now.rows.count ≡ length (grammar p).rows
  plan_rows = rows_all p.sheet.now.rows_at

  pub plan_few : p.sheet.now.rows.count ≤ 256
  plan_few = sheet_few p.sheet.now

  sound : Sound (grammar p)
  sound = good_sound _ p.sheet.now.good (omega (arith, p.inside, p.sheet.now.rows_at.counts))

  pub options_bound : (m r : ℕ) → m ≤ p.n → length (options (grammar p) m r) ≤ 15104
  options_bound m r h = options_few _ sound m r (omega (arith, p.short))

  pub group_bound : (m : ℕ) → m ≤ p.n → length (group (grammar p) m) ≤ 30935040
  group_bound m h = group_most _ sound m (omega (arith, p.short))

  pub groups_bound : length (groups (grammar p) (p.n + 1)) ≤ 1887037440
  groups_bound = groups_most _ sound (p.n + 1) (omega (arith, p.short))

  pub entry_within : (m r : ℕ) → r < p.sheet.now.rows.count
      → length (gather 0 r (entry (grammar p) m)) + length (entry (grammar p) m r) ≤ length (group (grammar p) m)
  entry_within m r h = entry_inside _ m r (omega (arith, plan_rows))

  -- the rows that are met, at a length of at least 1
  module _ (m r : ℕ) (low : 1 ≤ m) (high : m ≤ p.n) (inside : r < p.sheet.now.rows.count) where
    rows_in : r < length (grammar p).rows
    rows_in = omega (arith, plan_rows)

    passed : (a b : ℕ) → First (chosen p.table.now r m) a p.sheet.now.rows.count b → from_below (grammar p) m r b ≡ from_below (grammar p) m r a
    passed a b h = below_next (grammar p) p.n p.table.now p.ready m r low high rows_in a b (rw plan_rows at h)

    all_rows : options (grammar p) m r ≡ from_below (grammar p) m r p.sheet.now.rows.count
    all_rows = below_done (grammar p) p.n p.table.now p.ready m r low high rows_in p.sheet.now.rows.count plan_rows

    -- from row a on, row q is met next
    pub met_turn : (a q : ℕ) (x : Row) → FirstOf (chosen p.table.now r m) a p.sheet.now.rows.count (Some q) → RowRead p.sheet.now.bytes.now q x
        → from_below (grammar p) m r (q + 1) ≡ from_below (grammar p) m r a ++ own_opts m q (as_row x)
    met_turn a q x h y =
        below_more (grammar p) p.n p.table.now p.ready m r low high rows_in q (omega (arith, h.0, plan_rows)) (h.1.hit h.0) ∙ rw (passed a q h.1, y.same)

    pub met_length : (a q : ℕ) (x : Row) → FirstOf (chosen p.table.now r m) a p.sheet.now.rows.count (Some q) → RowRead p.sheet.now.bytes.now q x
        → length (from_below (grammar p) m r (q + 1)) ≡ length (from_below (grammar p) m r a) + length (own_opts m q (as_row x))
    met_length a q x h y = ap length (met_turn a q x h y) ∙ length-append (from_below (grammar p) m r a) (own_opts m q (as_row x))

    -- from row a on, no row is met
    pub met_all : (a : ℕ) → FirstOf (chosen p.table.now r m) a p.sheet.now.rows.count None → options (grammar p) m r ≡ from_below (grammar p) m r a
    met_all a h = all_rows ∙ passed a p.sheet.now.rows.count h

    -- a row's own options are among the row's options
    pub met_inside : (a q : ℕ) (x : Row) → FirstOf (chosen p.table.now r m) a p.sheet.now.rows.count (Some q) → RowRead p.sheet.now.bytes.now q x
        → length (from_below (grammar p) m r a) + length (own_opts m q (as_row x)) ≤ length (options (grammar p) m r)
    met_inside a q x h y =
        omega (arith, met_length a q x h y, below_rises (grammar p) m r (q + 1) p.sheet.now.rows.count (omega (arith, h.0)), ap length all_rows)
