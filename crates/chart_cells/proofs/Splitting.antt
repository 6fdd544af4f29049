-- The loops over the pairs and over the splits, a turn each.
-- Assumes nothing.
use Prim.Native.Nat.{ℕ, zero, suc, ◌+◌, ◌-◌, ◌≤◌, ◌<◌}
use mathlib.Core.Path.{◌≡◌, sym, ap, ◌∙◌, subst}
use mathlib.Core.Logic.{◌≢◌}
use mathlib.Core.Bool.{Bool, true, false, ◌||◌, or_comm, and-false}
use mathlib.Core.List.{List}
use native.Mathlib.Omega.{arith}
use native.Mathlib.Numerals.{add-one}
use native.Mathlib.Nat.{not-suc-le-zero}
use lib.ListN.{length, get_or}
use Rattle.paper.specs.Tests.{any_below}
use Rattle.paper.proofs.Tests.{any_suc, any_none, any_intro, any_elim, same_test}
use Rattle.workspace.specs.Spans.{tri, span_at}
use Rattle.workspace.specs.Bits.{bit_at, none_at}
use Rattle.workspace.proofs.Bits.{none_bit}
use Rattle.workspace.proofs.Spans.{span_inj}
use Rattle.groundwork.specs.declared.splits.Pair.{Pair}
use Rattle.groundwork.specs.Laying.{no_pair}
use Rattle.chart_cells.specs.Steps.{Kept, Adds, only, both, paired, parted}
use Rattle.chart_cells.proofs.Adding.{only_off, adds_none, adds_then}

-- one number more, at the end
pub any_more : (n : ℕ) (f : ℕ → Bool) → (any_below n f || f n) ≡ any_below (n + 1) f
any_more n f = rw (add-one n, any_suc n f) (or_comm (any_below n f) (f n))

-- tests that agree below n
pub any_same : (n : ℕ) (f h : ℕ → Bool) → ((k : ℕ) → k < n → f k ≡ h k) → any_below n f ≡ any_below n h
any_same n f h e =
    same_test _ _
    (λ p. let z = any_elim n f p in any_intro n h z.0 z.1 (sym (e z.0 z.1) ∙ z.2))
    (λ p. let z = any_elim n h p in any_intro n f z.0 z.1 (e z.0 z.1 ∙ z.2))

-- tests that all fail
pub any_fails : (n : ℕ) (f : ℕ → Bool) → ((k : ℕ) → k < n → f k ≡ false) → any_below n f ≡ false
any_fails zero f h = any_none f
any_fails (suc n) f h = rw (any_suc n f, h n (omega arith)) (any_fails n f (λ k l. h k (omega arith)))

-- ---- the pairs at one split

module _ (ps : List Pair) (left right : ℕ) where
  -- spans that are kept give the same
  pub both_kept : (sp : ℕ) (old now : List ℕ) → Kept sp old now → left ≢ sp → right ≢ sp → (p : Pair) → both now left right p ≡ both old left right p
  unfolding both
  both_kept sp old now k l r p = rw (k left p.left l, k right p.right r)

  pub paired_kept : (sp : ℕ) (old now : List ℕ) → Kept sp old now → left ≢ sp → right ≢ sp → (n r : ℕ) → paired ps now left right n r ≡ paired ps old left right n r
  unfolding paired
  paired_kept sp old now k l r n q =
      any_same n _ _ (λ j h. ap (λ b. only (get_or ps j no_pair).row b q) (both_kept sp old now k l r (get_or ps j no_pair)))

  pub paired_none : (ws : List ℕ) (r : ℕ) → paired ps ws left right 0 r ≡ false
  unfolding paired
  paired_none ws r = any_none _

  pub paired_more : (ws : List ℕ) (j r : ℕ) → (paired ps ws left right j r || only (get_or ps j no_pair).row (both ws left right (get_or ps j no_pair)) r) ≡ paired ps ws left right (j + 1) r
  unfolding paired
  paired_more ws j r = any_more j (λ p. only (get_or ps p no_pair).row (both ws left right (get_or ps p no_pair)) r)

  -- a turn
  pub pairs_turn : (sp j : ℕ) (old now next : List ℕ) → left ≢ sp → right ≢ sp → Adds sp (paired ps old left right j) old now
      → (on : Bool) → on ≡ both now left right (get_or ps j no_pair) → Adds sp (only (get_or ps j no_pair).row on) now next
      → Adds sp (paired ps old left right (j + 1)) old next
  pairs_turn sp j old now next l r x on e y =
      let x0 = get_or ps j no_pair in
      adds_then sp (paired ps old left right j) (only x0.row on) (paired ps old left right (j + 1)) old now next x y
      (λ q h. ap (λ b. paired ps old left right j q || only x0.row b q) (e ∙ both_kept sp old now x.kept l r x0) ∙ paired_more old j q)

  -- a span with no row: no pair
  none_left : (ws : List ℕ) → ((r : ℕ) → bit_at ws left r ≡ false) → (n r : ℕ) → paired ps ws left right n r ≡ false
  unfolding paired both
  none_left ws h n r = any_fails n _ (λ j l. rw (h (get_or ps j no_pair).left) (only_off _ r))

  none_right : (ws : List ℕ) → ((r : ℕ) → bit_at ws right r ≡ false) → (n r : ℕ) → paired ps ws left right n r ≡ false
  unfolding paired both
  none_right ws h n r = any_fails n _ (λ j l. rw (h (get_or ps j no_pair).right, and-false (bit_at ws left (get_or ps j no_pair).left)) (only_off _ r))

  pub over_left : (sp n : ℕ) (ws : List ℕ) → none_at ws left ≡ true → Adds sp (paired ps ws left right n) ws ws
  over_left sp n ws e = adds_none sp (paired ps ws left right n) ws (none_left ws (none_bit ws left e) n)

  pub over_right : (sp n : ℕ) (ws : List ℕ) → none_at ws right ≡ true → Adds sp (paired ps ws left right n) ws ws
  over_right sp n ws e = adds_none sp (paired ps ws left right n) ws (none_right ws (none_bit ws right e) n)

-- ---- the splits of a span

-- the left span that ends at e, and the next one; the right spans side by side
pub left_next : (i e : ℕ) → i ≤ e → span_at i (e - i) + (e + 1) ≡ span_at i (e + 1 - i)
unfolding span_at tri
left_next i e h = rw (ends, next) (omega arith)
  where
    ends : i + (e - i) ≡ e
    ends = omega arith

    next : i + (e + 1 - i) ≡ suc e
    next = omega arith

pub span_from : (i m : ℕ) → i ≤ span_at i m
unfolding span_at
span_from i m = omega arith

pub right_is : (i m k : ℕ) → k ≤ m → span_at i m + k ≡ span_at (i + k) (m - k)
unfolding span_at
right_is i m k h = rw (same h) (omega arith)
  where
    same : k ≤ m → i + k + (m - k) ≡ i + m
    same h = omega arith

pub left_apart : (i m k : ℕ) → k < m → span_at i k ≢ span_at i m
left_apart i m k h e = let z = span_inj i k i m e in omega (arith, z.1)

right_apart : (i m k : ℕ) → 0 < k → span_at i m + k ≢ span_at i m
right_apart i m k h e = omega arith

module _ (ps : List Pair) (i m : ℕ) where
  pub parted_none : (ws : List ℕ) (r : ℕ) → parted ps ws i m 0 r ≡ false
  unfolding parted
  parted_none ws r = any_none _

  parted_more : (ws : List ℕ) (j r : ℕ) → (parted ps ws i m j r || paired ps ws (span_at i (suc j)) (span_at (i + suc j) (m - suc j)) (length ps) r) ≡ parted ps ws i m (j + 1) r
  unfolding parted
  parted_more ws j r = any_more j (λ k. paired ps ws (span_at i (suc k)) (span_at (i + suc k) (m - suc k)) (length ps) r)

  -- a turn, the numbers of the spans being known
  turn_at : (k : ℕ) (old now next : List ℕ) → 0 < k → k < m → Adds (span_at i m) (parted ps old i m (k - 1)) old now
      → Adds (span_at i m) (paired ps now (span_at i k) (span_at i m + k) (length ps)) now next
      → Adds (span_at i m) (parted ps old i m (k + 1 - 1)) old next
  turn_at zero old now next h l x y = absurd (not-suc-le-zero h)
  turn_at (suc j) old now next h l x y =
      subst (λ n. Adds (span_at i m) (parted ps old i m n) old next) (omega arith)
      (adds_then (span_at i m) (parted ps old i m j) (paired ps now (span_at i (suc j)) (span_at i m + suc j) (length ps)) (parted ps old i m (j + 1)) old now next
      (subst (λ n. Adds (span_at i m) (parted ps old i m n) old now) (omega arith) x) y
      (λ r z. ap (λ b. parted ps old i m j r || b) (same r) ∙ parted_more old j r))
    where
      same : (r : ℕ) → paired ps now (span_at i (suc j)) (span_at i m + suc j) (length ps) r ≡ paired ps old (span_at i (suc j)) (span_at (i + suc j) (m - suc j)) (length ps) r
      same r =
          paired_kept ps (span_at i (suc j)) (span_at i m + suc j) (span_at i m) old now x.kept (left_apart i m (suc j) l) (right_apart i m (suc j) h) (length ps) r
          ∙ ap (λ s. paired ps old (span_at i (suc j)) s (length ps) r) (right_is i m (suc j) (omega arith))

  pub split_turn : (sp left right e : ℕ) (old now next : List ℕ) → sp ≡ span_at i m → left ≡ span_at i (e - i) → right ≡ sp + (e - i) → i < e → e < i + m
      → Adds sp (parted ps old i m (e - i - 1)) old now → Adds sp (paired ps now left right (length ps)) now next → Adds sp (parted ps old i m (e + 1 - i - 1)) old next
  split_turn sp left right e old now next p q t h l x y =
      let n : e - i + 1 - 1 ≡ e + 1 - i - 1 = omega arith in
      subst (λ s. Adds s (parted ps old i m (e + 1 - i - 1)) old next) (sym p)
      (rw (sym n)
      (turn_at (e - i) old now next (omega arith) (omega arith)
      (subst (λ s. Adds s (parted ps old i m (e - i - 1)) old now) p x)
      (subst (λ s. Adds s (paired ps now (span_at i (e - i)) (s + (e - i)) (length ps)) now next) p
      (subst (λ v. Adds sp (paired ps now (span_at i (e - i)) v (length ps)) now next) t
      (subst (λ u. Adds sp (paired ps now u right (length ps)) now next) q y)))))

  -- no pairs: no splits
  pub no_pairs : (sp : ℕ) (ws : List ℕ) → length ps ≡ 0 → (n : ℕ) → Adds sp (parted ps ws i m n) ws ws
  unfolding parted
  no_pairs sp ws e n =
      adds_none sp (parted ps ws i m n) ws
      (λ r. any_fails n _ (λ j l. rw e (paired_none ps (span_at i (suc j)) (span_at (i + suc j) (m - suc j)) ws r)))
