-- A cell from its steps, and the table from its cells.
-- Assumes nothing.
use Prim.Native.Nat.{ℕ, zero, suc, ◌+◌, ◌*◌, ◌-◌, ◌≤◌, ◌<◌}
use mathlib.Core.Path.{◌≡◌, sym, ◌∙◌, subst}
use mathlib.Core.Bool.{Bool, true, false, ◌&&◌, ◌||◌, and-false, true≢false}
use mathlib.Core.Logic.{◌⊎◌, inl, inr}
use mathlib.Core.List.{List}
use native.Mathlib.Omega.{arith}
use native.Mathlib.Decide.{dec_lt}
use native.Mathlib.Nat.{not-suc-le-zero}
use lib.Dec.{eqb}
use lib.ListN.{length, get_or-eq_default}
use Rattle.paper.specs.Rows.{row, no_row, Reach}
use Rattle.paper.specs.Tests.{any_below}
use Rattle.paper.specs.Decide.{Pattern, Test, reaches, some_in, own_row, level, accepts}
use Rattle.paper.specs.Sheet.{Sheet}
use Rattle.paper.proofs.Tests.{any_intro, and_intro, any_none, or_cases, or_right, or_assoc, same_test}
use Rattle.paper.proofs.Reaching.{reaches_from}
use Rattle.paper.proofs.Derivation.{accepts_level}
use Rattle.workspace.specs.Spans.{span_at}
use Rattle.workspace.specs.Bits.{bit_at, wiped}
use Rattle.workspace.proofs.Bits.{wiped_bit, wiped_apart}
use Rattle.workspace.proofs.Spans.{lt_or_le, span_inj}
use Rattle.groundwork.specs.declared.ground.Groundwork.{Groundwork}
use Rattle.groundwork.specs.Ground.{Ground}
use Rattle.chart_cells.specs.Steps.{Kept, Adds, listed, parted, brought, carried_in}
use Rattle.chart.specs.Cells.{ranged, fitting, passing, Cell, Filled}
use Rattle.chart_cells.proofs.Adding.{kept_then}
use Rattle.chart_cells.proofs.Splitting.{any_same}
use Rattle.chart.proofs.Owning.{own_parts, splits_found}

module _ (S : Sheet) (pat : Pattern) where
  no_own : (acc : Test) (m i q : ℕ) → own_row S.grammar pat acc q no_row m i ≡ false
  unfolding own_row some_in
  no_own acc m i q = rw (any_none (λ k. pat i (1 + k))) (and-false (eqb m 1))

  -- a row that does something by itself is in the table
  own_below : (acc : Test) (m i q : ℕ) → own_row S.grammar pat acc q (row S.grammar q) m i ≡ true → q < length S.grammar.rows
  unfolding row
  own_below acc m i q e = lt_or_le q (length S.grammar.rows) (λ h. h) (λ h. absurd (true≢false (sym (rw (get_or-eq_default S.grammar.rows no_row h) at e) ∙ no_own acc m i q)))

module _ (S : Sheet) (g : Groundwork) (ground : Ground S g) (few : length S.grammar.rows ≤ 256) (pat : Pattern) where
  -- the rows that do something by themselves, carried back: the rows that derive the span
  carried_level : (acc : Test) (ws : List ℕ) (sp m i : ℕ) → ((q : ℕ) → q < 256 → bit_at ws sp q ≡ own_row S.grammar pat acc q (row S.grammar q) (suc m) i)
      → (r : ℕ) → r < 256 → (bit_at ws sp r || carried_in g.reach.now ws sp (length S.grammar.rows) r) ≡ level S.grammar pat acc (suc m) i r
  unfolding level carried_in brought
  carried_level acc ws sp m i own r h =
      same_test _ _
      (λ e. go (or_cases (bit_at ws sp r) (carried_in g.reach.now ws sp (length S.grammar.rows) r) e))
      (λ e. or_right (bit_at ws sp r) (carried_in g.reach.now ws sp (length S.grammar.rows) r) (same ∙ e))
    where
      f : ℕ → Bool
      f q = reaches S.grammar r q && own_row S.grammar pat acc q (row S.grammar q) (suc m) i

      same : carried_in g.reach.now ws sp (length S.grammar.rows) r ≡ any_below (length S.grammar.rows) f
      same = any_same (length S.grammar.rows) (λ q. bit_at g.reach.now q r && bit_at ws sp q) f (λ q l. rw (ground.reached q r l h, own q (omega arith)))

      go : (bit_at ws sp r ≡ true) ⊎ (carried_in g.reach.now ws sp (length S.grammar.rows) r ≡ true) → any_below (length S.grammar.rows) f ≡ true
      go (inl p) =
          let o : own_row S.grammar pat acc r (row S.grammar r) (suc m) i ≡ true = sym (own r h) ∙ p in
          let l = own_below S pat acc (suc m) i r o in
          any_intro (length S.grammar.rows) f r l (and_intro (reaches_from S.grammar l Reach.here) o)
      go (inr p) = sym same ∙ p

  -- the steps of a cell, one after another
  pub cell_done : (m i : ℕ) (old w1 w2 w3 new : List ℕ) → 0 < m → 4 * span_at i m + 4 ≤ length old
      → ((k j r : ℕ) → k < m → j + k ≤ i + m → r < 256 → bit_at old (span_at j k) r ≡ accepts S.grammar pat k j r)
      → Adds (span_at i m) (passing S.grammar (ranged pat m i)) (wiped old (span_at i m)) w1
      → Adds (span_at i m) (passing S.grammar (fitting S.grammar.text pat m i)) w1 w2
      → Adds (span_at i m) (parted (listed g) w2 i m (m - 1)) w2 w3
      → Adds (span_at i m) (carried_in g.reach.now w3 (span_at i m) (length S.grammar.rows)) w3 new
      → Cell (accepts S.grammar pat) m i old new
  unfolding passing
  cell_done zero i old w1 w2 w3 new h room shorter a b c d = absurd (not-suc-le-zero h)
  cell_done (suc n) i old w1 w2 w3 new h room shorter a b c d = record { kept = kept_then sp old w3 new two d.kept; bits = λ r k. d.bits r k ∙ carried_level acc w3 sp n i own r k ∙ sym (accepts_level S.grammar pat (suc n) i r) }
    where
      sp : ℕ
      sp = span_at i (suc n)

      acc : Test
      acc = accepts S.grammar pat

      one : Kept sp old w2
      one = kept_then sp old w1 w2 (kept_then sp old (wiped old sp) w1 (wiped_apart old sp) a.kept) b.kept

      two : Kept sp old w3
      two = kept_then sp old w2 w3 one c.kept

      before : (k j r : ℕ) → k < suc n → j + k ≤ i + suc n → r < 256 → bit_at w2 (span_at j k) r ≡ acc k j r
      before k j r x y z = one (span_at j k) r (λ e. let v = span_inj j k i (suc n) e in omega (arith, v.1)) ∙ shorter k j r x y z

      own : (q : ℕ) → q < 256 → bit_at w3 sp q ≡ own_row S.grammar pat acc q (row S.grammar q) (suc n) i
      own q k =
          c.bits q k ∙ rw (b.bits q k, a.bits q k, wiped_bit old sp room q, splits_found S g ground few pat w2 (suc n) i before q k)
          (or_assoc (ranged pat (suc n) i (row S.grammar q)) _ _ ∙ own_parts S.grammar pat acc (suc n) i q (row S.grammar q))

-- ---- the table

module _ (acc : Test) (n : ℕ) where
  -- the span of M places from I on
  pub filled_more : (M I : ℕ) (old new : List ℕ) → Filled acc n M I old → Cell acc M I old new → Filled acc n M (I + 1) new
  filled_more M I old new x c = record {
    shorter = λ m i r h k l. c.kept (span_at i m) r (λ e. let v = span_inj i m I M e in omega (arith, v.1)) ∙ x.shorter m i r h k l;
    here = λ i r h k l. go i r k l (dec_lt i I) h;
  }
    where
      go : (i r : ℕ) → i + M ≤ n → r < 256 → Dec (i < I) → i < I + 1 → bit_at new (span_at i M) r ≡ acc M i r
      go i r k l (yes p) h = c.kept (span_at i M) r (λ e. let v = span_inj i M I M e in omega (arith, v.0)) ∙ x.here i r p k l
      go i r k l (no p) h = subst (λ j. bit_at new (span_at j M) r ≡ acc M j r) same (c.bits r l)
        where
          same : I ≡ i
          same = omega arith

  -- every span of M places
  pub filled_level : (M I : ℕ) (ws : List ℕ) → n < I + M → Filled acc n M I ws → Filled acc n (M + 1) 0 ws
  filled_level M I ws h x = record {
    shorter = λ m i r k l u. go m i r k l u (dec_lt m M);
    here = λ i r k l u. absurd (not-suc-le-zero k);
  }
    where
      go : (m i r : ℕ) → m < M + 1 → i + m ≤ n → r < 256 → Dec (m < M) → bit_at ws (span_at i m) r ≡ acc m i r
      go m i r k l u (yes p) = x.shorter m i r p l u
      go m i r k l u (no p) = subst (λ z. bit_at ws (span_at i z) r ≡ acc z i r) same (x.here i r (omega arith) (omega arith) u)
        where
          same : M ≡ m
          same = omega arith
