-- What a row does by itself, by its kind, and that a cell's steps find it.
-- Assumes nothing.
use Prim.Native.Nat.{ℕ, suc, ◌+◌, ◌-◌, ◌≤◌, ◌<◌}
use mathlib.Core.Path.{◌≡◌, refl, sym, ap, ◌∙◌, subst}
use mathlib.Core.Bool.{Bool, true, false, ◌&&◌, ◌||◌, true≢false}
use mathlib.Core.Logic.{◌≢◌}
use mathlib.Core.List.{List}
use native.Mathlib.Omega.{arith}
use native.Mathlib.Decide.{ℕ_discrete, dec_lt}
use native.Mathlib.Nat.{add-sub_of_le}
use lib.Dec.{eqb, leb, ltb}
use lib.ListN.{length, get_or, drop, get_or-eq_default}
use lib.Seq.{get_or-drop}
use borrow.Author.Tests.{eqb-true, leb-true, eq-eqb, ne_eqb, le-leb, lt-leb, lt-ltb, le-ltb}
use Rattle.std.specs.Prelude.{Option, Some, None}
use Rattle.paper.specs.Tests.{any_below, all_below}
use Rattle.paper.specs.Rows.{Row, Empty, Range, Text, Alt, Seq, Star, Grammar, row, stretch, no_row}
use Rattle.paper.specs.Compare.{same_byte}
use Rattle.paper.specs.Decide.{Pattern, Test, fits, some_in, split, own_row, accepts}
use Rattle.paper.specs.Sheet.{Sheet, letter}
use Rattle.paper.specs.Opens.{allows, pattern}
use Rattle.paper.proofs.Tests.{any_intro, any_elim, all_intro, all_elim, and_intro, and_left, and_right, or_false, same_test}
use Rattle.paper.proofs.Derivation.{at_fits, fits_at}
use Rattle.workspace.specs.Spans.{span_at}
use Rattle.workspace.specs.Bits.{bit, bit_at}
use Rattle.groundwork.specs.declared.ground.Groundwork.{Groundwork}
use Rattle.groundwork.specs.Laying.{some_letter, no_pair}
use Rattle.groundwork.specs.Ground.{Ground, Splits}
use Rattle.workspace.specs.Places.{place_of, places_in}
use Rattle.workspace.proofs.Places.{places_at}
use Rattle.sheet_contents.specs.Ranges.{holds_byte}
use Rattle.chart_cells.specs.Steps.{listed, only, both, paired, parted}
use Rattle.chart.specs.Cells.{holding, ranged, fitting, splitting, among, passing}
use Rattle.chart_cells.proofs.Splitting.{any_same}
use Rattle.chart.proofs.Pairing.{accepted_below, pair_read, pair_found}

-- the steps of a cell together
pub own_parts : (g : Grammar) (pat : Pattern) (acc : Test) (m i q : ℕ) (x : Row)
    → (ranged pat m i x || (fitting g.text pat m i x || splitting acc m i q x)) ≡ own_row g pat acc q x m i
unfolding ranged fitting splitting own_row
own_parts g pat acc m i q Empty = refl
own_parts g pat acc m i q (Range lo hi) = or_false (eqb m 1 && some_in pat i lo hi)
own_parts g pat acc m i q (Text off len) = or_false (eqb len m && fits pat i (stretch 0 g.text off len))
own_parts g pat acc m i q (Alt a b) = refl
own_parts g pat acc m i q (Seq a b) = refl
own_parts g pat acc m i q (Star a) = refl

-- ---- the rows below n that pass

module _ (g : Grammar) (f : Row → Bool) where
  -- none of the first n passes
  pub among_no : (n : ℕ) → ((r : ℕ) → r < n → f (row g r) ≡ false) → (r : ℕ) → among g f n r ≡ false
  unfolding among
  among_no n h r = go (dec_lt r n)
    where
      go : Dec (r < n) → (ltb r n && f (row g r)) ≡ false
      go (yes l) = rw (lt-ltb r n l) (h r l)
      go (no l) = rw (le-ltb r n (omega arith))

  -- every row of the table has had its turn
  pub among_all : (r : ℕ) → f no_row ≡ false → among g f (length g.rows) r ≡ passing g f r
  unfolding among passing row
  among_all r e = go (dec_lt r (length g.rows))
    where
      go : Dec (r < length g.rows) → (ltb r (length g.rows) && f (get_or g.rows r no_row)) ≡ f (get_or g.rows r no_row)
      go (yes h) = rw (lt-ltb r (length g.rows) h)
      go (no h) = rw (le-ltb r (length g.rows) (omega arith), get_or-eq_default g.rows no_row {n = r} (omega arith)) (sym e)

-- ---- places

module _ (S : Sheet) (places : List (Option ℕ)) (i : ℕ) where
  pub known_place : (x : ℕ) → get_or places i None ≡ Some x → (b : ℕ) → pattern S (places_in places) i b ≡ same_byte b x
  unfolding pattern allows place_of
  known_place x e b = rw (places_at places i, e)

  pub unknown_place : get_or places i None ≡ None → (b : ℕ) → pattern S (places_in places) i b ≡ letter S b
  unfolding pattern allows place_of
  unknown_place e b = rw (places_at places i, e)

-- ---- ranges

range_in : (pat : Pattern) (i lo hi x : ℕ) → ((b : ℕ) → pat i b ≡ eqb b x) → some_in pat i lo hi ≡ (leb lo x && leb x hi)
unfolding some_in
range_in pat i lo hi x h = same_test _ _ there back
  where
    there : any_below (suc hi - lo) (λ k. pat i (lo + k)) ≡ true → (leb lo x && leb x hi) ≡ true
    there e =
        let z = any_elim (suc hi - lo) (λ k. pat i (lo + k)) e in
        let l : z.0 < suc hi - lo = z.1 in
        let s : lo + z.0 ≡ x = eqb-true (lo + z.0) x (sym (h (lo + z.0)) ∙ z.2) in
        and_intro (le-leb lo x (omega arith)) (le-leb x hi (omega arith))

    back : (leb lo x && leb x hi) ≡ true → any_below (suc hi - lo) (λ k. pat i (lo + k)) ≡ true
    back e =
        let a : lo ≤ x = leb-true lo x (and_left (leb lo x) _ e) in
        let b : x ≤ hi = leb-true x hi (and_right (leb lo x) _ e) in
        any_intro (suc hi - lo) (λ k. pat i (lo + k)) (x - lo) (omega arith) (rw (add-sub_of_le a, h x) (eq-eqb x x refl))

module _ (S : Sheet) (places : List (Option ℕ)) (i : ℕ) where
  pub known_range : (b : ℕ) → get_or places i None ≡ Some b → (x : Row) → holding b x ≡ ranged (pattern S (places_in places)) 1 i x
  unfolding holding holds_byte ranged
  known_range b e Empty = refl
  known_range b e (Range lo hi) = sym (range_in (pattern S (places_in places)) i lo hi b (known_place S places i b e))
  known_range b e (Text off len) = refl
  known_range b e (Alt l r) = refl
  known_range b e (Seq l r) = refl
  known_range b e (Star l) = refl

  unknown_range : get_or places i None ≡ None → (x : Row) → some_letter S x ≡ ranged (pattern S (places_in places)) 1 i x
  unfolding some_letter ranged some_in
  unknown_range e Empty = refl
  unknown_range e (Range lo hi) = any_same (suc hi - lo) (λ k. letter S (lo + k)) (λ k. pattern S (places_in places) i (lo + k)) (λ k m. sym (unknown_place S places i e (lo + k)))
  unknown_range e (Text off len) = refl
  unknown_range e (Alt a b) = refl
  unknown_range e (Seq a b) = refl
  unknown_range e (Star a) = refl

  pub letter_ranges : (g : Groundwork) → Ground S g → get_or places i None ≡ None → (r : ℕ) → r < 256 → bit_at g.ranges 0 r ≡ passing S.grammar (ranged (pattern S (places_in places)) 1 i) r
  unfolding passing
  letter_ranges g ground l r m = ground.ranges r m ∙ unknown_range l (row S.grammar r)

-- a range that holds a letter x holds some letter
pub letter_held : (S : Sheet) (x : ℕ) → letter S x ≡ true → (y : Row) → holding x y ≡ true → some_letter S y ≡ true
unfolding holding holds_byte some_letter
letter_held S x is Empty e = e
letter_held S x is (Range lo hi) e =
    let a : lo ≤ x = leb-true lo x (and_left (leb lo x) _ e) in
    let b : x ≤ hi = leb-true x hi (and_right (leb lo x) _ e) in
    any_intro (suc hi - lo) (λ k. letter S (lo + k)) (x - lo) (omega arith) (rw (add-sub_of_le a) is)
letter_held S x is (Text off len) e = e
letter_held S x is (Alt a b) e = e
letter_held S x is (Seq a b) e = e
letter_held S x is (Star a) e = e

-- a range takes one byte
pub long_range : (g : Grammar) (pat : Pattern) (m i r : ℕ) → m ≢ 1 → passing g (ranged pat m i) r ≡ false
unfolding passing ranged
long_range g pat m i r ne = go (row g r)
  where
    go : (x : Row) → ranged pat m i x ≡ false
    go Empty = refl
    go (Range lo hi) = rw (ne_eqb m 1 ne)
    go (Text off len) = refl
    go (Alt a b) = refl
    go (Seq a b) = refl
    go (Star a) = refl

-- no range: no byte
pub no_holds : (x : ℕ) → holding x no_row ≡ false
unfolding holding holds_byte
no_holds x = go x (leb 1 x) refl
  where
    go : (x : ℕ) (b : Bool) → leb 1 x ≡ b → (leb 1 x && leb x 0) ≡ false
    go x false e = rw e
    go x true e = rw e (lt-leb x 0 (omega (arith, leb-true 1 x e)))

-- ---- texts

-- a byte of a word that is laid over the places from i on
held : (S : Sheet) (places : List (Option ℕ)) (i k b : ℕ) → allows S (place_of (get_or (drop i places) k None)) b ≡ pattern S (places_in places) (i + k) b
unfolding pattern
held S places i k b = rw (places_at places (i + k), get_or-drop i places k None)

-- places can hold bytes where these fit, one by one
pub fits_all : (S : Sheet) (places : List (Option ℕ)) (i : ℕ) (w : List ℕ) → all_below (length w) (λ k. allows S (place_of (get_or (drop i places) k None)) (get_or w k 0)) ≡ fits (pattern S (places_in places)) i w
fits_all S places i w =
    same_test _ _
    (λ e. at_fits (pattern S (places_in places)) i w (λ p l. sym (held S places i p (get_or w p 0)) ∙ all_elim (length w) _ e p l))
    (λ e. all_intro (length w) _ (λ p l. held S places i p (get_or w p 0) ∙ fits_at (pattern S (places_in places)) i w e p l))

-- no text row of m bytes
pub no_text : (S : Sheet) (g : Groundwork) → Ground S g → (pat : Pattern) (m i : ℕ) → m ≤ 60 → bit g.lengths m ≢ 1 → (r : ℕ)
    → passing S.grammar (fitting S.grammar.text pat m i) r ≡ false
unfolding passing fitting
no_text S g ground pat m i h ne r = go (row S.grammar r) refl
  where
    go : (x : Row) → row S.grammar r ≡ x → fitting S.grammar.text pat m i x ≡ false
    go Empty p = refl
    go (Range lo hi) p = refl
    go (Text off len) p = by (ℕ_discrete len m)
      where
        by : Dec (len ≡ m) → (eqb len m && fits pat i (stretch 0 S.grammar.text off len)) ≡ false
        by (yes e) = absurd (ne (ground.lengths r off m (p ∙ ap (Text off) e) h))
        by (no e) = rw (ne_eqb len m e)
    go (Alt a b) p = refl
    go (Seq a b) p = refl
    go (Star a) p = refl

-- ---- splits

split_of : (acc : Test) (m i : ℕ) {q : ℕ} {x : Row} {a b : ℕ} → Splits q x a b → split acc a b m i ≡ true → splitting acc m i q x ≡ true
unfolding splitting
split_of acc m i Splits.by_seq e = e
split_of acc m i Splits.by_star e = e

module _ (S : Sheet) (g : Groundwork) (ground : Ground S g) (few : length S.grammar.rows ≤ 256) (pat : Pattern) (ws : List ℕ) (m i : ℕ)
    (shorter : (k j r : ℕ) → k < m → j + k ≤ i + m → r < 256 → bit_at ws (span_at j k) r ≡ accepts S.grammar pat k j r) where
  sound : (q : ℕ) → q < 256 → parted (listed g) ws i m (m - 1) q ≡ true → splitting (accepts S.grammar pat) m i q (row S.grammar q) ≡ true
  unfolding parted paired only both split
  sound q hq e =
      let acc = accepts S.grammar pat in
      let z = any_elim (m - 1) (λ j. paired (listed g) ws (span_at i (suc j)) (span_at (i + suc j) (m - suc j)) (length (listed g)) q) e in
      let j = z.0 in
      let l : z.0 < m - 1 = z.1 in
      let y =
      any_elim (length (listed g))
      (λ p. only (get_or (listed g) p no_pair).row (both ws (span_at i (suc j)) (span_at (i + suc j) (m - suc j)) (get_or (listed g) p no_pair)) q) z.2 in
      let x = get_or (listed g) y.0 no_pair in
      let w = pair_read S g ground y.0 y.1 in
      let t = and_right (eqb q x.row) (bit_at ws (span_at i (suc j)) x.left && bit_at ws (span_at (i + suc j) (m - suc j)) x.right) y.2 in
      let same : q ≡ x.row = eqb-true q x.row (and_left (eqb q x.row) _ y.2) in
      let left : acc (suc j) i x.left ≡ true = sym (shorter (suc j) i x.left (omega arith) (omega arith) w.left) ∙ and_left (bit_at ws (span_at i (suc j)) x.left) _ t in
      let right : acc (m - suc j) (i + suc j) x.right ≡ true =
      sym (shorter (m - suc j) (i + suc j) x.right (omega arith) (omega arith) w.right) ∙ and_right (bit_at ws (span_at i (suc j)) x.left) _ t in
      split_of acc m i (subst (λ v. Splits v (row S.grammar v) x.left x.right) (sym same) w.splits)
      (any_intro (m - 1) (λ k. acc (suc k) i x.left && acc (m - suc k) (i + suc k) x.right) j l (and_intro left right))

  from_split : (q a b : ℕ) → q < 256 → Splits q (row S.grammar q) a b → split (accepts S.grammar pat) a b m i ≡ true → parted (listed g) ws i m (m - 1) q ≡ true
  unfolding parted paired only both split
  from_split q a b hq s e =
      let acc = accepts S.grammar pat in
      let z = any_elim (m - 1) (λ k. acc (suc k) i a && acc (m - suc k) (i + suc k) b) e in
      let j = z.0 in
      let l : z.0 < m - 1 = z.1 in
      let left = and_left (acc (suc j) i a) (acc (m - suc j) (i + suc j) b) z.2 in
      let right = and_right (acc (suc j) i a) (acc (m - suc j) (i + suc j) b) z.2 in
      let ha : a < 256 = omega (arith, accepted_below S.grammar pat (suc j) i a left) in
      let hb : b < 256 = omega (arith, accepted_below S.grammar pat (m - suc j) (i + suc j) b right) in
      let w = pair_found S g ground q a b s in
      let in_left : bit_at ws (span_at i (suc j)) a ≡ true = shorter (suc j) i a (omega arith) (omega arith) ha ∙ left in
      let in_right : bit_at ws (span_at (i + suc j) (m - suc j)) b ≡ true = shorter (m - suc j) (i + suc j) b (omega arith) (omega arith) hb ∙ right in
      any_intro (m - 1) (λ k. paired (listed g) ws (span_at i (suc k)) (span_at (i + suc k) (m - suc k)) (length (listed g)) q) j l
      (any_intro (length (listed g))
      (λ p. only (get_or (listed g) p no_pair).row (both ws (span_at i (suc j)) (span_at (i + suc j) (m - suc j)) (get_or (listed g) p no_pair)) q) w.0 w.1
      (rw w.2 (and_intro (eq-eqb q q refl) (and_intro in_left in_right))))

  pub splits_found : (q : ℕ) → q < 256 → parted (listed g) ws i m (m - 1) q ≡ splitting (accepts S.grammar pat) m i q (row S.grammar q)
  unfolding splitting
  splits_found q hq = same_test _ _ (sound q hq) (go (row S.grammar q) refl)
    where
      go : (x : Row) → row S.grammar q ≡ x → splitting (accepts S.grammar pat) m i q x ≡ true → parted (listed g) ws i m (m - 1) q ≡ true
      go Empty p e = absurd (true≢false (sym e))
      go (Range lo hi) p e = absurd (true≢false (sym e))
      go (Text off len) p e = absurd (true≢false (sym e))
      go (Alt a b) p e = absurd (true≢false (sym e))
      go (Seq a b) p e = from_split q a b hq (subst (λ x. Splits q x a b) (sym p) Splits.by_seq) e
      go (Star a) p e = from_split q a q hq (subst (λ x. Splits q x a q) (sym p) Splits.by_star) e
