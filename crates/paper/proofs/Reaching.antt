-- The tests `nullable`, `carried` and `reaches` say what they should: a row derives the empty word; steps that keep the length lead to a row.
-- Assumes nothing.
use Prim.Native.Nat.{ℕ, zero, suc, ◌≤◌, ◌<◌}
use mathlib.Core.Path.{◌≡◌, refl, sym, ap, ◌∙◌, subst}
use mathlib.Core.Bool.{Bool, true, ◌&&◌, ◌||◌, true≢false}
use mathlib.Core.Logic.{◌↔◌, ◌⊎◌, inl, inr}
use mathlib.Core.List.{List, [], ◌∷◌, ◌++◌, append-nil}
use native.Mathlib.Omega.{arith}
use native.Mathlib.Nat.{lt_of_not-le}
use lib.Dec.{eqb}
use lib.ListN.{length, get_or-eq_default}
use Rattle.paper.specs.Tests.{any_below}
use Rattle.paper.proofs.Tests.{any_intro, any_elim, and_intro, and_left, and_right, or_left, or_right, or_cases, same_test, eqb_same, same_eqb}
use Rattle.paper.proofs.Closure.{Monotone, closure_closed, closure_least}
use Rattle.paper.specs.Rows.{Row, Empty, Range, Text, Alt, Seq, Star, Grammar, row, stretch, Derives, Keeps, Reach}
use Rattle.paper.proofs.Spelling.{Spells, spelled, spells_itself, spells_nil}
use Rattle.paper.specs.Decide.{null_row, null_rule, nullable, reach_row, reach_rule, carried, reaches}

-- ---- a row that derives a word is in the table

pub outside : (g : Grammar) (r : ℕ) → length g.rows ≤ r → row g r ≡ Range 1 0
unfolding row
outside g r h = get_or-eq_default g.rows (Range 1 0) h

none_spells : (g : Grammar) {r : ℕ} {w : List ℕ} → row g r ≡ Range 1 0 → Spells g r w → ⊥
none_spells g o (Spells.empty e) = let z : ◌≡◌ {A = ℕ} 0 1 = cc in omega arith
none_spells g o (Spells.range {lo = lo} {hi = hi} e l h) =
    let p : lo ≡ 1 = cc in
    let q : hi ≡ 0 = cc in
    omega arith
none_spells g o (Spells.text e) = let z : ◌≡◌ {A = ℕ} 0 1 = cc in omega arith
none_spells g o (Spells.alt_left e d) = let z : ◌≡◌ {A = ℕ} 0 1 = cc in omega arith
none_spells g o (Spells.alt_right e d) = let z : ◌≡◌ {A = ℕ} 0 1 = cc in omega arith
none_spells g o (Spells.seq e c d) = let z : ◌≡◌ {A = ℕ} 0 1 = cc in omega arith
none_spells g o (Spells.star_none e) = let z : ◌≡◌ {A = ℕ} 0 1 = cc in omega arith
none_spells g o (Spells.star_more e c d) = let z : ◌≡◌ {A = ℕ} 0 1 = cc in omega arith

none_keeps : (g : Grammar) {r q : ℕ} → row g r ≡ Range 1 0 → Keeps g r q → ⊥
none_keeps g o (Keeps.keep_left e) = let z : ◌≡◌ {A = ℕ} 0 1 = cc in omega arith
none_keeps g o (Keeps.keep_right e) = let z : ◌≡◌ {A = ℕ} 0 1 = cc in omega arith
none_keeps g o (Keeps.keep_first e d) = let z : ◌≡◌ {A = ℕ} 0 1 = cc in omega arith
none_keeps g o (Keeps.keep_second e d) = let z : ◌≡◌ {A = ℕ} 0 1 = cc in omega arith
none_keeps g o (Keeps.keep_star e) = let z : ◌≡◌ {A = ℕ} 0 1 = cc in omega arith

pub spells_below : (g : Grammar) {r : ℕ} {w : List ℕ} → Spells g r w → r < length g.rows
spells_below g {r} d = lt_of_not-le (λ h. none_spells g (outside g r h) d)

pub derives_below : (g : Grammar) {r : ℕ} {w : List ℕ} → Derives g r w → r < length g.rows
derives_below g d = spells_below g (spelled g d).spells

pub keeps_below : (g : Grammar) {r q : ℕ} → Keeps g r q → r < length g.rows
keeps_below g {r} d = lt_of_not-le (λ h. none_keeps g (outside g r h) d)

-- ---- nullable: the row derives the empty word

pub null_mono : (g : Grammar) → Monotone (null_rule g)
unfolding null_rule null_row
null_mono g s t b r e = go (row g r) e
  where
    go : (x : Row) → null_row s x ≡ true → null_row t x ≡ true
    go Empty h = h
    go (Range lo hi) h = h
    go (Text off len) h = h
    go (Alt x y) h = by (or_cases (s x) (s y) h)
      where
        by : (s x ≡ true) ⊎ (s y ≡ true) → (t x || t y) ≡ true
        by (inl p) = or_left (t x) (t y) (b x p)
        by (inr p) = or_right (t x) (t y) (b y p)
    go (Seq x y) h = and_intro (b x (and_left (s x) (s y) h)) (b y (and_right (s x) (s y) h))
    go (Star x) h = h

null_closed : (g : Grammar) (r : ℕ) → r < length g.rows → null_row (nullable g) (row g r) ≡ true → nullable g r ≡ true
unfolding nullable null_rule
null_closed g r l e = closure_closed (length g.rows) (null_rule g) (null_mono g) r l e

pub null_spells : (g : Grammar) (r : ℕ) → nullable g r ≡ true → Spells g r []
unfolding nullable null_rule null_row stretch
null_spells g r e = closure_least (length g.rows) (null_rule g) (λ k. Spells g k []) keeps r e
  where
    keeps : (s : ℕ → Bool) → ((j : ℕ) → s j ≡ true → Spells g j []) → (k : ℕ) → k < length g.rows → null_rule g s k ≡ true → Spells g k []
    keeps s ih k l h = go (row g k) refl h
      where
        go : (x : Row) → row g k ≡ x → null_row s x ≡ true → Spells g k []
        go Empty p q = Spells.empty p
        go (Range lo hi) p q = absurd (true≢false (sym q))
        go (Text off len) p q = Spells.text {len = zero} (p ∙ ap (Text off) (eqb_same len 0 q))
        go (Alt a b) p q = by (or_cases (s a) (s b) q)
          where
            by : (s a ≡ true) ⊎ (s b ≡ true) → Spells g k []
            by (inl z) = Spells.alt_left p (ih a z)
            by (inr z) = Spells.alt_right p (ih b z)
        go (Seq a b) p q = Spells.seq p (ih a (and_left (s a) (s b) q)) (ih b (and_right (s a) (s b) q))
        go (Star a) p q = Spells.star_none p

append_empty : (u v : List ℕ) → u ++ v ≡ [] → (u ≡ []) × (v ≡ [])
append_empty [] v e = (refl, e)
append_empty (x ∷ u) v e = absurd (let z : ◌≡◌ {A = ℕ} 0 1 = cc in omega arith)

stretch_empty : (t : List ℕ) (off len : ℕ) → stretch 0 t off len ≡ [] → len ≡ 0
unfolding stretch
stretch_empty t off zero e = refl
stretch_empty t off (suc n) e = absurd (let z : ◌≡◌ {A = ℕ} 0 1 = cc in omega arith)

-- a row with the text x is nullable where x is, over the nullable rows
null_by : (g : Grammar) {r : ℕ} {w : List ℕ} (x : Row) → Spells g r w → row g r ≡ x → null_row (nullable g) x ≡ true → nullable g r ≡ true
null_by g {r} x d e h = null_closed g r (spells_below g d) (rw e h)

pub spells_null : (g : Grammar) {r : ℕ} {w : List ℕ} → Spells g r w → w ≡ [] → nullable g r ≡ true
unfolding null_row
spells_null g (Spells.empty e) q = null_by g Empty (Spells.empty e) e refl
spells_null g (Spells.range e l h) q = absurd (let z : ◌≡◌ {A = ℕ} 0 1 = cc in omega arith)
spells_null g (Spells.text {off = off} {len = len} e) q = null_by g (Text off len) (Spells.text e) e (same_eqb len 0 (stretch_empty g.text off len q))
spells_null g (Spells.alt_left {a = a} {b = b} e c) q = null_by g (Alt a b) (Spells.alt_left e c) e (or_left (nullable g a) (nullable g b) (spells_null g c q))
spells_null g (Spells.alt_right {a = a} {b = b} e c) q = null_by g (Alt a b) (Spells.alt_right e c) e (or_right (nullable g a) (nullable g b) (spells_null g c q))
spells_null g (Spells.seq {a = a} {b = b} {u = u} {v = v} e c d) q =
    null_by g (Seq a b) (Spells.seq e c d) e (and_intro (spells_null g c (append_empty u v q).0) (spells_null g d (append_empty u v q).1))
spells_null g (Spells.star_none {a = a} e) q = null_by g (Star a) (Spells.star_none e) e refl
spells_null g (Spells.star_more {a = a} e c d) q = null_by g (Star a) (Spells.star_more e c d) e refl

null_derives : (g : Grammar) (r : ℕ) → nullable g r ≡ true → Derives g r []
null_derives g r e = spells_itself g (null_spells g r e)

derives_null : (g : Grammar) {r : ℕ} → Derives g r [] → nullable g r ≡ true
derives_null g d = spells_null g (spells_nil g d) refl

pub nullable_right : (g : Grammar) (r : ℕ) → (nullable g r ≡ true) ↔ Derives g r []
nullable_right g r = (null_derives g r, derives_null g)

-- ---- reaches: by steps that keep the length

reach_mono : (g : Grammar) (seed : ℕ → Bool) → Monotone (reach_rule g seed)
unfolding reach_rule reach_row
reach_mono g seed s t b r e = top (or_cases (seed r) (reach_row (nullable g) s (row g r)) e)
  where
    go : (x : Row) → reach_row (nullable g) s x ≡ true → reach_row (nullable g) t x ≡ true
    go Empty h = h
    go (Range lo hi) h = h
    go (Text off len) h = h
    go (Alt x y) h = by (or_cases (s x) (s y) h)
      where
        by : (s x ≡ true) ⊎ (s y ≡ true) → (t x || t y) ≡ true
        by (inl p) = or_left (t x) (t y) (b x p)
        by (inr p) = or_right (t x) (t y) (b y p)
    go (Seq x y) h = by (or_cases (nullable g y && s x) (nullable g x && s y) h)
      where
        by : ((nullable g y && s x) ≡ true) ⊎ ((nullable g x && s y) ≡ true) → ((nullable g y && t x) || (nullable g x && t y)) ≡ true
        by (inl p) = or_left (nullable g y && t x) (nullable g x && t y) (and_intro (and_left (nullable g y) (s x) p) (b x (and_right (nullable g y) (s x) p)))
        by (inr p) = or_right (nullable g y && t x) (nullable g x && t y) (and_intro (and_left (nullable g x) (s y) p) (b y (and_right (nullable g x) (s y) p)))
    go (Star x) h = b x h

    top : (seed r ≡ true) ⊎ (reach_row (nullable g) s (row g r) ≡ true) → (seed r || reach_row (nullable g) t (row g r)) ≡ true
    top (inl p) = or_left (seed r) (reach_row (nullable g) t (row g r)) p
    top (inr p) = or_right (seed r) (reach_row (nullable g) t (row g r)) (go (row g r) p)

-- a row that passes the test is reached
abbrev pub Reached : Grammar → (ℕ → Bool) → ℕ → Type 0
Reached g seed r = (q : ℕ) × (q < length g.rows) × Reach g r q × (seed q ≡ true)

reached_step : (g : Grammar) (seed : ℕ → Bool) {r p : ℕ} → Keeps g r p → Reached g seed p → Reached g seed r
reached_step g seed k z = (z.0, z.1, Reach.step k z.2, z.3)

carried_sound : (g : Grammar) (seed : ℕ → Bool) (r : ℕ) → carried g seed r ≡ true → Reached g seed r
unfolding carried reach_rule reach_row
carried_sound g seed r e = closure_least (length g.rows) (reach_rule g seed) (λ k. Reached g seed k) keeps r e
  where
    keeps : (s : ℕ → Bool) → ((j : ℕ) → s j ≡ true → Reached g seed j) → (k : ℕ) → k < length g.rows → reach_rule g seed s k ≡ true → Reached g seed k
    keeps s ih k l h = top (or_cases (seed k) (reach_row (nullable g) s (row g k)) h)
      where
        go : (x : Row) → row g k ≡ x → reach_row (nullable g) s x ≡ true → Reached g seed k
        go Empty p z = absurd (true≢false (sym z))
        go (Range lo hi) p z = absurd (true≢false (sym z))
        go (Text off len) p z = absurd (true≢false (sym z))
        go (Alt a b) p z = by (or_cases (s a) (s b) z)
          where
            by : (s a ≡ true) ⊎ (s b ≡ true) → Reached g seed k
            by (inl y) = reached_step g seed (Keeps.keep_left p) (ih a y)
            by (inr y) = reached_step g seed (Keeps.keep_right p) (ih b y)
        go (Seq a b) p z = by (or_cases (nullable g b && s a) (nullable g a && s b) z)
          where
            by : ((nullable g b && s a) ≡ true) ⊎ ((nullable g a && s b) ≡ true) → Reached g seed k
            by (inl y) = reached_step g seed (Keeps.keep_first p (null_derives g b (and_left (nullable g b) (s a) y))) (ih a (and_right (nullable g b) (s a) y))
            by (inr y) = reached_step g seed (Keeps.keep_second p (null_derives g a (and_left (nullable g a) (s b) y))) (ih b (and_right (nullable g a) (s b) y))
        go (Star a) p z = reached_step g seed (Keeps.keep_star p) (ih a z)

        top : (seed k ≡ true) ⊎ (reach_row (nullable g) s (row g k) ≡ true) → Reached g seed k
        top (inl p) = (k, l, Reach.here, p)
        top (inr p) = go (row g k) refl p

reach_by : (g : Grammar) (s : ℕ → Bool) {r p : ℕ} → Keeps g r p → s p ≡ true → reach_row (nullable g) s (row g r) ≡ true
unfolding reach_row
reach_by g s (Keeps.keep_left {a = a} {b = b} e) h = rw e (or_left (s a) (s b) h)
reach_by g s (Keeps.keep_right {a = a} {b = b} e) h = rw e (or_right (s a) (s b) h)
reach_by g s (Keeps.keep_first {a = a} {b = b} e d) h = rw e (or_left (nullable g b && s a) (nullable g a && s b) (and_intro (derives_null g d) h))
reach_by g s (Keeps.keep_second {a = a} {b = b} e d) h = rw e (or_right (nullable g b && s a) (nullable g a && s b) (and_intro (derives_null g d) h))
reach_by g s (Keeps.keep_star e) h = rw e h

carried_closed : (g : Grammar) (seed : ℕ → Bool) (r : ℕ) → r < length g.rows → (seed r || reach_row (nullable g) (carried g seed) (row g r)) ≡ true → carried g seed r ≡ true
unfolding carried reach_rule
carried_closed g seed r l e = closure_closed (length g.rows) (reach_rule g seed) (reach_mono g seed) r l e

carried_from : (g : Grammar) (seed : ℕ → Bool) {r q : ℕ} → q < length g.rows → Reach g r q → seed q ≡ true → carried g seed r ≡ true
carried_from g seed l (Reach.here {r = r}) h = carried_closed g seed r l (or_left (seed r) _ h)
carried_from g seed l (Reach.step {r = r} k s) h = carried_closed g seed r (keeps_below g k) (or_right (seed r) _ (reach_by g (carried g seed) k (carried_from g seed l s h)))

pub carried_right : (g : Grammar) (seed : ℕ → Bool) (r : ℕ) → (carried g seed r ≡ true) ↔ Reached g seed r
carried_right g seed r = (carried_sound g seed r, λ z. carried_from g seed z.1 z.2 z.3)

pub reaches_sound : (g : Grammar) (r q : ℕ) → reaches g r q ≡ true → Reach g r q
unfolding reaches
reaches_sound g r q e = let z = carried_sound g (λ p. eqb p q) r e in subst (Reach g r) (eqb_same z.0 q z.3) z.2

pub reaches_from : (g : Grammar) {r q : ℕ} → q < length g.rows → Reach g r q → reaches g r q ≡ true
unfolding reaches
reaches_from g {r} {q} l s = carried_from g (λ p. eqb p q) l s (same_eqb q q refl)

-- a set carried back along the steps, as a program does it span by span: the same as to look for a row that is reached
pub carried_any : (g : Grammar) (seed : ℕ → Bool) (r : ℕ) → carried g seed r ≡ any_below (length g.rows) (λ q. reaches g r q && seed q)
carried_any g seed r = same_test _ _ there back
  where
    there : carried g seed r ≡ true → any_below (length g.rows) (λ q. reaches g r q && seed q) ≡ true
    there e = let z = carried_sound g seed r e in any_intro (length g.rows) (λ q. reaches g r q && seed q) z.0 z.1 (and_intro (reaches_from g z.1 z.2) z.3)

    back : any_below (length g.rows) (λ q. reaches g r q && seed q) ≡ true → carried g seed r ≡ true
    back e =
        let z = any_elim (length g.rows) (λ q. reaches g r q && seed q) e in
        carried_from g seed z.1 (reaches_sound g r z.0 (and_left (reaches g r z.0) _ z.2)) (and_right (reaches g r z.0) _ z.2)

-- ---- a step that keeps the length hands a spelling back

keeps_spells : (g : Grammar) {r p : ℕ} {w : List ℕ} → Keeps g r p → Spells g p w → Spells g r w
keeps_spells g (Keeps.keep_left e) d = Spells.alt_left e d
keeps_spells g (Keeps.keep_right e) d = Spells.alt_right e d
keeps_spells g {w = w} (Keeps.keep_first e z) d = rw append-nil at (Spells.seq e d (spells_nil g z))
keeps_spells g (Keeps.keep_second e z) d = Spells.seq e (spells_nil g z) d
keeps_spells g (Keeps.keep_star e) d = rw append-nil at (Spells.star_more e d (Spells.star_none e))

pub reach_spells : (g : Grammar) {r q : ℕ} {w : List ℕ} → Reach g r q → Spells g q w → Spells g r w
reach_spells g Reach.here d = d
reach_spells g (Reach.step k s) d = keeps_spells g k (reach_spells g s d)
