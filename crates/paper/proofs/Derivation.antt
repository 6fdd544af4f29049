-- The tests of `Decide` say what they should: row r passes at length m and place i exactly when it derives a word of m bytes that fits there.
-- Assumes nothing.
use Prim.Native.Nat.{ℕ, zero, suc, ◌+◌, ◌-◌, ◌≤◌, ◌<◌}
use mathlib.Core.Path.{◌≡◌, refl, sym, ap, ◌∙◌}
use mathlib.Core.Bool.{true, false, ◌&&◌, true≢false}
use mathlib.Core.Logic.{◌↔◌}
use mathlib.Core.List.{List, [], ◌∷◌, ◌++◌, append-nil}
use native.Mathlib.Omega.{arith}
use native.Mathlib.Nat.{not-suc-le-zero, zero-add, add-zero, add-suc, suc-add, add-sub_of_le}
use lib.Dec.{eqb}
use lib.ListN.{length, get_or, take, drop, length-append}
use lib.Seq.{drop-cons}
use Rattle.paper.proofs.Tests.{any_intro, any_elim, and_intro, and_left, and_right, and_assoc, same_test, eqb_same, same_eqb}
use Rattle.paper.specs.Rows.{Row, Empty, Range, Text, Alt, Seq, Star, Grammar, row, stretch, Derives, Keeps, Reach}
use Rattle.paper.specs.Decide.{exactly, some_in, carried, reaches, Pattern, fits, Test, split, own_row, level, up_to, accepts}
use Rattle.paper.proofs.Comparing.{same_length, same_at, at_same}
use Rattle.paper.proofs.Spelling as spelling
use Rattle.paper.proofs.Spelling.{Spells, spells_derives, spells_itself}
use Rattle.paper.proofs.Reaching.{spells_below, null_spells, spells_null, reaches_sound, reaches_from, carried_any, reach_spells}

-- ---- a derivation of a word that is not empty comes from a row that is reached and takes bytes itself

data Own (g : Grammar) : ℕ → List ℕ → Type 0 where
  own_range : {q lo hi b : ℕ} → row g q ≡ Range lo hi → lo ≤ b → b ≤ hi → Own g q (b ∷ [])
  own_text : {q off len : ℕ} → row g q ≡ Text off len → Own g q (stretch 0 g.text off len)
  own_seq : {q a b : ℕ} {u v : List ℕ} → row g q ≡ Seq a b → 0 < length u → 0 < length v → Spells g a u → Spells g b v → Own g q (u ++ v)
  own_star : {q a : ℕ} {u v : List ℕ} → row g q ≡ Star a → 0 < length u → 0 < length v → Spells g a u → Spells g q v → Own g q (u ++ v)

record Peeled (g : Grammar) (r : ℕ) (w : List ℕ) : Type 0 where
  at : ℕ
  reached : Reach g r at
  own : Own g at w

peel_step : (g : Grammar) {r p : ℕ} {w : List ℕ} → Keeps g r p → Peeled g p w → Peeled g r w
peel_step g k z = record { at = z.at; reached = Reach.step k z.reached; own = z.own }

own_spells : (g : Grammar) {q : ℕ} {w : List ℕ} → Own g q w → Spells g q w
own_spells g (Own.own_range e l h) = Spells.range e l h
own_spells g (Own.own_text e) = Spells.text e
own_spells g (Own.own_seq e _ _ c d) = Spells.seq e c d
own_spells g (Own.own_star e _ _ c d) = Spells.star_more e c d

peel : (g : Grammar) {r : ℕ} {w : List ℕ} → Spells g r w → 0 < length w → Peeled g r w
peel g (Spells.empty e) h = absurd (not-suc-le-zero h)
peel g (Spells.range {r = r} e l m) h = record { at = r; reached = Reach.here; own = Own.own_range e l m }
peel g (Spells.text {r = r} e) h = record { at = r; reached = Reach.here; own = Own.own_text e }
peel g (Spells.alt_left e d) h = peel_step g (Keeps.keep_left e) (peel g d h)
peel g (Spells.alt_right e d) h = peel_step g (Keeps.keep_right e) (peel g d h)
peel g (Spells.seq {u = []} e c d) h = peel_step g (Keeps.keep_second e (spells_itself g c)) (peel g d h)
peel g (Spells.seq {u = x ∷ u} {v = []} e c d) h = rw append-nil (peel_step g (Keeps.keep_first e (spells_itself g d)) (peel g c (omega arith)))
peel g (Spells.seq {r = r} {u = x ∷ u} {v = y ∷ v} e c d) h = record { at = r; reached = Reach.here; own = Own.own_seq {u = x ∷ u} {v = y ∷ v} e (omega arith) (omega arith) c d }
peel g (Spells.star_none e) h = absurd (not-suc-le-zero h)
peel g (Spells.star_more {u = []} e c d) h = peel g d h
peel g (Spells.star_more {u = x ∷ u} {v = []} e c d) h = rw append-nil (peel_step g (Keeps.keep_star e) (peel g c (omega arith)))
peel g (Spells.star_more {r = r} {u = x ∷ u} {v = y ∷ v} e c d) h = record { at = r; reached = Reach.here; own = Own.own_star {u = x ∷ u} {v = y ∷ v} e (omega arith) (omega arith) c d }

-- ---- patterns

fits_append : (pat : Pattern) (i : ℕ) (u v : List ℕ) → fits pat i (u ++ v) ≡ (fits pat i u && fits pat (i + length u) v)
unfolding fits
fits_append pat i [] v = rw add-zero
fits_append pat i (x ∷ u) v = rw (fits_append pat (suc i) u v, add-suc, ← suc-add) (sym (and_assoc (pat i x) _ _))

nil_of_length : (w : List ℕ) → length w ≡ 0 → w ≡ []
nil_of_length [] e = refl
nil_of_length (x ∷ w) e = absurd (omega arith)

pub stretch_length : (t : List ℕ) (off len : ℕ) → length (stretch 0 t off len) ≡ len
unfolding stretch
stretch_length t off zero = refl
stretch_length t off (suc n) = ap suc (stretch_length t (suc off) n)

-- row r derives a word of m bytes that fits from place i
pub record Word (g : Grammar) (pat : Pattern) (m i r : ℕ) : Type 0 where
  pub word : List ℕ
  pub long : length word ≡ m
  pub fit : fits pat i word ≡ true
  pub spelled : Spells g r word

-- the test is right at length m
abbrev pub Right : Grammar → Pattern → Test → ℕ → Type 0
Right g pat acc m = (i r : ℕ) → (acc m i r ≡ true) ↔ Word g pat m i r

module _ (g : Grammar) (pat : Pattern) where
  -- a word of m bytes in two parts, neither empty
  join : {a b m i : ℕ} (k : ℕ) → k ≤ m → Word g pat k i a → Word g pat (m - k) (i + k) b → (r : ℕ) → ((u v : List ℕ) → Spells g a u → Spells g b v → Spells g r (u ++ v)) → Word g pat m i r
  join {m = m} {i = i} k h x y r by = record {
    word = x.word ++ y.word;
    long = rw length-append (omega (arith, x.long, y.long));
    fit = rw fits_append (and_intro x.fit (rw x.long y.fit));
    spelled = by x.word y.word x.spelled y.spelled;
  }

  -- the shorter lengths are right
  abbrev Shorter : Test → ℕ → Type 0
  Shorter acc m = (k : ℕ) → k < m → Right g pat acc k

  split_sound : (acc : Test) (m : ℕ) → Shorter acc m → (i a b r : ℕ) → ((u v : List ℕ) → Spells g a u → Spells g b v → Spells g r (u ++ v)) → split acc a b m i ≡ true → Word g pat m i r
  unfolding split
  split_sound acc m ih i a b r by e =
      let s = any_elim (m - 1) (λ j. acc (suc j) i a && acc (m - suc j) (i + suc j) b) e in
      let j = s.0 in
      let l : s.0 < m - 1 = s.1 in
      let x = and_left (acc (suc j) i a) (acc (m - suc j) (i + suc j) b) s.2 in
      let y = and_right (acc (suc j) i a) (acc (m - suc j) (i + suc j) b) s.2 in
      join (suc j) (omega arith) ((ih (suc j) (omega arith) i a).0 x) ((ih (m - suc j) (omega arith) (i + suc j) b).0 y) r by

  own_sound : (acc : Test) (m : ℕ) → Shorter acc m → (i q : ℕ) (x : Row) → row g q ≡ x → own_row g pat acc q x m i ≡ true → Word g pat m i q
  unfolding own_row fits some_in
  own_sound acc m ih i q Empty p e = absurd (true≢false (sym e))
  own_sound acc m ih i q (Range lo hi) p e =
      let one : m ≡ 1 = eqb_same m 1 (and_left _ _ e) in
      let s = any_elim (suc hi - lo) (λ k. pat i (lo + k)) (and_right (eqb m 1) _ e) in
      let k = s.0 in
      let l : s.0 < suc hi - lo = s.1 in
      record { word = (lo + k) ∷ []; long = sym one; fit = and_intro s.2 refl; spelled = Spells.range {b = lo + k} p (omega arith) (omega arith) }
  own_sound acc m ih i q (Text off len) p e =
      record {
        word = stretch 0 g.text off len;
        long = stretch_length g.text off len ∙ eqb_same len m (and_left _ _ e);
        fit = and_right (eqb len m) _ e;
        spelled = Spells.text p;
      }
  own_sound acc m ih i q (Alt a b) p e = absurd (true≢false (sym e))
  own_sound acc m ih i q (Seq a b) p e = split_sound acc m ih i a b q (λ u v c d. Spells.seq p c d) e
  own_sound acc m ih i q (Star a) p e = split_sound acc m ih i a q q (λ u v c d. Spells.star_more p c d) e

  split_from : (acc : Test) (i a b : ℕ) (u v : List ℕ) → Shorter acc (length (u ++ v)) → 0 < length u → 0 < length v → fits pat i (u ++ v) ≡ true → Spells g a u → Spells g b v
      → split acc a b (length (u ++ v)) i ≡ true
  unfolding split
  split_from acc i a b [] v ih hu hv f c d = absurd (not-suc-le-zero hu)
  split_from acc i a b (x ∷ u) v ih hu hv f c d =
      let n : length (u ++ v) ≡ length u + length v = length-append u v in
      let w : (fits pat i (x ∷ u) && fits pat (i + suc (length u)) v) ≡ true = rw (fits_append pat i (x ∷ u) v) at f in
      any_intro (length ((x ∷ u) ++ v) - 1) (λ j. acc (suc j) i a && acc (length ((x ∷ u) ++ v) - suc j) (i + suc j) b) (length u) (omega arith)
      (and_intro
      ((ih (suc (length u)) (omega arith) i a).1 (record { word = x ∷ u; long = refl; fit = and_left _ _ w; spelled = c }))
      ((ih (length ((x ∷ u) ++ v) - suc (length u)) (omega arith) (i + suc (length u)) b).1 (record { word = v; long = omega arith; fit = and_right (fits pat i (x ∷ u)) _ w; spelled = d })))

  own_from : (acc : Test) {q : ℕ} {w : List ℕ} → Own g q w → Shorter acc (length w) → (i : ℕ) → fits pat i w ≡ true → own_row g pat acc q (row g q) (length w) i ≡ true
  unfolding own_row fits some_in
  own_from acc (Own.own_range {lo = lo} {hi = hi} {b = b} e l h) ih i f =
      rw e (any_intro (suc hi - lo) (λ k. pat i (lo + k)) (b - lo) (omega arith) (rw (add-sub_of_le l) (and_left (pat i b) true f)))
  own_from acc (Own.own_text {off = off} {len = len} e) ih i f = rw e (and_intro (same_eqb len _ (sym (stretch_length g.text off len))) f)
  own_from acc (Own.own_seq {a = a} {b = b} {u = u} {v = v} e hu hv c d) ih i f = rw e (split_from acc i a b u v ih hu hv f c d)
  own_from acc (Own.own_star {q = q} {a = a} {u = u} {v = v} e hu hv c d) ih i f = rw e (split_from acc i a q u v ih hu hv f c d)

  own_at : (acc : Test) {q : ℕ} {w : List ℕ} → Own g q w → (m : ℕ) → length w ≡ m → Shorter acc m → (i : ℕ) → fits pat i w ≡ true → own_row g pat acc q (row g q) m i ≡ true
  own_at acc o m n ih i f = rw n at (own_from acc o (rw n ih) i f)

  -- a length is right where the shorter ones are
  pub level_right : (acc : Test) (m : ℕ) → Shorter acc m → Right g pat (level g pat acc) m
  unfolding level fits
  level_right acc zero ih i r = (λ e. record { word = []; long = refl; fit = refl; spelled = null_spells g r e }, λ w. spells_null g w.spelled (nil_of_length w.word w.long))
  level_right acc (suc m) ih i r = (sound, from)
    where
      sound : level g pat acc (suc m) i r ≡ true → Word g pat (suc m) i r
      sound e =
          let s = any_elim (length g.rows) (λ q. reaches g r q && own_row g pat acc q (row g q) (suc m) i) e in
          let q = s.0 in
          let x = reaches_sound g r q (and_left (reaches g r q) _ s.2) in
          let w = own_sound acc (suc m) ih i q (row g q) refl (and_right (reaches g r q) _ s.2) in
          record { word = w.word; long = w.long; fit = w.fit; spelled = reach_spells g x w.spelled }

      from : Word g pat (suc m) i r → level g pat acc (suc m) i r ≡ true
      from w =
          let n : length w.word ≡ suc m = w.long in
          let z = peel g w.spelled (omega arith) in
          let l = spells_below g (own_spells g z.own) in
          any_intro (length g.rows) (λ q. reaches g r q && own_row g pat acc q (row g q) (suc m) i) z.at l
          (and_intro (reaches_from g l z.reached) (own_at acc z.own (suc m) n ih i w.fit))

  up_to_right : (f m : ℕ) → m ≤ f → Right g pat (up_to g pat f) m
  unfolding up_to
  up_to_right zero m h = level_right (λ k j q. false) m (λ k l. absurd (omega arith))
  up_to_right (suc f) m h = level_right (λ k j q. up_to g pat f k j q) m (λ k l. up_to_right f k (omega arith))

  -- THE THEOREM: a row passes at length m and place i exactly when it derives a word of m bytes that fits there
  pub accepts_right : (m : ℕ) → Right g pat (accepts g pat) m
  unfolding accepts
  accepts_right m = up_to_right m m (omega arith)

  -- how a table of the lengths is filled, the shorter lengths first
  pub accepts_level : (m i r : ℕ) → accepts g pat m i r ≡ level g pat (accepts g pat) m i r
  accepts_level m i r =
      let a = accepts_right m i r in
      let b = level_right (accepts g pat) m (λ k l. accepts_right k) i r in
      same_test _ _ (λ e. b.1 (a.0 e)) (λ e. a.1 (b.0 e))

-- a length as a program finds it: what each row does by itself, carried back along the steps
pub level_carried : (g : Grammar) (pat : Pattern) (acc : Test) (m i r : ℕ) → level g pat acc (suc m) i r ≡ carried g (λ q. own_row g pat acc q (row g q) (suc m) i) r
unfolding level
level_carried g pat acc m i r = sym (carried_any g (λ q. own_row g pat acc q (row g q) (suc m) i) r)

-- "fits" by the places
pub fits_at : (pat : Pattern) (i : ℕ) (w : List ℕ) → fits pat i w ≡ true → (p : ℕ) → p < length w → pat (i + p) (get_or w p 0) ≡ true
unfolding fits
fits_at pat i [] e p l = absurd (not-suc-le-zero l)
fits_at pat i (b ∷ w) e zero l = rw add-zero (and_left (pat i b) _ e)
fits_at pat i (b ∷ w) e (suc p) l = rw (add-suc, ← suc-add) (fits_at pat (suc i) w (and_right (pat i b) _ e) p (omega arith))

pub at_fits : (pat : Pattern) (i : ℕ) (w : List ℕ) → ((p : ℕ) → p < length w → pat (i + p) (get_or w p 0) ≡ true) → fits pat i w ≡ true
unfolding fits
at_fits pat i [] h = refl
at_fits pat i (b ∷ w) h = and_intro (rw add-zero at (h 0 (omega arith))) (at_fits pat (suc i) w (λ p l. rw (suc-add, ← add-suc) (h (suc p) (omega arith))))

-- the theorem in plain words
pub accepts_iff : (g : Grammar) (pat : Pattern) (m i r : ℕ)
    → (accepts g pat m i r ≡ true) ↔ ((w : List ℕ) × (length w ≡ m) × ((p : ℕ) → p < m → pat (i + p) (get_or w p 0) ≡ true) × Spells g r w)
accepts_iff g pat m i r = (there, back)
  where
    there : accepts g pat m i r ≡ true → (w : List ℕ) × (length w ≡ m) × ((p : ℕ) → p < m → pat (i + p) (get_or w p 0) ≡ true) × Spells g r w
    there e =
        let w = (accepts_right g pat m i r).0 e in
        let n : length w.word ≡ m = w.long in
        (w.word, w.long, λ p l. fits_at pat i w.word w.fit p (omega arith), w.spelled)

    back : ((w : List ℕ) × (length w ≡ m) × ((p : ℕ) → p < m → pat (i + p) (get_or w p 0) ≡ true) × Spells g r w) → accepts g pat m i r ≡ true
    back w =
        let n : length w.0 ≡ m = w.1 in
        (accepts_right g pat m i r).1 (record { word = w.0; long = w.1; fit = at_fits pat i w.0 (λ p l. w.2 p (omega arith)); spelled = w.3 })

-- ---- one word

-- a row derives w exactly when it passes at w's length, on the pattern of w
pub derives_iff : (g : Grammar) (r : ℕ) (w : List ℕ) → (accepts g (exactly w) (length w) 0 r ≡ true) ↔ Derives g r w
unfolding exactly
derives_iff g r w = (there, back)
  where
    there : accepts g (exactly w) (length w) 0 r ≡ true → Derives g r w
    there e =
        let z = (accepts_iff g (exactly w) (length w) 0 r).0 e in
        let n : length z.0 ≡ length w = z.1 in
        spells_derives g z.3 w (same_at z.0 w n (λ p l. rw zero-add at (z.2 p (omega arith))))

    back : Derives g r w → accepts g (exactly w) (length w) 0 r ≡ true
    back d =
        let x = spelling.spelled g d in
        let n : length x.word ≡ length w = same_length x.word w x.same in
        (accepts_iff g (exactly w) (length w) 0 r).1 (x.word, n, (λ p l. rw zero-add (at_same x.word w x.same p (omega arith))), x.spells)

-- a stretch that lies inside the text, as a part of it
pub stretch_part : (t : List ℕ) (off len : ℕ) → off + len ≤ length t → stretch 0 t off len ≡ take len (drop off t)
unfolding stretch
stretch_part t off zero h = refl
stretch_part t off (suc n) h = rw (drop-cons t off 0 (omega arith)) (ap (λ (s : List ℕ). get_or t off 0 ∷ s) (stretch_part t (suc off) n (omega arith)))
