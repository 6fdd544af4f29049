-- The test `opens` decides Open as the paper words it, and what Open says of a full prefix and of the prefixes of a key that satisfies.
-- Assumes nothing.
use Prim.Native.Nat.{ℕ, suc, ◌+◌, ◌-◌, ◌≤◌, ◌<◌}
use mathlib.Core.Path.{◌≡◌, refl, sym, ap, ◌∙◌, subst}
use mathlib.Core.Bool.{Bool, true, false, cond, not, ◌||◌, true≢false}
use mathlib.Core.Logic.{◌↔◌, ◌⊎◌, inl, inr}
use mathlib.Core.List.{List, [], ◌∷◌, ◌++◌, map, map-append, append-nil}
use native.Mathlib.Omega.{arith}
use native.Mathlib.Nat.{zero-add}
use lib.Dec.{eqb}
use lib.ListN.{length, get_or, take, drop, length-append, take-append-drop, length-drop, get_or-append}
use lib.Seq.{take-length, length-take-le, get_or-take, get_or-drop, get_or-append-add, drop-append_seam}
use borrow.Author.Tests.{ltb-true, not-true}
use Rattle.paper.specs.Tests.{any_of, Every}
use Rattle.paper.specs.Rows.{stretch, Derives}
use Rattle.paper.specs.Compare.{same_byte, Same, StandsIn}
use Rattle.paper.specs.Decide.{fits, accepts}
use Rattle.paper.specs.Terms.{Place, Known, Unknown, places_of}
use Rattle.paper.specs.Sheet.{Sheet, Claim, Derived, Contains, Equals, ContainsTerm, Assertion, Run, second_run, letter, inside}
use Rattle.paper.specs.Satisfy.{term_word, Holds, Signed, Met, Letters, Satisfies}
use Rattle.paper.specs.Open.{term_on, Fills, SomeUnknown, CanHold, CanFail, Can, Possible, Open}
use Rattle.paper.specs.Opens.{pattern, meet, meet_from, can_hold, is_unknown, can_fail, can, possible, opens_on, opens}
use Rattle.paper.proofs.Tests.{and_intro, and_left, and_right, or_left, or_right, or_cases, true_or_false, any_intro, any_elim, all_intro, all_elim, all_of_every, every_all_of, every_map, every_right, any_of_append, eqb_same, same_eqb}
use Rattle.paper.proofs.Comparing.{byte_refl, byte_sym, same_sym, same_length, at_same}
use Rattle.paper.proofs.Spelling.{spelled, spells_derives}
use Rattle.paper.proofs.Derivation.{stretch_length, accepts_right}
use Rattle.paper.proofs.Filling.{unknown_or_known, unknown_left, unknown_right, known_no_unknown, some_unknown, unknown_some, known_injective, fills_known, fills_only, fills_length, fills_append, fills_take, fills_drop, allows_fills, fills_allows, fills_below, fits_drop, fits_fills, fills_fits, prefix_fills, places_known}

-- some word fills the places: so where no place is unknown, and where there is a letter
abbrev pub Fillable : Sheet → List Place → Type 0
Fillable s T = (t : List ℕ) × Fills s T t

pub letter_byte : (s : Sheet) (b : ℕ) → letter s b ≡ true → b < 256
unfolding letter
letter_byte s b e = ltb-true b 256 (and_left _ _ e)

module _ (s : Sheet) where
  -- ---- a claim that is asserted

  can_derive : (r : ℕ) (T : List Place) → accepts s.grammar (pattern s T) (length T) 0 r ≡ true → (t : List ℕ) × Fills s T t × Derives s.grammar r t
  can_derive r T e =
      let w = (accepts_right s.grammar (pattern s T) (length T) 0 r).0 e in
      let n : length w.word ≡ length T = w.long in
      let f = fits_fills s T w.word (omega arith) w.fit in
      let k : take (length w.word) T ≡ T = rw (n, take-length) in
      (f.0, subst (λ (U : List Place). Fills s U f.0) k f.2, spells_derives s.grammar w.spelled f.0 f.1)

  derive_can : (r : ℕ) {T : List Place} {t : List ℕ} → Fills s T t → Derives s.grammar r t → accepts s.grammar (pattern s T) (length T) 0 r ≡ true
  derive_can r {T} {t} f d =
      let x = spelled s.grammar d in
      (accepts_right s.grammar (pattern s T) (length T) 0 r).1
      (record { word = x.word; long = same_length x.word t x.same ∙ fills_length s f; fit = fills_fits s f x.word t [] (sym (append-nil t)) x.same; spelled = x.spells })

  -- what fills l places from place i on stands in a word that fills them all, the other places filled somehow
  fills_around : (T : List Place) (i l : ℕ) (m u : List ℕ) → Fills s (take l (drop i T)) m → Same u m → Fillable s T → (t : List ℕ) × Fills s T t × StandsIn u t
  fills_around T i l m u g e (t, f) =
      let k : take i T ++ (take l (drop i T) ++ drop l (drop i T)) ≡ T = rw (take-append-drop l (drop i T)) (take-append-drop i T) in
      let z = take i t ++ (m ++ drop l (drop i t)) in (
        z,
        subst (λ (U : List Place). Fills s U z) k (fills_append s (fills_take s f i) (fills_append s g (fills_drop s (fills_drop s f i) l))),
        record { before = take i t; middle = m; behind = drop l (drop i t); joined = refl; same = e },
      )

  can_contain : (T : List Place) (i : ℕ) (u : List ℕ) → i + length u ≤ length T → fits (pattern s T) i u ≡ true → Fillable s T → (t : List ℕ) × Fills s T t × StandsIn u t
  can_contain T i u h e f =
      let m = fits_fills s (drop i T) u (rw length-drop (omega arith)) (sym (fits_drop s T i u (omega arith)) ∙ e) in
      fills_around T i (length u) m.0 u m.2 m.1 f

  contain_can : {T : List Place} {t : List ℕ} (u : List ℕ) → Fills s T t → (h : StandsIn u t)
      → (length h.before + length u ≤ length T) × (fits (pattern s T) (length h.before) u ≡ true)
  contain_can {T} {t} u f h =
      let x = h.before in
      let m = h.middle in
      let y = h.behind in
      let g : Fills s T (x ++ (m ++ y)) = rw h.joined at f in
      let n = fills_length s g in
      let k = same_length u m h.same in
      let l : length x + length u ≤ length T = omega (arith, length-append x (m ++ y), length-append m y) in
      (l, fits_drop s T (length x) u (omega arith) ∙ fills_fits s (fills_drop s g (length x)) u m y (drop-append_seam x (m ++ y)) h.same)

  meet_fills : (P Q : Place) → meet s P Q ≡ true → (b : ℕ) × (c : ℕ) × (same_byte b c ≡ true) × Fills s (P ∷ []) (b ∷ []) × Fills s (Q ∷ []) (c ∷ [])
  unfolding meet
  meet_fills (Known x) Q e = let c = allows_fills s Q x e in (x, c.0, c.1, Fills.known Fills.none, c.2)
  meet_fills Unknown (Known y) e = (y, y, byte_refl y, Fills.filled e Fills.none, Fills.known Fills.none)
  meet_fills Unknown Unknown e = let r = any_elim 256 (letter s) e in (r.0, r.0, byte_refl r.0, Fills.filled r.2 Fills.none, Fills.filled r.2 Fills.none)

  fills_meet : {P Q : Place} {b c : ℕ} → Fills s (P ∷ []) (b ∷ []) → Fills s (Q ∷ []) (c ∷ []) → same_byte b c ≡ true → meet s P Q ≡ true
  unfolding meet
  fills_meet (Fills.known {b = b} f) g e = fills_allows s g b e
  fills_meet (Fills.filled {b = b} l f) (Fills.known {b = c} g) e = rw (eqb_same b c e) at l
  fills_meet (Fills.filled {b = b} l f) (Fills.filled m g) e = any_intro 256 (letter s) b (letter_byte s b l) l

  can_equal : (T U : List Place) → length T ≡ length U → ((i : ℕ) → i < length T → meet s (get_or T i Unknown) (get_or U i Unknown) ≡ true)
      → (t : List ℕ) × (u : List ℕ) × Fills s T t × Fills s U u × Same t u
  can_equal [] [] n h = ([], [], Fills.none, Fills.none, tt)
  can_equal [] (Q ∷ U) n h = absurd (omega arith)
  can_equal (P ∷ T) [] n h = absurd (omega arith)
  can_equal (P ∷ T) (Q ∷ U) n h =
      let b = meet_fills P Q (h 0 (omega arith)) in
      let r = can_equal T U (omega arith) (λ i l. h (suc i) (omega arith)) in
      (b.0 ∷ r.0, b.1 ∷ r.1, fills_append s b.3 r.2, fills_append s b.4 r.3, (b.2, r.4))

  -- the places of U at place i of T, the others of T filled somehow
  can_contain_term : (T U : List Place) (i : ℕ) → i + length U ≤ length T → meet_from s T i U ≡ true → Fillable s T
      → (t : List ℕ) × (u : List ℕ) × Fills s T t × Fills s U u × StandsIn u t
  unfolding meet_from
  can_contain_term T U i h e f =
      let l = length U in
      let n : length (take l (drop i T)) ≡ l = length-take-le l (drop i T) (rw length-drop (omega arith)) in
      let m = can_equal (take l (drop i T)) U n (λ j k.
      let k' : j < l = rw n at k in
      rw (get_or-take l (drop i T) j Unknown k', get_or-drop i T j Unknown) (all_elim l (λ j. meet s (get_or T (i + j) Unknown) (get_or U j Unknown)) e j k')) in
      let z = fills_around T i l m.0 m.1 m.2 (same_sym m.0 m.1 m.4) f in
      (z.0, m.1, z.1, m.3, z.2)

  contain_term_can : {T U : List Place} {t u : List ℕ} → Fills s T t → Fills s U u → (h : StandsIn u t)
      → (length h.before + length U ≤ length T) × (meet_from s T (length h.before) U ≡ true)
  unfolding meet_from
  contain_term_can {T} {U} {t} {u} f g h =
      let x = h.before in
      let m = h.middle in
      let y = h.behind in
      let a = fills_length s f in
      let b = fills_length s g in
      let c = same_length u m h.same in
      let d = ap length h.joined in
      let l : length x + length U ≤ length T = omega (arith, length-append x (m ++ y), length-append m y) in (
        l,
        all_intro (length U) (λ j. meet s (get_or T (length x + j) Unknown) (get_or U j Unknown)) (λ j k.
            let i : get_or t (length x + j) 0 ≡ get_or m j 0 =
            ap (λ (w : List ℕ). get_or w (length x + j) 0) h.joined ∙ get_or-append-add x (m ++ y) j 0 ∙ get_or-append m y 0 j (omega arith) in
            fills_meet (fills_below s f Unknown (length x + j) (omega arith)) (fills_below s g Unknown j k)
            (rw i (byte_sym (get_or u j 0) (get_or m j 0) (at_same u m h.same j (omega arith))))),
      )

  -- where each term can be filled somehow, a claim that passes holds of some fillings
  can_hold_lem : (c : Claim) (T U : List Place) → Fillable s T → Fillable s U → can_hold s c T U ≡ true → CanHold s c T U
  unfolding can_hold meet_from
  can_hold_lem (Derived r) T U f g e = let d = can_derive r T e in (d.0, g.0, d.1, g.1, d.2)
  can_hold_lem (Contains a b) T U f g e =
      let m = stretch 0 s.grammar.text a b in
      let z = any_elim (suc (length T) - b) (λ i. fits (pattern s T) i m) e in
      let l : z.0 < suc (length T) - b = z.1 in
      let d = can_contain T z.0 m (omega (arith, stretch_length s.grammar.text a b)) z.2 f in
      (d.0, g.0, d.1, g.1, d.2)
  can_hold_lem (Equals a b) T U f g e =
      let n = eqb_same (length T) (length U) (and_left _ _ e) in
      can_equal T U n
      (λ i l. rw (zero-add i) at (all_elim (length U) (λ j. meet s (get_or T (0 + j) Unknown) (get_or U j Unknown)) (and_right (eqb (length T) (length U)) _ e) i (omega arith)))
  can_hold_lem (ContainsTerm a b) T U f g e =
      let z = any_elim (suc (length T) - length U) (λ i. meet_from s T i U) e in
      let l : z.0 < suc (length T) - length U = z.1 in
      can_contain_term T U z.0 (omega arith) z.2 f

  -- a claim that holds of some fillings passes
  hold_can : (c : Claim) (T U : List Place) → CanHold s c T U → can_hold s c T U ≡ true
  unfolding can_hold meet_from
  hold_can (Derived r) T U (t, u, f, g, h) = derive_can r f h
  hold_can (Contains a b) T U (t, u, f, g, h) =
      let m = stretch 0 s.grammar.text a b in
      let z = contain_can m f h in
      any_intro (suc (length T) - b) (λ i. fits (pattern s T) i m) (length h.before) (omega (arith, z.0, stretch_length s.grammar.text a b)) z.1
  hold_can (Equals a b) T U (t, u, f, g, e) =
      let n : length T ≡ length U = omega (arith, fills_length s f, fills_length s g, same_length t u e) in
      and_intro (same_eqb (length T) (length U) n)
      (all_intro (length U) (λ j. meet s (get_or T (0 + j) Unknown) (get_or U j Unknown))
      (λ i l. rw (zero-add i) (fills_meet (fills_below s f Unknown i (omega arith)) (fills_below s g Unknown i l) (at_same t u e i (omega (arith, fills_length s f))))))
  hold_can (ContainsTerm a b) T U (t, u, f, g, h) =
      let z = contain_term_can f g h in
      any_intro (suc (length T) - length U) (λ i. meet_from s T i U) (length h.before) (omega (arith, z.0)) z.1

  -- a claim of known words can hold exactly when it holds
  known_hold : (c : Claim) (t u : List ℕ) → CanHold s c (map Known t) (map Known u) ↔ Holds s c t u
  known_hold c t u = (there, λ h. (t, u, fills_known s t, fills_known s u, h))
    where
      there : CanHold s c (map Known t) (map Known u) → Holds s c t u
      there (x, y, f, g, h) =
          subst (λ (z : List ℕ). Holds s c t z) (fills_only s g u refl)
          (subst (λ (z : List ℕ). Holds s c z y) (fills_only s f t refl) h)

  -- ---- a claim that is denied

  -- some place is unknown, or no known words make it hold
  fail_known : (c : Claim) (T U : List Place) → ((t u : List ℕ) → T ≡ map Known t → U ≡ map Known u → Holds s c t u → ⊥) → CanFail s c T U
  fail_known c T U h = go (unknown_or_known T) (unknown_or_known U)
    where
      go : SomeUnknown T ⊎ ((t : List ℕ) × (T ≡ map Known t)) → SomeUnknown U ⊎ ((u : List ℕ) × (U ≡ map Known u)) → CanFail s c T U
      go (inl p) q = inl (unknown_left T U p)
      go (inr p) (inl q) = inl (unknown_right T U q)
      go (inr (t, p)) (inr (u, q)) = inr (t, u, p, q, h t u p q)

  can_fail_lem : (c : Claim) (T U : List Place) → can_fail s c T U ≡ true → CanFail s c T U
  unfolding can_fail
  can_fail_lem c T U e = first (or_cases (any_of is_unknown T) _ e)
    where
      second : (any_of is_unknown U ≡ true) ⊎ (not (can_hold s c T U) ≡ true) → CanFail s c T U
      second (inl p) = inl (unknown_right T U (some_unknown U p))
      second (inr o) =
          fail_known c T U
          (λ t u p q h. true≢false (sym (hold_can c T U (rw (p, q) ((known_hold c t u).1 h))) ∙ not-true (can_hold s c T U) o))

      first : (any_of is_unknown T ≡ true) ⊎ ((any_of is_unknown U || not (can_hold s c T U)) ≡ true) → CanFail s c T U
      first (inl p) = inl (unknown_left T U (some_unknown T p))
      first (inr p) = second (or_cases (any_of is_unknown U) _ p)

  fail_can : (c : Claim) (T U : List Place) → CanFail s c T U → can_fail s c T U ≡ true
  unfolding can_fail
  fail_can c T U (inl z) = go (or_cases (any_of is_unknown T) (any_of is_unknown U) (sym (any_of_append is_unknown T U) ∙ unknown_some (T ++ U) z))
    where
      go : (any_of is_unknown T ≡ true) ⊎ (any_of is_unknown U ≡ true) → (any_of is_unknown T || (any_of is_unknown U || not (can_hold s c T U))) ≡ true
      go (inl p) = or_left (any_of is_unknown T) _ p
      go (inr p) = or_right (any_of is_unknown T) _ (or_left (any_of is_unknown U) _ p)
  fail_can c T U (inr (t, u, p, q, h)) =
      rw (p, q) (or_right (any_of is_unknown (map Known t)) _ (or_right (any_of is_unknown (map Known u)) _ (go (true_or_false (can_hold s c (map Known t) (map Known u))))))
    where
      go : (can_hold s c (map Known t) (map Known u) ≡ true) ⊎ (can_hold s c (map Known t) (map Known u) ≡ false) → not (can_hold s c (map Known t) (map Known u)) ≡ true
      go (inl o) = absurd (h ((known_hold c t u).0 (can_hold_lem c (map Known t) (map Known u) (t, fills_known s t) (u, fills_known s u) o)))
      go (inr o) = rw o

  known_fail : (c : Claim) (t u : List ℕ) → CanFail s c (map Known t) (map Known u) ↔ (Holds s c t u → ⊥)
  known_fail c t u = (there, λ h. inr (t, u, refl, refl, h))
    where
      there : CanFail s c (map Known t) (map Known u) → Holds s c t u → ⊥
      there (inl z) h = known_no_unknown (t ++ u) (rw map-append z)
      there (inr (x, y, p, q, n)) h = n (rw (known_injective t x p, known_injective u y q) at h)

  -- ---- an assertion, and all of them

  can_signed : (d : Bool) (c : Claim) (T U : List Place) → Fillable s T → Fillable s U → cond d (can_fail s c T U) (can_hold s c T U) ≡ true → Can d s c T U
  can_signed false c T U f g e = can_hold_lem c T U f g e
  can_signed true c T U f g e = can_fail_lem c T U e

  signed_can : (d : Bool) (c : Claim) (T U : List Place) → Can d s c T U → cond d (can_fail s c T U) (can_hold s c T U) ≡ true
  signed_can false c T U h = hold_can c T U h
  signed_can true c T U h = fail_can c T U h

  known_signed : (d : Bool) (c : Claim) (t u : List ℕ) → Can d s c (map Known t) (map Known u) ↔ Signed d (Holds s c t u)
  known_signed false c t u = known_hold c t u
  known_signed true c t u = known_fail c t u

  module _ (n : ℕ) (p : List ℕ) where
    -- an open prefix passes
    pub open_opens : Open s n p → opens s n p ≡ true
    unfolding opens opens_on possible can
    open_opens o =
        every_all_of (possible s n (places_of n p)) (Possible s n (places_of n p))
        (λ a h. and_intro h.within (signed_can a.denied a.claim (term_on s (places_of n p) a.term) (term_on s (places_of n p) (second_run a.claim)) h.can))
        s.assertions o

    -- a prefix that passes is open, where its terms can be filled somehow
    pub opens_open : ((r : Run) → Fillable s (term_on s (places_of n p) r)) → opens s n p ≡ true → Open s n p
    unfolding opens opens_on possible can
    opens_open f e =
        all_of_every (possible s n (places_of n p)) (Possible s n (places_of n p))
        (λ a h. record {
          within = and_left (inside s n a) _ h;
          can = can_signed a.denied a.claim (term_on s (places_of n p) a.term) (term_on s (places_of n p) (second_run a.claim)) (f a.term) (f (second_run a.claim)) (and_right (inside s n a) _ h);
        })
        s.assertions e

  -- ---- at a full prefix

  full_fillable : (w : List ℕ) (r : Run) → Fillable s (term_on s (places_of (length w) w) r)
  full_fillable w r = (term_word s w r, rw places_known (fills_known s (term_word s w r)))

  pub opens_full : (w : List ℕ) → (opens s (length w) w ≡ true) ↔ Open s (length w) w
  opens_full w = (opens_open (length w) w (full_fillable w), open_opens (length w) w)

  possible_met : (w : List ℕ) (a : Assertion) → Possible s (length w) (places_of (length w) w) a ↔ Met s w a
  possible_met w a =
      let k = known_signed a.denied a.claim (term_word s w a.term) (term_word s w (second_run a.claim)) in (
        λ h. record { within = h.within; holds = k.0 (rw (places_known s w a.term, places_known s w (second_run a.claim)) at h.can) },
        λ h. record { within = h.within; can = rw (places_known s w a.term, places_known s w (second_run a.claim)) (k.1 h.holds) },
      )

  pub open_full : (w : List ℕ) → Open s (length w) w ↔ Every (Met s w) s.assertions
  open_full w = (
    every_map (Possible s (length w) (places_of (length w) w)) (Met s w) (λ a. (possible_met w a).0) s.assertions,
    every_map (Met s w) (Possible s (length w) (places_of (length w) w)) (λ a. (possible_met w a).1) s.assertions,
  )

  -- ---- below a key that satisfies

  prefix_can : (d : Bool) (c : Claim) (T U : List Place) (t u : List ℕ) → Fills s T t → Fills s U u → Signed d (Holds s c t u) → Can d s c T U
  prefix_can false c T U t u f g h = (t, u, f, g, h)
  prefix_can true c T U t u f g h = fail_known c T U (λ x y p q k. h (rw (fills_only s f x p, fills_only s g y q) k))

  pub prefix_open : (p v : List ℕ) → Satisfies s (p ++ v) → Open s (length (p ++ v)) p
  prefix_open p v h =
      let l : Letters s v = every_right (λ b. letter s b ≡ true) p v h.letters in
      every_map (Met s (p ++ v)) (Possible s (length (p ++ v)) (places_of (length (p ++ v)) p))
      (λ a m. record {
        within = m.within;
        can = prefix_can a.denied a.claim (term_on s (places_of (length (p ++ v)) p) a.term) (term_on s (places_of (length (p ++ v)) p) (second_run a.claim))
            (term_word s (p ++ v) a.term) (term_word s (p ++ v) (second_run a.claim)) (prefix_fills s p v l a.term) (prefix_fills s p v l (second_run a.claim)) m.holds;
      })
      s.assertions h.met
