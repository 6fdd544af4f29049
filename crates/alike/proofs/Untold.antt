-- Exchanging letters that rows and text do not tell apart, at any places of v, keeps every assertion's possibility, unless it compares v with v.
-- Assumes nothing.
use Prim.Native.Nat.{ℕ, zero, suc, ◌+◌, ◌-◌, ◌≤◌}
use mathlib.Core.Path.{◌≡◌, refl, sym, ap, ◌∙◌, fun_ext}
use mathlib.Core.Bool.{Bool, true, false, ◌&&◌, ◌||◌, true≢false}
use mathlib.Core.Logic.{◌⊎◌, inl, inr}
use mathlib.Core.List.{List, [], ◌∷◌}
use native.Mathlib.Omega.{arith}
use lib.Dec.{eqb, leb}
use lib.ListN.{length, get_or}
use borrow.Author.Tests.{le-leb, leb-true, ne_eqb}
use Rattle.paper.specs.Tests.{any_below, all_below, any_of, all_of, Every}
use Rattle.paper.specs.Rows.{Row, Empty, Range, Text, Alt, Seq, Star, row, stretch}
use Rattle.paper.specs.Decide.{reaches, fits, some_in, Test, own_row, level, up_to, accepts}
use Rattle.paper.specs.Terms.{Place, Known, Unknown}
use Rattle.paper.specs.Sheet.{Sheet, Claim, Derived, Contains, Equals, ContainsTerm, Assertion, second_run, inside}
use Rattle.paper.specs.Open.{term_on}
use Rattle.paper.specs.Opens.{allows, pattern, meet, meet_from, can_hold, can_fail, can, possible, opens_on, opens}
use Rattle.paper.proofs.Sound.{SoundClaim}
use Rattle.paper.proofs.Tests.{and_intro, and_left, and_right, same_test, any_intro, any_elim, any_of_cons, all_of_nil, all_of_cons, eqb_same, same_eqb}
use Rattle.walk.specs.Progress.{Alike}
use Rattle.sheet_contents.specs.Ranges.{holds_byte}
use Rattle.alike.specs.Untold.{uses_v, compares_v, some_compares, SoundIn, Inside, Untold}
use Rattle.alike.proofs.Exchange.{Other, One, Swapped, Still, swapped_length, swapped_at, swapped_unknown, swapped_places, term_swapped, still_one, still_at, stretch_other, const_still}

or_false_both : (x y : Bool) → (x || y) ≡ false → (x ≡ false) × (y ≡ false)
or_false_both false y e = (refl, e)
or_false_both true y e = absurd (true≢false e)

-- the bytes from lo to hi that a known place allows: its own, where it is among them
known_in : (s : Sheet) (lo hi x : ℕ) → any_below (suc hi - lo) (λ k. allows s (Known x) (lo + k)) ≡ holds_byte (Range lo hi) x
unfolding allows holds_byte
known_in s lo hi x = same_test _ _ there back
  where
    there : any_below (suc hi - lo) (λ k. eqb (lo + k) x) ≡ true → (leb lo x && leb x hi) ≡ true
    there e =
        let z = any_elim (suc hi - lo) (λ k. eqb (lo + k) x) e in
        let y : lo + z.0 ≡ x = eqb_same (lo + z.0) x z.2 in
        let l = z.1 in
        and_intro (le-leb lo x (omega arith)) (le-leb x hi (omega arith))

    back : (leb lo x && leb x hi) ≡ true → any_below (suc hi - lo) (λ k. eqb (lo + k) x) ≡ true
    back e =
        let l = leb-true lo x (and_left (leb lo x) (leb x hi) e) in
        let m = leb-true x hi (and_right (leb lo x) (leb x hi) e) in
        any_intro (suc hi - lo) (λ k. eqb (lo + k) x) (x - lo) (omega arith) (same_eqb (lo + (x - lo)) x (omega arith))

module _ (s : Sheet) (b c : ℕ) (u : Untold s b c) (k : Inside s) where
  -- ---- one place

  allows_same : {P Q : Place} → One b c P Q → (x : ℕ) → Other b c x → allows s P x ≡ allows s Q x
  unfolding allows
  allows_same One.same x o = refl
  allows_same One.swap x o = rw (ne_eqb x b o.0, ne_eqb x c o.1)

  range_same : {P Q : Place} → One b c P Q → (lo hi : ℕ) → holds_byte (Range lo hi) b ≡ holds_byte (Range lo hi) c
      → any_below (suc hi - lo) (λ i. allows s P (lo + i)) ≡ any_below (suc hi - lo) (λ i. allows s Q (lo + i))
  range_same One.same lo hi e = refl
  range_same One.swap lo hi e = known_in s lo hi b ∙ e ∙ sym (known_in s lo hi c)

  -- against a place that is left alone
  meet_left : {P Q R : Place} → One b c P Q → Still b c R → meet s P R ≡ meet s Q R
  unfolding meet allows
  meet_left One.same r = refl
  meet_left One.swap Still.blank = u.letter_one ∙ sym u.letter_two
  meet_left One.swap (Still.byte {x = x} o) = rw (ne_eqb b x (λ e. o.0 (sym e)), ne_eqb c x (λ e. o.1 (sym e)))

  meet_right : {P Q R : Place} → One b c P Q → Still b c R → meet s R P ≡ meet s R Q
  unfolding meet
  meet_right One.same r = refl
  meet_right One.swap Still.blank = u.letter_one ∙ sym u.letter_two
  meet_right One.swap (Still.byte {x = x} o) = allows_same One.swap x o

  -- ---- claim by claim

  module _ {T T' : List Place} (h : Swapped b c T T') where
    fits_same : (w : List ℕ) → Every (Other b c) w → (i : ℕ) → fits (pattern s T) i w ≡ fits (pattern s T') i w
    unfolding fits pattern
    fits_same [] o i = refl
    fits_same (x ∷ w) o i =
        let e = fits_same w o.1 (suc i) in
        let f = allows_same (swapped_at b c h i Unknown) x o.0 in
        rw (f, e)

    text_same : (off len : ℕ) → off + len ≤ length s.grammar.text → (i : ℕ)
        → fits (pattern s T) i (stretch 0 s.grammar.text off len) ≡ fits (pattern s T') i (stretch 0 s.grammar.text off len)
    text_same off len l i = fits_same (stretch 0 s.grammar.text off len) (stretch_other b c s.grammar.text u.absent_one u.absent_two off len l) i

    own_same : (acc : Test) (q m i : ℕ) (x : Row) → row s.grammar q ≡ x
        → own_row s.grammar (pattern s T) acc q x m i ≡ own_row s.grammar (pattern s T') acc q x m i
    unfolding own_row some_in pattern
    own_same acc q m i Empty e = refl
    own_same acc q m i (Range lo hi) e = ap (λ (y : Bool). eqb m 1 && y) (range_same (swapped_at b c h i Unknown) lo hi (rw e at (u.rows q)))
    own_same acc q m i (Text off len) e = ap (λ (y : Bool). eqb len m && y) (text_same off len (k.rows q off len e) i)
    own_same acc q m i (Alt x y) e = refl
    own_same acc q m i (Seq x y) e = refl
    own_same acc q m i (Star x) e = refl

    level_same : (acc : Test) (m i r : ℕ) → level s.grammar (pattern s T) acc m i r ≡ level s.grammar (pattern s T') acc m i r
    unfolding level
    level_same acc zero i r = refl
    level_same acc (suc m) i r =
        ap (any_below (length s.grammar.rows)) (fun_ext (λ q. ap (λ (y : Bool). reaches s.grammar r q && y) (own_same acc q (suc m) i (row s.grammar q) refl)))

    up_to_same : (f m i r : ℕ) → up_to s.grammar (pattern s T) f m i r ≡ up_to s.grammar (pattern s T') f m i r
    unfolding up_to
    up_to_same zero m i r = level_same (λ l j q. false) m i r
    up_to_same (suc f) m i r =
        level_same (λ l j q. up_to s.grammar (pattern s T) f l j q) m i r ∙
        ap (λ (t : Test). level s.grammar (pattern s T') t m i r) (fun_ext (λ l. fun_ext (λ j. fun_ext (λ q. up_to_same f l j q))))

    accepts_same : (m i r : ℕ) → accepts s.grammar (pattern s T) m i r ≡ accepts s.grammar (pattern s T') m i r
    unfolding accepts
    accepts_same m i r = up_to_same m m i r

  -- one of two terms is left alone: the one that v is compared with
  abbrev Apart : (T U : List Place) → Type 0
  Apart T U = Every (Still b c) T ⊎ Every (Still b c) U

  meets_same : {T T' U U' : List Place} → Swapped b c T T' → Swapped b c U U' → Apart T U → (i j : ℕ)
      → meet s (get_or T i Unknown) (get_or U j Unknown) ≡ meet s (get_or T' i Unknown) (get_or U' j Unknown)
  meets_same {T} {T'} {U} {U'} h g (inl w) i j =
      let x = still_at b c T w i in
      rw (← still_one b c x (swapped_at b c h i Unknown)) (meet_right (swapped_at b c g j Unknown) x)
  meets_same {T} {T'} {U} {U'} h g (inr w) i j =
      let x = still_at b c U w j in
      rw (← still_one b c x (swapped_at b c g j Unknown)) (meet_left (swapped_at b c h i Unknown) x)

  from_same : {T T' U U' : List Place} → Swapped b c T T' → Swapped b c U U' → Apart T U → (i : ℕ) → meet_from s T i U ≡ meet_from s T' i U'
  unfolding meet_from
  from_same {T} {T'} {U} {U'} h g a i = rw (swapped_length b c g) (ap (all_below (length U')) (fun_ext (λ j. meets_same h g a (i + j) j)))

  hold_same : (l : Claim) → SoundClaim (length s.grammar.text) (length s.grammar.rows) (length s.parts) l
      → {T T' U U' : List Place} → Swapped b c T T' → Swapped b c U U' → Apart T U → can_hold s l T U ≡ can_hold s l T' U'
  unfolding can_hold
  hold_same (Derived r) j {T} {T'} h g a = rw (swapped_length b c h, accepts_same h (length T') 0 r)
  hold_same (Contains x y) j {T} {T'} h g a = rw (swapped_length b c h) (ap (any_below (suc (length T') - y)) (fun_ext (text_same h x y j)))
  hold_same (Equals x y) j {T} {T'} {U} {U'} h g a =
      rw (swapped_length b c h, swapped_length b c g, from_same h g a 0)
  hold_same (ContainsTerm x y) j {T} {T'} {U} {U'} h g a =
      rw (swapped_length b c h, swapped_length b c g) (ap (any_below (suc (length T') - length U')) (fun_ext (from_same h g a)))

  -- ---- an assertion, and each

  can_same : (a : Assertion) → SoundIn s a → {T T' U U' : List Place} → Swapped b c T T' → Swapped b c U U' → Apart T U → can s a T U ≡ can s a T' U'
  unfolding can can_fail
  can_same a j h g d =
      let e = hold_same a.claim j.claim h g d in
      let f = swapped_unknown b c h in
      let i = swapped_unknown b c g in
      rw (e, f, i)

  -- an assertion that does not compare v with v has a term without v
  apart : (W : List Place) (a : Assertion) → compares_v s a ≡ false → Apart (term_on s W a.term) (term_on s W (second_run a.claim))
  unfolding compares_v
  apart W a e = go (uses_v s a.term) refl e
    where
      go : (x : Bool) → uses_v s a.term ≡ x → (x && uses_v s (second_run a.claim)) ≡ false → Apart (term_on s W a.term) (term_on s W (second_run a.claim))
      go true i f = inr (const_still s k b c u.absent_one u.absent_two W (second_run a.claim) f)
      go false i f = inl (const_still s k b c u.absent_one u.absent_two W a.term i)

  module _ {W W' : List Place} (h : Swapped b c W W') (n : ℕ) where
    pub possible_same : (a : Assertion) → SoundIn s a → compares_v s a ≡ false
        → possible s n W a ≡ possible s n W' a
    unfolding possible
    possible_same a j e =
        ap (λ (z : Bool). inside s n a && z) (can_same a j (term_swapped b c s h a.term) (term_swapped b c s h (second_run a.claim)) (apart W a e))

    each_same : (l : List Assertion) → Every (SoundIn s) l → any_of (compares_v s) l ≡ false
        → all_of (possible s n W) l ≡ all_of (possible s n W') l
    each_same [] j e = all_of_nil (possible s n W) ∙ sym (all_of_nil (possible s n W'))
    each_same (a ∷ l) j e =
        let d = or_false_both (compares_v s a) (any_of (compares_v s) l) (rw (any_of_cons (compares_v s) a l) at e) in
        let f = possible_same a j.0 d.0 in
        let g = each_same l j.1 d.1 in
        rw (all_of_cons (possible s n W) a l, all_of_cons (possible s n W') a l, f, g)

    opens_same : some_compares s ≡ false → opens_on s n W ≡ opens_on s n W'
    unfolding opens_on some_compares
    opens_same e = each_same s.assertions k.assertions e

  -- wherever the one stands in a prefix, the other is as good
  pub untold_alike : some_compares s ≡ false → Alike (opens s) b c
  unfolding opens
  untold_alike e n p q = opens_same (swapped_places b c n p q) n e
