-- A constant that a term contains is the case of a constant term: kind 2 comes out as kind 4 with the term of that constant.
-- Assumes nothing.
use Prim.Native.Nat.{ℕ, zero, suc, ◌+◌, ◌-◌, ◌<◌}
use mathlib.Core.Path.{◌≡◌, refl, sym, ap, ◌∙◌, fun_ext}
use mathlib.Core.Bool.{Bool, true, false}
use mathlib.Core.Logic.{◌↔◌}
use mathlib.Core.List.{List, [], ◌∷◌, map, map-id, append-nil}
use native.Mathlib.Omega.{arith}
use native.Mathlib.Nat.{not-suc-le-zero}
use lib.ListN.{length, get_or, length-map}
use Rattle.paper.specs.Tests.{any_below, all_below, any_of}
use Rattle.paper.specs.Rows.{stretch}
use Rattle.paper.specs.Decide.{fits}
use Rattle.paper.specs.Terms.{Const, Place, Known, Unknown, piece, term, cut_inside}
use Rattle.paper.specs.Sheet.{Sheet, Claim, Contains, ContainsTerm, Assertion, Run, parts_of, inside}
use Rattle.paper.specs.Satisfy.{term_word, Met}
use Rattle.paper.specs.Open.{term_on}
use Rattle.paper.specs.Opens.{allows, pattern, meet, meet_from, can_hold, is_unknown, can_fail, can, possible}
use Rattle.paper.proofs.Tests.{same_test, all_intro, all_elim, any_of_nil, any_of_cons, all_of_nil, all_of_cons, any_none}
use Rattle.paper.proofs.Comparing.{byte_sym}
use Rattle.paper.proofs.Derivation.{stretch_length, fits_at, at_fits}

known_at : (w : List ℕ) (j : ℕ) → j < length w → get_or (map Known w) j Unknown ≡ Known (get_or w j 0)
known_at [] j h = absurd (not-suc-le-zero h)
known_at (b ∷ w) zero h = refl
known_at (b ∷ w) (suc j) h = known_at w j (omega arith)

none_unknown : (w : List ℕ) → any_of is_unknown (map Known w) ≡ false
unfolding is_unknown
none_unknown [] = any_of_nil is_unknown
none_unknown (b ∷ w) = any_of_cons is_unknown (Known b) (map Known w) ∙ none_unknown w

module _ (s : Sheet) where
  meet_known : (P : Place) (x : ℕ) → meet s P (Known x) ≡ allows s P x
  unfolding meet allows
  meet_known (Known y) x = same_test _ _ (byte_sym y x) (byte_sym x y)
  meet_known Unknown x = refl

  -- the places from i on and those of the word meet at j
  abbrev meet_at : List Place → ℕ → List ℕ → ℕ → Bool
  meet_at T i w j = meet s (get_or T (i + j) Unknown) (get_or (map Known w) j Unknown)

  -- a word fits the places from i on exactly when its places, each known, meet them
  fits_meets : (T : List Place) (i : ℕ) (w : List ℕ) → fits (pattern s T) i w ≡ meet_from s T i (map Known w)
  unfolding meet_from pattern
  fits_meets T i w = same_test _ _ there back
    where
      at_is : (j : ℕ) → j < length w → meet_at T i w j ≡ allows s (get_or T (i + j) Unknown) (get_or w j 0)
      at_is j l = rw (known_at w j l) (meet_known (get_or T (i + j) Unknown) (get_or w j 0))

      there : fits (pattern s T) i w ≡ true → all_below (length (map Known w)) (meet_at T i w) ≡ true
      there e = all_intro (length (map Known w)) (meet_at T i w) (λ j h. let l : j < length w = rw length-map at h in at_is j l ∙ fits_at (pattern s T) i w e j l)

      back : all_below (length (map Known w)) (meet_at T i w) ≡ true → fits (pattern s T) i w ≡ true
      back e = at_fits (pattern s T) i w (λ j l. sym (at_is j l) ∙ all_elim (length (map Known w)) (meet_at T i w) e j (rw length-map l))

  -- a constant longer than the term is contained in it nowhere
  pub too_long : (a b : ℕ) (T U : List Place) → length T < b → can_hold s (Contains a b) T U ≡ false
  unfolding can_hold
  too_long a b T U h =
      let e : suc (length T) - b ≡ 0 = omega arith in
      rw e (any_none (λ i. fits (pattern s T) i (stretch 0 s.grammar.text a b)))

  no_parts : (W : List Place) → term_on s W (record { first = 0; count = 0 }) ≡ []
  unfolding term_on parts_of term
  no_parts W = refl

  -- the term of one part, a constant
  module _ (a b : ℕ) (r : Run) (one : parts_of s r ≡ Const a b ∷ []) where
    abbrev constant : List ℕ
    constant = stretch 0 s.grammar.text a b

    abbrev asked : Claim → Bool → Run → Assertion
    asked c d t = record { claim = c; denied = d; term = t }

    abbrev contains_term : Claim
    contains_term = ContainsTerm r.first r.count

    word_is : (w : List ℕ) → term_word s w r ≡ constant
    unfolding term_word term piece
    word_is w = rw one (append-nil (map (λ x. x) constant) ∙ map-id constant)

    places_are : (W : List Place) → term_on s W r ≡ map Known constant
    unfolding term_on term piece
    places_are W = rw one (append-nil (map Known constant))

    hold_alike : (T U : List Place) → can_hold s (Contains a b) T U ≡ can_hold s contains_term T (map Known constant)
    unfolding can_hold
    hold_alike T U = rw (length-map, stretch_length) (ap (any_below (suc (length T) - b)) (fun_ext (λ i. fits_meets T i constant)))

    inside_alike : (d : Bool) (t : Run) (n : ℕ) → inside s n (asked (Contains a b) d t) ≡ inside s n (asked contains_term d t)
    unfolding inside parts_of cut_inside
    inside_alike d t n = rw (one, all_of_cons (cut_inside s.rules n) (Const a b) [], all_of_nil (cut_inside s.rules n))

    -- met alike, by every word
    pub met_alike : (d : Bool) (t : Run) (w : List ℕ) → Met s w (asked (Contains a b) d t) ↔ Met s w (asked contains_term d t)
    met_alike d t w = (
      λ m. record { within = sym (inside_alike d t (length w)) ∙ m.within; holds = rw (word_is w) m.holds },
      λ m. record { within = inside_alike d t (length w) ∙ m.within; holds = rw (word_is w) at m.holds },
    )

    -- possible alike, for every prefix at every length
    pub possible_alike : (d : Bool) (t : Run) (n : ℕ) (W : List Place) → possible s n W (asked (Contains a b) d t) ≡ possible s n W (asked contains_term d t)
    unfolding possible can can_fail
    possible_alike d t n W =
        rw (inside_alike d t n, places_are W, no_parts W, hold_alike (term_on s W t) [], none_unknown constant, any_of_nil is_unknown)
