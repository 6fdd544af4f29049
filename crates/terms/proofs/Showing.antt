-- What a `Places` stands for: made of bytes, pasted to, cut.
use Prim.Native.Nat.{ℕ, zero, suc, ◌+◌, ◌-◌, ◌<◌, ◌≤◌, min}
use mathlib.Core.Path.{◌≡◌, refl, sym, ap, ◌∙◌}
use mathlib.Core.List.{List, [], ◌∷◌, ◌++◌, map, map-append}
use native.Mathlib.Omega.{arith}
use native.Mathlib.Decide.{dec_lt}
use lib.ListN.{length, take, drop, replicate, length-map, length-drop}
use lib.Seq.{length-take-le, take-append-add, take-take, take_all}
use Rattle.std.specs.Prelude.{Option, None}
use Rattle.std.proofs.lemmas.List.{length-take, take-map, drop-map, take-replicate}
use Rattle.paper.specs.Rows.{stretch}
use Rattle.paper.specs.Terms.{Place, Known, Unknown, places_of}
use Rattle.paper.proofs.Derivation.{stretch_part}
use Rattle.workspace.specs.Places.{place_of, places_in}
use Rattle.terms.specs.declared.places.Places.{Places}
use Rattle.terms.specs.Shown.{placed, shown, known_places}

known_shown : (s : List ℕ) → places_in (known_places s) ≡ map Known s
unfolding places_in place_of known_places
known_shown [] = refl
known_shown (x ∷ s) = ap (λ (t : List Place). Known x ∷ t) (known_shown s)

pub known_length : (s : List ℕ) → length (known_places s) ≡ length s
unfolding known_places
known_length s = length-map s _

pub places_append : (s t : List (Option ℕ)) → places_in (s ++ t) ≡ places_in s ++ places_in t
unfolding places_in
places_append s t = map-append place_of s t

pub places_length : (s : List (Option ℕ)) → length (places_in s) ≡ length s
unfolding places_in
places_length s = length-map s place_of

pub placed_length : (p : Places) → length (placed p) ≡ p.len
placed_length p =
    let r = p.room in
    let l = p.long in
    length-take-le p.len p.of (omega arith)

pub shown_length : (p : Places) → length (shown p) ≡ p.len
unfolding shown
shown_length p = places_length (placed p) ∙ placed_length p

-- ---- all of v

unknown_places : (n : ℕ) → places_in (replicate n None) ≡ replicate n Unknown
unfolding places_in place_of
unknown_places zero = refl
unknown_places (suc n) = ap (λ (u : List Place). Unknown ∷ u) (unknown_places n)

pub v_shown : (s : List ℕ) (n : ℕ) → length s ≤ n → n ≤ 60 → places_in (take n (known_places s ++ replicate (60 - length s) None)) ≡ places_of n s
unfolding places_of
v_shown s n h k =
    let l = known_length s in
    ap places_in (past (known_places s) (replicate (60 - length s) None) n (omega arith))
    ∙ places_append (known_places s) (take (n - length (known_places s)) (replicate (60 - length s) None))
    ∙ rw (known_shown s, take-replicate {X = Option ℕ} (n - length (known_places s)) (60 - length s) None (omega arith), unknown_places, l)
  where
    past : (s t : List (Option ℕ)) (n : ℕ) → length s ≤ n → take n (s ++ t) ≡ s ++ take (n - length s) t
    past s t n h = let z : length s + (n - length s) ≡ n = omega arith in rw z at (take-append-add s t (n - length s))

-- ---- a part of v, and of the text

-- b places from a on of the first n
abbrev pub cut_of : (a b n : ℕ) → List (Option ℕ) → List (Option ℕ)
cut_of a b n t = take b (drop a (take n t))

drop_first : (a n : ℕ) (t : List (Option ℕ)) → drop a (take n t) ≡ take (n - a) (drop a t)
drop_first zero n t = let z : n - 0 ≡ n = omega arith in rw z
drop_first (suc a) zero t = let z : 0 - suc a ≡ 0 = omega arith in rw z
drop_first (suc a) (suc n) [] = let z : suc n - suc a ≡ n - a = omega arith in rw z (sym (take_all (n - a) [] (omega arith)))
drop_first (suc a) (suc n) (x ∷ t) = let z : suc n - suc a ≡ n - a = omega arith in rw z (drop_first a n t)

-- they end at n, or after b places
pub cut_ends : (a b n : ℕ) (t : List (Option ℕ)) → take (min n (a + b) - a) (drop a t) ≡ cut_of a b n t
cut_ends a b n t = rw (drop_first a n t) (go (dec_lt (n - a) b))
  where
    go : Dec (n - a < b) → take (min n (a + b) - a) (drop a t) ≡ take b (take (n - a) (drop a t))
    go (yes l) = let z : min n (a + b) - a ≡ n - a = omega arith in rw z (sym (take_all b (take (n - a) (drop a t)) (omega (arith, length-take (n - a) (drop a t)))))
    go (no l) = let z : min n (a + b) - a ≡ b = omega arith in rw z (sym (take-take b (n - a) (drop a t) (omega arith)))

pub cut_shown : (v : Places) (a b : ℕ) → places_in (cut_of a b v.len v.of) ≡ take b (drop a (shown v))
unfolding shown places_in
cut_shown v a b = sym (ap (take b) (drop-map place_of a (take v.len v.of)) ∙ take-map place_of b (drop a (take v.len v.of)))

pub text_known : (t : List ℕ) (a b : ℕ) → a + b ≤ length t → places_in (known_places (take b (drop a t))) ≡ map Known (stretch 0 t a b)
text_known t a b h = rw (stretch_part t a b h) (known_shown (take b (drop a t)))

pub part_length : (t : List ℕ) (a b : ℕ) → a + b ≤ length t → length (take b (drop a t)) ≡ b
part_length t a b h = length-take-le b (drop a t) (rw length-drop (omega arith))
