-- Places and the words that fill them: by pattern, in parts, and where every place is known.
-- Assumes nothing.
use Prim.Native.Nat.{ℕ, zero, suc, ◌-◌, ◌≤◌, ◌<◌}
use mathlib.Core.Path.{◌≡◌, refl, sym, ap, ◌∙◌}
use mathlib.Core.Bool.{Bool, true, ◌&&◌, true≢false}
use mathlib.Core.Logic.{◌⊎◌, inl, inr}
use mathlib.Core.List.{List, [], ◌∷◌, ◌++◌, map, map-id, map-append, append-nil, append_assoc}
use native.Mathlib.Omega.{arith}
use native.Mathlib.Nat.{not-suc-le-zero}
use lib.ListN.{length, get_or, take, drop, replicate, length-append}
use Rattle.paper.specs.Tests.{any_of}
use Rattle.paper.specs.Rows.{stretch}
use Rattle.paper.specs.Compare.{same_byte, Same}
use Rattle.paper.specs.Decide.{fits}
use Rattle.paper.specs.Terms.{Part, Const, All, Cut, Place, Known, Unknown, places_of, piece, term}
use Rattle.paper.specs.Sheet.{Sheet, Run, letter, parts_of}
use Rattle.paper.specs.Satisfy.{term_word, Letters}
use Rattle.paper.specs.Open.{term_on, Fills, SomeUnknown}
use Rattle.paper.specs.Opens.{allows, pattern, is_unknown}
use Rattle.paper.proofs.Comparing.{byte_refl}
use Rattle.paper.proofs.Tests.{and_intro, and_left, and_right, eqb_same, or_right, any_of_nil, any_of_cons, any_of_append}

-- ---- known places

pub known_injective : (t u : List ℕ) → map Known t ≡ map Known u → t ≡ u
known_injective [] [] e = refl
known_injective [] (b ∷ u) e = absurd (let z : ◌≡◌ {A = ℕ} 0 1 = cc in omega arith)
known_injective (a ∷ t) [] e = absurd (let z : ◌≡◌ {A = ℕ} 0 1 = cc in omega arith)
known_injective (a ∷ t) (b ∷ u) e =
    let p : a ≡ b = cc in
    let q : map Known t ≡ map Known u = cc in
    let r = known_injective t u q in
    cc

-- some place is unknown, or each is known
pub unknown_or_known : (T : List Place) → SomeUnknown T ⊎ ((t : List ℕ) × (T ≡ map Known t))
unknown_or_known [] = inr ([], refl)
unknown_or_known (Unknown ∷ T) = inl ([], T, refl)
unknown_or_known (Known b ∷ T) = go (unknown_or_known T)
  where
    go : SomeUnknown T ⊎ ((t : List ℕ) × (T ≡ map Known t)) → SomeUnknown (Known b ∷ T) ⊎ ((t : List ℕ) × (Known b ∷ T ≡ map Known t))
    go (inl (x, y, e)) = inl (Known b ∷ x, y, ap (λ (l : List Place). Known b ∷ l) e)
    go (inr (t, e)) = inr (b ∷ t, ap (λ (l : List Place). Known b ∷ l) e)

pub unknown_left : (T U : List Place) → SomeUnknown T → SomeUnknown (T ++ U)
unknown_left T U (x, y, e) = (x, y ++ U, rw e (append_assoc x (Unknown ∷ y) U))

pub unknown_right : (T U : List Place) → SomeUnknown U → SomeUnknown (T ++ U)
unknown_right T U (x, y, e) = (T ++ x, y, rw e (sym (append_assoc T x (Unknown ∷ y))))

pub known_no_unknown : (t : List ℕ) → SomeUnknown (map Known t) → ⊥
known_no_unknown [] ([], y, e) = let z : ◌≡◌ {A = ℕ} 0 1 = cc in omega arith
known_no_unknown [] (p ∷ x, y, e) = let z : ◌≡◌ {A = ℕ} 0 1 = cc in omega arith
known_no_unknown (b ∷ t) ([], y, e) = let z : ◌≡◌ {A = ℕ} 0 1 = cc in omega arith
known_no_unknown (b ∷ t) (p ∷ x, y, e) =
    let q : map Known t ≡ x ++ (Unknown ∷ y) = cc in
    known_no_unknown t (x, y, q)

pub some_unknown : (T : List Place) → any_of is_unknown T ≡ true → SomeUnknown T
unfolding is_unknown
some_unknown [] e = absurd (true≢false (sym (rw (any_of_nil is_unknown) at e)))
some_unknown (Unknown ∷ T) e = ([], T, refl)
some_unknown (Known b ∷ T) e =
    let r = some_unknown T (rw (any_of_cons is_unknown (Known b) T) at e) in
    (Known b ∷ r.0, r.1, ap (λ (l : List Place). Known b ∷ l) r.2)

pub unknown_some : (T : List Place) → SomeUnknown T → any_of is_unknown T ≡ true
unfolding is_unknown
unknown_some T (x, y, e) = rw (e, any_of_append is_unknown x (Unknown ∷ y), any_of_cons is_unknown Unknown y) (or_right (any_of is_unknown x) true refl)

module _ (s : Sheet) where
  -- ---- the words that fill a list of places

  pub fills_known : (t : List ℕ) → Fills s (map Known t) t
  fills_known [] = Fills.none
  fills_known (b ∷ t) = Fills.known (fills_known t)

  -- where each place is known there is no other
  pub fills_only : {T : List Place} {u : List ℕ} → Fills s T u → (t : List ℕ) → T ≡ map Known t → u ≡ t
  fills_only Fills.none [] e = refl
  fills_only Fills.none (c ∷ t) e = absurd (let z : ◌≡◌ {A = ℕ} 0 1 = cc in omega arith)
  fills_only (Fills.known f) [] e = absurd (let z : ◌≡◌ {A = ℕ} 0 1 = cc in omega arith)
  fills_only (Fills.known {b = b} {ps = T} {w = w} f) (c ∷ t) e =
      let p : b ≡ c = cc in
      let q : T ≡ map Known t = cc in
      let r = fills_only f t q in
      cc
  fills_only (Fills.filled l f) [] e = absurd (let z : ◌≡◌ {A = ℕ} 0 1 = cc in omega arith)
  fills_only (Fills.filled l f) (c ∷ t) e = absurd (let z : ◌≡◌ {A = ℕ} 0 1 = cc in omega arith)

  pub fills_length : {T : List Place} {t : List ℕ} → Fills s T t → length t ≡ length T
  fills_length Fills.none = refl
  fills_length (Fills.known f) = ap suc (fills_length f)
  fills_length (Fills.filled l f) = ap suc (fills_length f)

  pub fills_append : {T U : List Place} {t u : List ℕ} → Fills s T t → Fills s U u → Fills s (T ++ U) (t ++ u)
  fills_append Fills.none g = g
  fills_append (Fills.known f) g = Fills.known (fills_append f g)
  fills_append (Fills.filled l f) g = Fills.filled l (fills_append f g)

  pub fills_take : {T : List Place} {t : List ℕ} → Fills s T t → (i : ℕ) → Fills s (take i T) (take i t)
  fills_take f zero = Fills.none
  fills_take Fills.none (suc i) = Fills.none
  fills_take (Fills.known f) (suc i) = Fills.known (fills_take f i)
  fills_take (Fills.filled l f) (suc i) = Fills.filled l (fills_take f i)

  pub fills_drop : {T : List Place} {t : List ℕ} → Fills s T t → (i : ℕ) → Fills s (drop i T) (drop i t)
  fills_drop f zero = f
  fills_drop Fills.none (suc i) = Fills.none
  fills_drop (Fills.known f) (suc i) = fills_drop f i
  fills_drop (Fills.filled l f) (suc i) = fills_drop f i

  -- a letter fills every unknown place
  pub letter_fills : (b : ℕ) → letter s b ≡ true → (T : List Place) → (t : List ℕ) × Fills s T t
  letter_fills b l [] = ([], Fills.none)
  letter_fills b l (Known x ∷ T) = let r = letter_fills b l T in (x ∷ r.0, Fills.known r.1)
  letter_fills b l (Unknown ∷ T) = let r = letter_fills b l T in (b ∷ r.0, Fills.filled l r.1)

  -- a place allows a byte exactly when it can hold one that is the same
  pub allows_fills : (P : Place) (b : ℕ) → allows s P b ≡ true → (c : ℕ) × (same_byte b c ≡ true) × Fills s (P ∷ []) (c ∷ [])
  unfolding allows
  allows_fills (Known x) b e = (x, e, Fills.known Fills.none)
  allows_fills Unknown b e = (b, byte_refl b, Fills.filled e Fills.none)

  pub fills_allows : {P : Place} {c : ℕ} → Fills s (P ∷ []) (c ∷ []) → (b : ℕ) → same_byte b c ≡ true → allows s P b ≡ true
  unfolding allows
  fills_allows (Fills.known f) b e = e
  fills_allows (Fills.filled {b = c} l f) b e = rw (eqb_same b c e) l

  -- the byte at a place fills it
  pub fills_below : {T : List Place} {t : List ℕ} → Fills s T t → (P : Place) (i : ℕ) → i < length T → Fills s (get_or T i P ∷ []) (get_or t i 0 ∷ [])
  fills_below Fills.none P i h = absurd (not-suc-le-zero h)
  fills_below (Fills.known f) P zero h = Fills.known Fills.none
  fills_below (Fills.known f) P (suc i) h = fills_below f P i (omega arith)
  fills_below (Fills.filled l f) P zero h = Fills.filled l Fills.none
  fills_below (Fills.filled l f) P (suc i) h = fills_below f P i (omega arith)

  -- ---- filling and fitting

  fits_next : (P : Place) (T : List Place) (i : ℕ) (w : List ℕ) → fits (pattern s (P ∷ T)) (suc i) w ≡ fits (pattern s T) i w
  unfolding fits pattern
  fits_next P T i [] = refl
  fits_next P T i (b ∷ w) = ap (λ (r : Bool). allows s (get_or T i Unknown) b && r) (fits_next P T (suc i) w)

  pub fits_drop : (T : List Place) (i : ℕ) (w : List ℕ) → i ≤ length T → fits (pattern s T) i w ≡ fits (pattern s (drop i T)) 0 w
  fits_drop T zero w h = refl
  fits_drop [] (suc i) w h = absurd (not-suc-le-zero h)
  fits_drop (P ∷ T) (suc i) w h = fits_next P T i w ∙ fits_drop T i w (omega arith)

  -- where a word fits the first places, one that is the same fills them
  pub fits_fills : (T : List Place) (w : List ℕ) → length w ≤ length T → fits (pattern s T) 0 w ≡ true → (t : List ℕ) × Same w t × Fills s (take (length w) T) t
  unfolding fits pattern
  fits_fills T [] h e = ([], tt, Fills.none)
  fits_fills [] (b ∷ w) h e = absurd (not-suc-le-zero h)
  fits_fills (P ∷ T) (b ∷ w) h e =
      let c = allows_fills P b (and_left (allows s P b) _ e) in
      let r = fits_fills T w (omega arith) (sym (fits_next P T 0 w) ∙ and_right (allows s P b) _ e) in
      (c.0 ∷ r.0, (c.1, r.1), fills_append c.2 r.2)

  -- what is the same as the start of a word that fills the places fits them
  pub fills_fits : {T : List Place} {t : List ℕ} → Fills s T t → (w m y : List ℕ) → t ≡ m ++ y → Same w m → fits (pattern s T) 0 w ≡ true
  unfolding fits pattern
  fills_fits f [] m y e h = refl
  fills_fits f (c ∷ w) [] y e h = absurd h
  fills_fits Fills.none (c ∷ w) (d ∷ m) y e h = absurd (let z : ◌≡◌ {A = ℕ} 0 1 = cc in omega arith)
  fills_fits (Fills.known {b = b} {ps = T} {w = t} f) (c ∷ w) (d ∷ m) y e h =
      let p : d ≡ b = cc in
      let q : t ≡ m ++ y = cc in
      and_intro (fills_allows (Fills.known {b = b} Fills.none) c (rw p at h.0)) (fits_next (Known b) T 0 w ∙ fills_fits f w m y q h.1)
  fills_fits (Fills.filled {b = b} {ps = T} {w = t} l f) (c ∷ w) (d ∷ m) y e h =
      let p : d ≡ b = cc in
      let q : t ≡ m ++ y = cc in
      and_intro (fills_allows (Fills.filled {b = b} l Fills.none) c (rw p at h.0)) (fits_next Unknown T 0 w ∙ fills_fits f w m y q h.1)

  -- ---- terms: what fills v fills a term of v, each use of v alike

  pub fills_term : (text : List ℕ) {T : List Place} {v : List ℕ} → Fills s T v → (ps : List Part) → Fills s (term Known text T ps) (term (λ b. b) text v ps)
  unfolding term piece
  fills_term text f [] = Fills.none
  fills_term text f (Const a b ∷ ps) =
      let g : Fills s (map Known (stretch 0 text a b)) (map (λ x. x) (stretch 0 text a b)) = rw map-id (fills_known (stretch 0 text a b)) in
      fills_append g (fills_term text f ps)
  fills_term text f (All ∷ ps) = fills_append f (fills_term text f ps)
  fills_term text f (Cut a b ∷ ps) = fills_append (fills_take (fills_drop f a) b) (fills_term text f ps)

  letters_fill : (v : List ℕ) → Letters s v → Fills s (replicate (length v) Unknown) v
  letters_fill [] h = Fills.none
  letters_fill (b ∷ v) h = Fills.filled h.0 (letters_fill v h.1)

  -- a key of letters fills the places under each of its prefixes
  pub prefix_fills : (p v : List ℕ) → Letters s v → (r : Run) → Fills s (term_on s (places_of (length (p ++ v)) p) r) (term_word s (p ++ v) r)
  unfolding term_on term_word places_of
  prefix_fills p v h r =
      let e : length (p ++ v) - length p ≡ length v = omega (arith, length-append p v) in
      fills_term s.grammar.text (rw e (fills_append (fills_known p) (letters_fill v h))) (parts_of s r)

-- ---- at a full prefix every place is known

take_known : (n : ℕ) (v : List ℕ) → take n (map Known v) ≡ map Known (take n v)
take_known zero v = refl
take_known (suc n) [] = refl
take_known (suc n) (b ∷ v) = ap (λ (l : List Place). Known b ∷ l) (take_known n v)

drop_known : (n : ℕ) (v : List ℕ) → drop n (map Known v) ≡ map Known (drop n v)
drop_known zero v = refl
drop_known (suc n) [] = refl
drop_known (suc n) (b ∷ v) = drop_known n v

term_known : (text v : List ℕ) (ps : List Part) → term Known text (map Known v) ps ≡ map Known (term (λ b. b) text v ps)
unfolding term piece
term_known text v [] = refl
term_known text v (Const a b ∷ ps) =
    let e = term_known text v ps in
    rw (e, map-id) (sym (map-append Known (stretch 0 text a b) (term (λ b. b) text v ps)))
term_known text v (All ∷ ps) =
    let e = term_known text v ps in
    rw e (sym (map-append Known v (term (λ b. b) text v ps)))
term_known text v (Cut a b ∷ ps) =
    let e = term_known text v ps in
    rw (e, drop_known a v, take_known b (drop a v)) (sym (map-append Known (take b (drop a v)) (term (λ b. b) text v ps)))

pub places_known : (s : Sheet) (w : List ℕ) (r : Run) → term_on s (places_of (length w) w) r ≡ map Known (term_word s w r)
unfolding term_on term_word places_of
places_known s w r =
    let e : length w - length w ≡ 0 = omega arith in
    rw (e, append-nil) (term_known s.grammar.text w (parts_of s r))
