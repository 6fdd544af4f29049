-- One byte exchanged for another at places of v: what becomes of the places of a term.
-- Assumes nothing.
use Prim.Native.Nat.{ℕ, zero, suc, ◌+◌, ◌-◌, ◌≤◌}
use mathlib.Core.Path.{◌≡◌, refl, ap}
use mathlib.Core.Bool.{false, true≢false}
use mathlib.Core.List.{List, [], ◌∷◌, ◌++◌, map}
use native.Mathlib.Omega.{arith}
use lib.ListN.{length, get_or, take, drop, replicate, length-append, take-append-drop}
use Rattle.paper.specs.Tests.{any_of, Every}
use Rattle.paper.specs.Rows.{stretch}
use Rattle.paper.specs.Terms.{Part, Const, All, Cut, Place, Known, Unknown, places_of, piece, term}
use Rattle.paper.specs.Sheet.{Sheet, Run, parts_of}
use Rattle.paper.specs.Open.{term_on}
use Rattle.paper.specs.Opens.{is_unknown}
use Rattle.paper.proofs.Sound.{SoundPart}
use Rattle.paper.proofs.Tests.{any_of_cons, every_append, every_left, every_right}
use Rattle.alike.specs.Untold.{Absent, of_v, uses_v, Inside}

-- a byte that is neither b nor c
abbrev pub Other : ℕ → ℕ → ℕ → Type 0
Other b c x = (x ≡ b → ⊥) × (x ≡ c → ⊥)

-- a place of the one list and of the other: the same, or b and c
pub data One (b c : ℕ) : Place → Place → Type 0 where
  same : {P : Place} → One b c P P
  swap : One b c (Known b) (Known c)

pub data Swapped (b c : ℕ) : List Place → List Place → Type 0 where
  none : Swapped b c [] []
  more : {P Q : Place} {T U : List Place} → One b c P Q → Swapped b c T U → Swapped b c (P ∷ T) (Q ∷ U)

-- a place that the exchange leaves alone
pub data Still (b c : ℕ) : Place → Type 0 where
  blank : Still b c Unknown
  byte : {x : ℕ} → Other b c x → Still b c (Known x)

module _ (b c : ℕ) where
  swapped_same : (T : List Place) → Swapped b c T T
  swapped_same [] = Swapped.none
  swapped_same (P ∷ T) = Swapped.more One.same (swapped_same T)

  swapped_append : {T U X Y : List Place} → Swapped b c T U → Swapped b c X Y → Swapped b c (T ++ X) (U ++ Y)
  swapped_append Swapped.none g = g
  swapped_append (Swapped.more o h) g = Swapped.more o (swapped_append h g)

  swapped_take : {T U : List Place} → Swapped b c T U → (n : ℕ) → Swapped b c (take n T) (take n U)
  swapped_take h zero = Swapped.none
  swapped_take Swapped.none (suc n) = Swapped.none
  swapped_take (Swapped.more o h) (suc n) = Swapped.more o (swapped_take h n)

  swapped_drop : {T U : List Place} → Swapped b c T U → (n : ℕ) → Swapped b c (drop n T) (drop n U)
  swapped_drop h zero = h
  swapped_drop Swapped.none (suc n) = Swapped.none
  swapped_drop (Swapped.more o h) (suc n) = swapped_drop h n

  pub swapped_length : {T U : List Place} → Swapped b c T U → length T ≡ length U
  swapped_length Swapped.none = refl
  swapped_length (Swapped.more o h) = ap suc (swapped_length h)

  pub swapped_at : {T U : List Place} → Swapped b c T U → (i : ℕ) (d : Place) → One b c (get_or T i d) (get_or U i d)
  swapped_at Swapped.none i d = One.same
  swapped_at (Swapped.more o h) zero d = o
  swapped_at (Swapped.more o h) (suc i) d = swapped_at h i d

  -- as many places are unknown
  pub swapped_unknown : {T U : List Place} → Swapped b c T U → any_of is_unknown T ≡ any_of is_unknown U
  unfolding is_unknown
  swapped_unknown Swapped.none = refl
  swapped_unknown (Swapped.more {P = P} {T = T} {U = U} One.same h) =
      let e = swapped_unknown h in
      rw (any_of_cons is_unknown P T, any_of_cons is_unknown P U, e)
  swapped_unknown (Swapped.more {T = T} {U = U} One.swap h) =
      let e = swapped_unknown h in
      rw (any_of_cons is_unknown (Known b) T, any_of_cons is_unknown (Known c) U, e)

  -- ---- the places of v under a prefix, and of a term

  swapped_bytes : (p q : List ℕ) → Swapped b c (map Known (p ++ (b ∷ q))) (map Known (p ++ (c ∷ q)))
  swapped_bytes [] q = Swapped.more One.swap (swapped_same (map Known q))
  swapped_bytes (x ∷ p) q = Swapped.more One.same (swapped_bytes p q)

  pub swapped_places : (n : ℕ) (p q : List ℕ) → Swapped b c (places_of n (p ++ (b ∷ q))) (places_of n (p ++ (c ∷ q)))
  unfolding places_of
  swapped_places n p q =
      let e : length (p ++ (b ∷ q)) ≡ length (p ++ (c ∷ q)) = simp length-append in
      swapped_append (swapped_bytes p q) (rw e (swapped_same (replicate (n - length (p ++ (c ∷ q))) Unknown)))

  swapped_term : (text : List ℕ) {W X : List Place} → Swapped b c W X → (ps : List Part) → Swapped b c (term Known text W ps) (term Known text X ps)
  unfolding term piece
  swapped_term text h [] = Swapped.none
  swapped_term text h (Const a n ∷ ps) = swapped_append (swapped_same (map Known (stretch 0 text a n))) (swapped_term text h ps)
  swapped_term text h (All ∷ ps) = swapped_append h (swapped_term text h ps)
  swapped_term text h (Cut a n ∷ ps) = swapped_append (swapped_take (swapped_drop h a) n) (swapped_term text h ps)

  pub term_swapped : (s : Sheet) {W X : List Place} → Swapped b c W X → (r : Run) → Swapped b c (term_on s W r) (term_on s X r)
  unfolding term_on
  term_swapped s h r = swapped_term s.grammar.text h (parts_of s r)

  -- ---- places that are left alone

  pub still_one : {P Q : Place} → Still b c P → One b c P Q → P ≡ Q
  still_one h One.same = refl
  still_one (Still.byte o) One.swap = absurd (o.0 refl)

  -- past the end a place counts as unknown
  pub still_at : (T : List Place) → Every (Still b c) T → (i : ℕ) → Still b c (get_or T i Unknown)
  still_at [] h i = Still.blank
  still_at (P ∷ T) h zero = h.0
  still_at (P ∷ T) h (suc i) = still_at T h.1 i

-- ---- a term without v: each of its places is left alone

run_every : {A : Type 0} (P : A → Type 0) (a n : ℕ) (l : List A) → Every P l → Every P (take n (drop a l))
run_every P a n l h =
    every_left P (take n (drop a l)) (drop n (drop a l)) (rw take-append-drop (every_right P (take a l) (drop a l) (rw take-append-drop h)))

module _ (b c : ℕ) (text : List ℕ) (one : Absent text b) (two : Absent text c) where
  -- a stretch of the text has neither
  pub stretch_other : (a n : ℕ) → a + n ≤ length text → Every (Other b c) (stretch 0 text a n)
  unfolding stretch
  stretch_other a zero h = tt
  stretch_other a (suc n) h = ((one a (omega arith), two a (omega arith)), stretch_other (suc a) n (omega arith))

  still_bytes : (w : List ℕ) → Every (Other b c) w → Every (Still b c) (map Known w)
  still_bytes [] h = tt
  still_bytes (x ∷ w) h = (Still.byte h.0, still_bytes w h.1)

  still_term : (W : List Place) (ps : List Part) → any_of of_v ps ≡ false → Every (SoundPart (length text)) ps → Every (Still b c) (term Known text W ps)
  unfolding term piece of_v
  still_term W [] e h = tt
  still_term W (Const a n ∷ ps) e h =
      every_append (Still b c) (map Known (stretch 0 text a n)) (term Known text W ps) (still_bytes (stretch 0 text a n) (stretch_other a n h.0))
      (still_term W ps (rw (any_of_cons of_v (Const a n) ps) at e) h.1)
  still_term W (All ∷ ps) e h = absurd (true≢false (rw (any_of_cons of_v All ps) at e))
  still_term W (Cut a n ∷ ps) e h = absurd (true≢false (rw (any_of_cons of_v (Cut a n) ps) at e))

pub const_still : (s : Sheet) → Inside s → (b c : ℕ) → Absent s.grammar.text b → Absent s.grammar.text c → (W : List Place) (r : Run)
    → uses_v s r ≡ false → Every (Still b c) (term_on s W r)
unfolding term_on uses_v parts_of
const_still s i b c one two W r e =
    let text = s.grammar.text in
    still_term b c text one two W (parts_of s r) e (run_every (SoundPart (length text)) r.first r.count s.parts i.parts)
