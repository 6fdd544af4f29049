-- The walk's outcome: the word found satisfies and no key that satisfies is before it; none is said exactly where no key satisfies.
-- Assumes nothing.
use Prim.Native.Nat.{ℕ, zero, suc, ◌+◌, ◌-◌, ◌≤◌, ◌<◌}
use mathlib.Core.Path.{◌≡◌, refl, ap, sym, ◌∙◌}
use mathlib.Core.Bool.{Bool, true, false, true≢false}
use mathlib.Core.Logic.{◌⊎◌, inl, inr}
use mathlib.Core.List.{List, [], ◌∷◌, ◌++◌, append_assoc, append-nil}
use native.Mathlib.Omega.{arith}
use native.Mathlib.Decide.{dec_lt}
use lib.ListN.{length, length-append}
use Rattle.paper.specs.Walk.{Walked, found, none, plus, then, pick, run, rising, every, tree, walk}
use Rattle.paper.specs.Sheet.{Sheet, letter}
use Rattle.paper.specs.Satisfy.{Letters, Satisfies}
use Rattle.paper.specs.Opens.{opens}
use Rattle.paper.specs.Order.{Lower, Before, FirstOf}
use Rattle.paper.specs.Answers.{walk_of}
use Rattle.paper.proofs.Tests.{every_append, every_right}
use Rattle.paper.proofs.Opening.{letter_byte, open_opens, opens_full, open_full, prefix_open}

-- ---- the order

lower_irrefl : (u : List ℕ) → Lower u u → ⊥
lower_irrefl [] h = h
lower_irrefl (a ∷ u) (inl h) = omega arith
lower_irrefl (a ∷ u) (inr h) = lower_irrefl u h.1

pub before_irrefl : (u : List ℕ) → Before u u → ⊥
before_irrefl u (inl h) = omega arith
before_irrefl u (inr h) = lower_irrefl u h.1

lower_after : (p : List ℕ) (c e : ℕ) (v x : List ℕ) → c < e → Lower (p ++ (e ∷ x)) (p ++ (c ∷ v)) → ⊥
lower_after [] c e v x l (inl h) = omega arith
lower_after [] c e v x l (inr h) = omega arith
lower_after (a ∷ p) c e v x l (inl h) = omega arith
lower_after (a ∷ p) c e v x l (inr h) = lower_after p c e v x l h.1

lower_or_same : (u w : List ℕ) → length u ≡ length w → (u ≡ w) ⊎ (Lower u w ⊎ Lower w u)
lower_or_same [] [] e = inl refl
lower_or_same [] (b ∷ w) e = absurd (omega arith)
lower_or_same (a ∷ u) [] e = absurd (omega arith)
lower_or_same (a ∷ u) (b ∷ w) e = go (dec_lt a b) (dec_lt b a) (lower_or_same u w (omega arith))
  where
    go : Dec (a < b) → Dec (b < a) → (u ≡ w) ⊎ (Lower u w ⊎ Lower w u) → (a ∷ u ≡ b ∷ w) ⊎ (Lower (a ∷ u) (b ∷ w) ⊎ Lower (b ∷ w) (a ∷ u))
    go (yes l) d i = inr (inl (inl l))
    go (no l) (yes m) i = inr (inr (inl m))
    go (no l) (no m) (inl q) =
        let z : a ≡ b = omega arith in
        inl (cc)
    go (no l) (no m) (inr (inl q)) = inr (inl (inr (omega arith, q)))
    go (no l) (no m) (inr (inr q)) = inr (inr (inr (omega arith, q)))

-- two words, neither before the other, are one
pub before_same : (u w : List ℕ) → (Before u w → ⊥) → (Before w u → ⊥) → u ≡ w
before_same u w p q = go (dec_lt (length u) (length w)) (dec_lt (length w) (length u))
  where
    among : length u ≡ length w → (u ≡ w) ⊎ (Lower u w ⊎ Lower w u) → u ≡ w
    among e (inl z) = z
    among e (inr (inl z)) = absurd (p (inr (e, z)))
    among e (inr (inr z)) = absurd (q (inr (sym e, z)))

    go : Dec (length u < length w) → Dec (length w < length u) → u ≡ w
    go (yes l) d = absurd (p (inl l))
    go (no l) (yes m) = absurd (q (inl m))
    go (no l) (no m) =
        let z : length u ≡ length w = omega arith in
        among z (lower_or_same u w z)

-- ---- right outcomes

first_map : (C D : List ℕ → Type 0) (o : Walked) → ((u : List ℕ) → C u → D u) → ((u : List ℕ) → D u → C u) → FirstOf C o → FirstOf D o
first_map C D (found w t) f g r = (f w r.0, λ u d b. r.1 u (g u d) b)
first_map C D (none t) f g r = λ u d. r u (g u d)

first_plus : (C : List ℕ → Type 0) (k : ℕ) (o : Walked) → FirstOf C o → FirstOf C (plus k o)
first_plus C k (found w t) r = r
first_plus C k (none t) r = r

-- the same word, or none both
abbrev pub Agree : Walked → Walked → Type 0
Agree (found u s) (found w t) = u ≡ w
Agree (found u s) (none t) = ⊥
Agree (none s) (found w t) = ⊥
Agree (none s) (none t) = Unit {0}

-- two right outcomes agree
pub first_agree : (C : List ℕ → Type 0) (o r : Walked) → FirstOf C o → FirstOf C r → Agree o r
first_agree C (found u s) (found w t) p q = before_same u w (q.1 u p.0) (p.1 w q.0)
first_agree C (found u s) (none t) p q = q u p.0
first_agree C (none s) (found w t) p q = p w q.0
first_agree C (none s) (none t) p q = tt

-- ---- walks one after the other, those of the earlier numbers before the others

module _ (is : ℕ → Bool) (f : ℕ → Walked) (C : ℕ → List ℕ → Type 0)
    (ord : (c e : ℕ) → c < e → (u w : List ℕ) → C c u → C e w → Before w u → ⊥)
    (low top : ℕ) (each : (c : ℕ) → low ≤ c → c < top → is c ≡ true → FirstOf (C c) (f c)) where
  -- some number of the k from c on
  abbrev From : ℕ → ℕ → List ℕ → Type 0
  From c k u = (x : ℕ) × (c ≤ x) × (x < c + k) × (is x ≡ true) × C x u

  first : (c k : ℕ) (o r : Walked) → is c ≡ true → FirstOf (C c) o → FirstOf (From (suc c) k) r → FirstOf (From c (suc k)) (then o r)
  first c k (found w t) r e h g = ((c, omega arith, omega arith, e, h.0), λ u z b. late u z (dec_lt c z.0) b)
    where
      late : (u : List ℕ) (z : From c (suc k) u) → Dec (c < z.0) → Before u w → ⊥
      late u z (yes l) b = ord c z.0 l w u h.0 z.4 b
      late u z (no l) b =
          let q : z.0 ≡ c = omega arith in
          h.1 u (rw q at z.4) b
  first c k (none t) r e h g =
      first_plus (From c (suc k)) t r
      (first_map (From (suc c) k) (From c (suc k)) r (λ u z. (z.0, omega arith, omega arith, z.3, z.4)) (λ u z. late u z (dec_lt c z.0)) g)
    where
      late : (u : List ℕ) (z : From c (suc k) u) → Dec (c < z.0) → From (suc c) k u
      late u z (yes l) = (z.0, l, omega arith, z.3, z.4)
      late u z (no l) =
          let q : z.0 ≡ c = omega arith in
          absurd (h u (rw q at z.4))

  skip : (c k : ℕ) (r : Walked) → is c ≡ false → FirstOf (From (suc c) k) r → FirstOf (From c (suc k)) r
  skip c k r e g = first_map (From (suc c) k) (From c (suc k)) r (λ u z. (z.0, omega arith, omega arith, z.3, z.4)) (λ u z. late u z (dec_lt c z.0)) g
    where
      late : (u : List ℕ) (z : From c (suc k) u) → Dec (c < z.0) → From (suc c) k u
      late u z (yes l) = (z.0, l, omega arith, z.3, z.4)
      late u z (no l) =
          let q : z.0 ≡ c = omega arith in
          absurd (true≢false (sym (rw q at z.3) ∙ e))

  run_first : (k c : ℕ) → low ≤ c → c + k ≤ top → FirstOf (From c k) (run is f c k)
  unfolding run
  run_first zero c l m = λ u z. omega arith
  run_first (suc k) c l m = go (is c) refl (run_first k (suc c) (omega arith) (omega arith))
    where
      go : (b : Bool) → is c ≡ b → FirstOf (From (suc c) k) (run is f (suc c) k) → FirstOf (From c (suc k)) (run is f c (suc k))
      go true e g = rw e (first c k (f c) (run is f (suc c) k) e (each c l (omega arith) e) g)
      go false e g = rw e (skip c k (run is f (suc c) k) e g)

  rising_first : FirstOf (λ u. (x : ℕ) × (low ≤ x) × (x < top) × (is x ≡ true) × C x u) (rising is f top low)
  unfolding rising run
  rising_first = go (dec_lt top low)
    where
      go : Dec (top < low) → FirstOf (λ u. (x : ℕ) × (low ≤ x) × (x < top) × (is x ≡ true) × C x u) (run is f low (top - low))
      go (yes h) =
          let z : top - low ≡ 0 = omega arith in
          rw z (λ u x. omega arith)
      go (no h) =
          first_map (From low (top - low)) _ (run is f low (top - low)) (λ u z. (z.0, z.1, omega arith, z.3, z.4)) (λ u z. (z.0, z.1, omega arith, z.3, z.4))
          (run_first (top - low) low (omega arith) (omega arith))

-- ---- the keys of a sheet

module _ (s : Sheet) where
  -- those that go on from p by d letters
  abbrev On : List ℕ → ℕ → List ℕ → Type 0
  On p d u = (v : List ℕ) × (u ≡ p ++ v) × (length v ≡ d) × Satisfies s u

  on_open : (n d : ℕ) (p u : List ℕ) → length p + d ≡ n → On p d u → opens s n p ≡ true
  on_open n d p u e z =
      let l : length (p ++ z.0) ≡ n = omega (arith, length-append p z.0) in
      rw l at (open_opens s (length (p ++ z.0)) p (prefix_open s p z.0 (rw z.1 at z.3)))

  on_shut : (n d : ℕ) (p : List ℕ) → length p + d ≡ n → opens s n p ≡ false → FirstOf (On p d) (none 1)
  on_shut n d p e o = λ u z. true≢false (sym (on_open n d p u e z) ∙ o)

  on_nil : (p u : List ℕ) → On p 0 u → u ≡ p
  on_nil p u ([], q, _, _) = q ∙ append-nil p
  on_nil p u (a ∷ v, q, r, _) = absurd (omega arith)

  -- one letter and then the rest
  on_cons : (p : List ℕ) (d : ℕ) (u : List ℕ) → On p (suc d) u → (x : ℕ) × (0 ≤ x) × (x < 256) × (letter s x ≡ true) × On (p ++ (x ∷ [])) d u
  on_cons p d u ([], q, r, h) = absurd (omega arith)
  on_cons p d u (a ∷ v, q, r, h) =
      let l : Letters s (a ∷ v) = every_right (λ b. letter s b ≡ true) p (a ∷ v) (rw q at h.letters) in
      (a, omega arith, letter_byte s a l.0, l.0, (v, rw append_assoc q, omega arith, h))

  cons_on : (p : List ℕ) (d : ℕ) (u : List ℕ) → (x : ℕ) × (0 ≤ x) × (x < 256) × (letter s x ≡ true) × On (p ++ (x ∷ [])) d u → On p (suc d) u
  cons_on p d u (a, _, _, _, (v, q, r, h)) = (a ∷ v, rw append_assoc at q, omega arith, h)

  on_ord : (p : List ℕ) (d : ℕ) (c e : ℕ) → c < e → (u w : List ℕ) → On (p ++ (c ∷ [])) d u → On (p ++ (e ∷ [])) d w → Before w u → ⊥
  on_ord p d c e l u w (v, q, r, _) (x, q', r', _) = go
    where
      a : u ≡ p ++ (c ∷ v)
      a = rw append_assoc at q

      b : w ≡ p ++ (e ∷ x)
      b = rw append_assoc at q'

      m : length u ≡ length w
      m = rw (a, b, length-append, length-append) (omega arith)

      go : Before w u → ⊥
      go (inl h) = omega (arith, m)
      go (inr h) = lower_after p c e v x l (rw (a, b) at h.1)

  -- an open prefix of an allowed length satisfies
  full_satisfies : (w : List ℕ) → Letters s w → s.shortest ≤ length w → length w ≤ s.longest → opens s (length w) w ≡ true → Satisfies s w
  full_satisfies w h a b o = record { letters = h; least = a; most = b; met = (open_full s w).0 ((opens_full s w).0 o) }

  tree_first : (n d : ℕ) (p : List ℕ) → length p + d ≡ n → s.shortest ≤ n → n ≤ s.longest → Letters s p → FirstOf (On p d) (tree (letter s) (opens s) n d p)
  unfolding tree
  tree_first n zero p e a b h = go (opens s n p) refl
    where
      go : (o : Bool) → opens s n p ≡ o → FirstOf (On p 0) (pick o (found p 1) (none 1))
      go true o =
          let l : length p ≡ n = omega arith in
          (([], sym (append-nil p), refl, full_satisfies p h (omega arith) (omega arith) (rw l o)), λ u z b. before_irrefl p (rw (on_nil p u z) at b))
      go false o = on_shut n 0 p e o
  tree_first n (suc d) p e a b h =
      go (opens s n p) refl
      (λ x l m t. tree_first n d (p ++ (x ∷ [])) (rw length-append (omega arith)) a b (every_append (λ b. letter s b ≡ true) p (x ∷ []) h (t, tt)))
    where
      go : (o : Bool) → opens s n p ≡ o
          → ((x : ℕ) → 0 ≤ x → x < 256 → letter s x ≡ true → FirstOf (On (p ++ (x ∷ [])) d) (tree (letter s) (opens s) n d (p ++ (x ∷ []))))
          → FirstOf (On p (suc d)) (pick o (plus 1 (rising (letter s) (λ x. tree (letter s) (opens s) n d (p ++ (x ∷ []))) 256 0)) (none 1))
      go true o ih =
          let k = rising (letter s) (λ x. tree (letter s) (opens s) n d (p ++ (x ∷ []))) 256 0 in
          first_plus (On p (suc d)) 1 k
          (first_map _ (On p (suc d)) k (cons_on p d) (on_cons p d)
          (rising_first (letter s) (λ x. tree (letter s) (opens s) n d (p ++ (x ∷ []))) (λ x. On (p ++ (x ∷ [])) d) (on_ord p d) 0 256 ih))
      go false o ih = on_shut n (suc d) p e o

  -- all lengths: THE THEOREM
  pub walk_finds : FirstOf (Satisfies s) (walk_of s)
  unfolding walk_of walk
  walk_finds =
      first_map _ (Satisfies s) (rising every (λ n. tree (letter s) (opens s) n n []) (suc s.longest) s.shortest) to from
      (rising_first every (λ n. tree (letter s) (opens s) n n []) (λ n. On [] n) ord s.shortest (suc s.longest)
      (λ n a b t. tree_first n n [] (omega arith) a (omega arith) tt))
    where
      ord : (c e : ℕ) → c < e → (u w : List ℕ) → On [] c u → On [] e w → Before w u → ⊥
      ord c e l u w (v, q, r, _) (x, q', r', _) (inl h) = omega (arith, ap length q, ap length q')
      ord c e l u w (v, q, r, _) (x, q', r', _) (inr h) = omega (arith, ap length q, ap length q')

      to : (u : List ℕ) → (n : ℕ) × (s.shortest ≤ n) × (n < suc s.longest) × (every n ≡ true) × On [] n u → Satisfies s u
      to u (n, a, b, _, (v, q, r, h)) = h

      from : (u : List ℕ) → Satisfies s u → (n : ℕ) × (s.shortest ≤ n) × (n < suc s.longest) × (every n ≡ true) × On [] n u
      from u h = (length u, h.least, omega (arith, h.most), refl, (u, refl, refl, h))
