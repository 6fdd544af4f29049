-- Two bytes that no judgement tells apart: the walks below them come to the same, but for the word.
use mathlib.Core.Path.{◌≡◌, refl, ap, sym, ◌∙◌}
use Prim.Native.Nat.{ℕ, zero, suc}
use native.Mathlib.Omega.{arith}
use mathlib.Core.Bool.{Bool, true, false}
use mathlib.Core.List.{List, [], ◌∷◌, ◌++◌, append_assoc}
use Rattle.paper.specs.Walk.{Walked, found, none, plus, then, pick, run, rising, tree}
use Rattle.walk.specs.Progress.{Alike}

-- what a walk comes to, but for the word
abbrev pub shape : Walked → Walked
shape (found w t) = found [] t
shape (none t) = none t

shape_plus : (k : ℕ) (o r : Walked) → shape o ≡ shape r → shape (plus k o) ≡ shape (plus k r)
shape_plus k (found u s) (found w t) e =
    let z : s ≡ t = cc in
    rw z
shape_plus k (found u s) (none t) e = absurd (let z : ◌≡◌ {A = ℕ} 0 1 = cc in omega arith)
shape_plus k (none s) (found w t) e = absurd (let z : ◌≡◌ {A = ℕ} 0 1 = cc in omega arith)
shape_plus k (none s) (none t) e =
    let z : s ≡ t = cc in
    rw z

shape_then : (o o' r r' : Walked) → shape o ≡ shape o' → shape r ≡ shape r' → shape (then o r) ≡ shape (then o' r')
shape_then (found u s) (found w t) r r' e f = e
shape_then (found u s) (none t) r r' e f = absurd (let z : ◌≡◌ {A = ℕ} 0 1 = cc in omega arith)
shape_then (none s) (found w t) r r' e f = absurd (let z : ◌≡◌ {A = ℕ} 0 1 = cc in omega arith)
shape_then (none s) (none t) r r' e f =
    let z : s ≡ t = cc in
    rw z (shape_plus t r r' f)

shape_pick : (x : Bool) (o o' r r' : Walked) → shape o ≡ shape o' → shape r ≡ shape r' → shape (pick x o r) ≡ shape (pick x o' r')
shape_pick true o o' r r' e f = e
shape_pick false o o' r r' e f = f

shape_run : (is : ℕ → Bool) (f g : ℕ → Walked) → ((x : ℕ) → shape (f x) ≡ shape (g x)) → (k c : ℕ) → shape (run is f c k) ≡ shape (run is g c k)
unfolding run
shape_run is f g h zero c = refl
shape_run is f g h (suc k) c =
    let i = shape_run is f g h k (suc c) in
    shape_pick (is c) _ _ _ _ (shape_then (f c) (g c) (run is f (suc c) k) (run is g (suc c) k) (h c) i) i

shape_open : (x : Bool) (is : ℕ → Bool) (f g : ℕ → Walked) → ((b : ℕ) → shape (f b) ≡ shape (g b))
    → shape (pick x (plus 1 (rising is f 256 0)) (none 1)) ≡ shape (pick x (plus 1 (rising is g 256 0)) (none 1))
unfolding rising
shape_open true is f g h = shape_plus 1 (run is f 0 256) (run is g 0 256) (shape_run is f g h 256 0)
shape_open false is f g h = refl

module _ (is : ℕ → Bool) (opens : ℕ → List ℕ → Bool) where
  tree_shape : (b c : ℕ) → Alike opens b c → (n : ℕ) (p : List ℕ) (d : ℕ) (q : List ℕ)
      → shape (tree is opens n d (p ++ (b ∷ q))) ≡ shape (tree is opens n d (p ++ (c ∷ q)))
  unfolding tree
  tree_shape b c a n p zero q = rw (a n p q) (shape_pick (opens n (p ++ (c ∷ q))) _ _ _ _ refl refl)
  tree_shape b c a n p (suc d) q =
      rw (a n p q) (shape_open (opens n (p ++ (c ∷ q))) is (λ x. tree is opens n d ((p ++ (b ∷ q)) ++ (x ∷ []))) (λ x. tree is opens n d ((p ++ (c ∷ q)) ++ (x ∷ [])))
      (λ x. rw (append_assoc, append_assoc) (tree_shape b c a n p d (q ++ (x ∷ [])))))

  none_shape : (o : Walked) (t : ℕ) → shape o ≡ none t → o ≡ none t
  none_shape (found w s) t e = absurd (let z : ◌≡◌ {A = ℕ} 0 1 = cc in omega arith)
  none_shape (none s) t e = e

  -- none below the one, with so many trials: the same below the other
  pub none_alike : (b c : ℕ) → Alike opens b c → (n d t : ℕ) (p : List ℕ) → tree is opens n d (p ++ (b ∷ [])) ≡ none t → tree is opens n d (p ++ (c ∷ [])) ≡ none t
  none_alike b c a n d t p e = none_shape _ t (sym (tree_shape b c a n p d []) ∙ ap shape e)
