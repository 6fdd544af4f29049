-- A term's places, one by one, and two lists side by side.
-- Assumes nothing.
use Rattle.std.proofs.Common.{◌≡◌, ℕ, zero, suc, ◌≤◌, Option, None, Bool, List, [], ◌∷◌, ◌&&◌, length, get_or, refl, ap, ◌∙◌, arith}
use Rattle.std.specs.List.{list_all, zip}
use Rattle.std.proofs.lemmas.Slice.Zip.{length-zip, get_or-zip}
use Rattle.paper.specs.Tests.{all_of, all_below}
use Rattle.paper.specs.Terms.{Unknown}
use Rattle.paper.proofs.Tests.{all_of_nil, all_of_cons, all_of_below, all_same}
use Rattle.workspace.specs.Places.{place_of, places_in}

pub places_at : (xs : List (Option ℕ)) (i : ℕ) → get_or (places_in xs) i Unknown ≡ place_of (get_or xs i None)
unfolding places_in place_of
places_at [] i = refl
places_at (x ∷ xs) zero = refl
places_at (x ∷ xs) (suc i) = places_at xs i

list_all_of : {A : Type 0} (f : A → Bool) (l : List A) → list_all f l ≡ all_of f l
list_all_of f [] = rw (all_of_nil f)
list_all_of f (x ∷ l) = rw (all_of_cons f x l) (ap (λ (b : Bool). f x && b) (list_all_of f l))

-- each of the first list passes with its neighbour in the second
pub all_zipped : {A B : Type 0} (f : A → B → Bool) (xs : List A) (ys : List B) (d : A) (e : B) → length xs ≤ length ys
    → list_all (λ (p : A × B). f p.0 p.1) (zip xs ys) ≡ all_below (length xs) (λ k. f (get_or xs k d) (get_or ys k e))
all_zipped {A} {B} f xs ys d e h =
    let n : length (zip xs ys) ≡ length xs = omega (arith, length-zip xs ys) in
    list_all_of (λ (p : A × B). f p.0 p.1) (zip xs ys)
    ∙ all_of_below (λ (p : A × B). f p.0 p.1) (zip xs ys) (d, e)
    ∙ rw n (all_same (length xs) _ _ (λ k l. ap (λ (p : A × B). f p.0 p.1) (get_or-zip xs ys k (d, e) l (omega arith))))
