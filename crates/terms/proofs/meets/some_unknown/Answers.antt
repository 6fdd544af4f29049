use mathlib.Core.Path.{◌≡◌, sym, ◌∙◌}
use mathlib.Core.List.{List, [], ◌∷◌}
use borrow.Author.Rules.{rules}
use borrow.Author.Tests.{tests}
use Rattle.std.specs.Prelude.{ℕ, Option, ◌||◌, Bool}
use Rattle.std.specs.List.{list_any}
use Rattle.std.proofs.Common.{ap}
use Rattle.std.proofs.lemmas.Iterator.{YieldsList-from_slice}
use Rattle.std.proofs.lemmas.Iterator.Search.{any_from_yields_List}
use Rattle.paper.specs.Tests.{any_of}
use Rattle.paper.specs.Opens.{is_unknown}
use Rattle.paper.proofs.Tests.{any_of_nil, any_of_cons}
use Rattle.workspace.specs.Places.{place_of, places_in}
use Rattle.terms.specs.Shown.{shown}
use Rattle.terms.proofs.meets.some_unknown.Goals as goal

unknown_of : (xs : List (Option ℕ)) → list_any (λ x. is_unknown (place_of x)) xs ≡ any_of is_unknown (places_in xs)
unfolding places_in
unknown_of [] = sym (any_of_nil is_unknown)
unknown_of (x ∷ xs) = ap (λ (b : Bool). is_unknown (place_of x) || b) (unknown_of xs) ∙ sym (any_of_cons is_unknown (place_of x) (places_in xs))

pub returns : goal.returns
unfolding shown is_unknown place_of
returns c =
    any_from_yields_List (λ (x : Option ℕ). is_unknown (place_of x)) c.any.new.self _ c.any.result c.any.ensures.ran (YieldsList-from_slice c.places.result.now cc) (λ x b q k. search (rules, tests))
    ∙ unknown_of c.places.result.now ∙ ap (λ (t : List (Option ℕ)). any_of is_unknown (places_in t)) c.places.ensures.0
