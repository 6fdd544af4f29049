use mathlib.Core.Path.{refl, ap, ◌∙◌}
use lib.ListN.{take}
use Rattle.std.specs.Prelude.{ℕ, Option, List}
use Rattle.workspace.specs.Places.{places_in}
use Rattle.terms.specs.Shown.{shown}
use Rattle.terms.proofs.Showing.{v_shown}
use Rattle.terms.proofs.all_of_v.Goals as goal

pub returns : goal.returns
unfolding shown
returns c =
    let a = c.args in
    (ap (λ (of : List (Option ℕ)). places_in (take a.n of)) c.known.ensures ∙ v_shown a.prefix.now a.n c.requires.0 c.requires.1, refl)
