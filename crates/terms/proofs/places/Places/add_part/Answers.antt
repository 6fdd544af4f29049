use Prim.Native.Nat.{ℕ, ◌+◌, ◌≤◌}
use mathlib.Core.Path.{◌≡◌, ap, ◌∙◌}
use mathlib.Core.List.{List, ◌++◌}
use native.Mathlib.Omega.{arith}
use lib.ListN.{length, take, drop}
use Rattle.std.specs.Prelude.{Option}
use Rattle.std.proofs.lemmas.List.{length-take}
use Rattle.paper.specs.Sheet.{text_of}
use Rattle.paper.specs.Terms.{full_length}
use Rattle.sheet.proofs.Contents.{text_length}
use Rattle.terms.specs.Shown.{placed, known_places}
use Rattle.terms.proofs.Showing.{known_length}
use Rattle.terms.proofs.Adding.{add_const, add_all, add_cut}
use Rattle.terms.proofs.places.Places.add_part.Goals.{In-All, In-Const, In-Cut, After-places}
use Rattle.terms.proofs.places.Places.add_part.Goals as goal

-- the room that is asked for, kind by kind
const : (c : In-Const) → c.args.self.now.len + c.in-Const.b ≤ 60
unfolding full_length
const c = rw c.in-Const.is at c.requires.2

all : (c : In-All) → c.args.self.now.len + c.args.v.now.len ≤ 60
unfolding full_length
all c = rw c.in-All.is at c.requires.2

cut : (c : In-Cut) → c.args.self.now.len + c.in-Cut.b ≤ 60
unfolding full_length
cut c = rw c.in-Cut.is at c.requires.2

-- a constant's places
here : (c : After-places) → c.places.result.now ≡ known_places (take c.in-Const.b (drop c.in-Const.a (text_of c.args.sheet.now.bytes.now)))
here c = c.places.ensures.0 ∙ c.constant.ensures

pub constant-requires : goal.constant-requires
constant-requires c = (omega (arith, const (goal.at.constant-requires c).In-Const), rw c.in-Const.is at c.requires.0)

pub add-requires : goal.add-requires
add-requires c =
    let t = drop c.in-Const.a (text_of c.args.sheet.now.bytes.now) in
    omega (arith, const (goal.at.add-requires c).In-Const, ap length (here (goal.at.add-requires c).After-places), known_length (take c.in-Const.b t), length-take c.in-Const.b t)

pub add-requires-in-All : goal.add-requires-in-All
add-requires-in-All c = omega (arith, all (goal.at.add-requires-in-All c).In-All, c.places-in-All.ensures.1)

pub add_cut-requires : goal.add_cut-requires
add_cut-requires c =
    let small = rw c.in-Cut.is at c.requires.1 in
    (cut (goal.at.add_cut-requires c).In-Cut, small.0)

pub returns-in-Const : goal.returns-in-Const
returns-in-Const c =
    let l = text_length _ c.args.sheet.now.good in
    rw c.in-Const.is
    (add_const (text_of c.args.sheet.now.bytes.now) _ _ _ _ _ (omega (arith, rw c.in-Const.is at c.requires.0))
    (c.add.ensures ∙ ap (λ (t : List (Option ℕ)). placed c.args.self.now ++ t) (here (goal.at.returns-in-Const c).After-places)))

pub returns-in-All : goal.returns-in-All
returns-in-All c = rw c.in-All.is (add_all _ _ _ _ (c.add-in-All.ensures ∙ ap (λ (t : List (Option ℕ)). placed c.args.self.now ++ t) c.places-in-All.ensures.0))

pub returns-in-Cut : goal.returns-in-Cut
returns-in-Cut c = rw c.in-Cut.is (add_cut _ _ _ _ _ _ c.add_cut.ensures)
