use mathlib.Core.Path.{refl}
use native.Mathlib.Omega.{arith}
use Rattle.terms.specs.Shown.{shown}
use Rattle.judge.proofs.claims.can_hold.Goals as goal

pub can_derive-requires : goal.can_derive-requires
unfolding shown
can_derive-requires c =
    (rw c.in-Derived.is at c.requires.0, omega (arith, c.places-places.ensures.1, c.args.p.now.room), rw c.places-places.ensures.0 c.requires.1)

pub returns-in-Derived : goal.returns-in-Derived
unfolding shown
returns-in-Derived c =
    let x = rw c.places-places.ensures.0 at c.can_derive.ensures in
    rw c.in-Derived.is (x.0 _, record { held = x.2; leaves = x.1 })

pub returns-in-Contains : goal.returns-in-Contains
unfolding shown
returns-in-Contains c = rw c.in-Contains.is ((rw c.places-places.ensures.0 at c.can_contain.ensures) _, record { held = refl; leaves = refl })
