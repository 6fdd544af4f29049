-- Turns make a pass, in either order, and a pass that adds nothing settles every row.
-- Assumes nothing.
use Prim.Native.Nat.{ℕ, ◌≤◌, ◌<◌}
use mathlib.Core.Path.{◌≡◌, refl, ap, subst}
use mathlib.Core.Bool.{Bool, true, false, ◌||◌}
use mathlib.Core.List.{List}
use native.Mathlib.Nat.{le_of_lt}
use native.Mathlib.Omega.{arith}
use Rattle.workspace.specs.Room.{room, Grows}
use Rattle.workspace.proofs.Room.{grows_by}
use Rattle.rows.specs.Passes.{turn_of, Turns, Pass}

-- each row has its turn
pub turn_back : (down : Bool) (n r : ℕ) → r < n → turn_of down n (turn_of down n r) ≡ r
turn_back false n r h = refl
turn_back true n r h = omega arith

turn_lt : (down : Bool) (n r : ℕ) → r < n → turn_of down n r < n
turn_lt false n r h = h
turn_lt true n r h = omega arith

room_kept : {old now : List ℕ} (new : Bool) → Grows new old now → room now ≤ room old
room_kept true g = le_of_lt (g.less refl)
room_kept false g = omega (arith, ap room (g.still refl))

-- two steps, one after the other
pub grows_then : {old mid now : List ℕ} (x y : Bool) → Grows x old mid → Grows y mid now → Grows (x || y) old now
grows_then true y g h = grows_by (omega (arith, g.less refl, room_kept y h))
grows_then {old} {mid} {now} false y g h = rw (g.still refl) at h

module _ (Sound : List ℕ → Type 0) (Settled : List ℕ → ℕ → Type 0) (down : Bool) (n : ℕ) where
  pub pass_done : {i : ℕ} {new : Bool} {old now : List ℕ} → Turns Sound Settled down n i new old now → n ≤ i → Pass Sound Settled n new old now
  pass_done {now = now} t h = record {
    grows = t.grows;
    sound = t.sound;
    settled = λ e r l. subst (Settled now) (turn_back down n r l) (t.settled e (turn_of down n r) (omega (arith, turn_lt down n r l)));
  }
