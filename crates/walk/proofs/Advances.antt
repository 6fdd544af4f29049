-- The ends of the step that follows a judgement.
use mathlib.Core.Path.{◌≡◌}
use Prim.Native.Nat.{ℕ, ◌≤◌, ◌<◌}
use native.Mathlib.Omega.{arith}
use native.Mathlib.Numerals.{add-one}
use mathlib.Core.Bool.{Bool, true, false}
use mathlib.Core.List.{List}
use lib.ListN.{take}
use Rattle.std.specs.Prelude.{Option, Some, None}
use Rattle.walk_state.specs.declared.state.State.{State}
use Rattle.walk_state.specs.Letters.{FirstFrom}
use Rattle.walk_state.specs.Moves.{down_of, counted_of}
use Rattle.walk.specs.Counts.{Counts, forgotten}
use Rattle.walk.specs.Progress.{Judging, Finished}
use Rattle.walk.specs.Posts.{Frame, Climbed, Advanced}
use Rattle.walk.proofs.Steps.{down_step, shut_step, stuck_step}
use Rattle.walk.proofs.Frames.{frame_down, frame_counted, frame_before}
use Rattle.walk.proofs.Known.{knows_down}

module _ (is : ℕ → Bool) (slot : List ℕ) (budget n : ℕ) (q : State) (m : Counts) (h : q.prefix.len ≤ n) (lt : q.trials < budget) where
  -- open, and there is a letter
  pub adv_down : (b : ℕ) → Frame budget q q → q.prefix.len < n → q.prefix.len < 60 → FirstFrom is 0 (Some b)
      → Advanced is slot budget n true q m (Some (down_of (counted_of q 1) b)) (forgotten m q.prefix.len)
  adv_down b i o g f =
      let l = i.letters in
      let k = i.notes in
      record {
        within = omega arith;
        more = omega arith;
        frame = frame_down budget q (counted_of q 1) (frame_counted budget q q i 1 (omega arith)) b g;
        to = λ opens c a e. rw (add-one q.prefix.len)
            (down_step is opens n q.prefix.len q.prefix.bytes q.begun q.trials b a.0 o (omega arith) (omega arith) e f, knows_down is slot opens n q.prefix.len q.prefix.bytes m b a.1);
      }

  climbed : (ok : Bool) (o : Option State) (m' : Counts) → Climbed is slot budget (counted_of q 1) m o m'
      → ((opens : ℕ → List ℕ → Bool) → Judging is slot opens n q m → opens n (take q.prefix.len q.prefix.bytes) ≡ ok → Finished is slot opens n (counted_of q 1) m)
      → Advanced is slot budget n ok q m o m'
  climbed ok None m' k d = λ opens c a e. k opens n c (d opens a e)
  climbed ok (Some r) m' k d =
      let y = k.shorter in
      let z = k.frame.more in
      record {
        within = omega arith;
        more = omega arith;
        frame = frame_before budget q r 1 k.frame;
        to = λ opens c a e. k.to opens n c (d opens a e);
      }

  -- open, and there are no letters
  pub adv_stuck : (o : Option State) (m' : Counts) → q.prefix.len < n → FirstFrom is 0 None → Climbed is slot budget (counted_of q 1) m o m' → Advanced is slot budget n true q m o m'
  adv_stuck o m' y f k = climbed true o m' k (λ opens a e. (stuck_step is opens n q.prefix.len q.prefix.bytes q.begun q.trials a.0 y e f, a.1))

  -- not open
  pub adv_shut : (o : Option State) (m' : Counts) → Climbed is slot budget (counted_of q 1) m o m' → Advanced is slot budget n false q m o m'
  adv_shut o m' k = climbed false o m' k (λ opens a e. (shut_step is opens n q.prefix.len q.prefix.bytes q.begun q.trials a.0 e, a.1))
