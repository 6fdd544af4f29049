-- What a frame becomes by each move of the state.
use mathlib.Core.Path.{◌≡◌, refl, ◌∙◌}
use Prim.Native.Nat.{ℕ, ◌+◌, ◌≤◌, ◌<◌}
use native.Mathlib.Omega.{arith}
use lib.ListN.{length, length-set}
use lib.Seq.{get_or-set_other}
use Rattle.walk_state.specs.declared.state.State.{State}
use Rattle.walk_state.specs.Moves.{down_of, next_of, back_of, counted_of, again_of, Marks}
use Rattle.walk_state.proofs.Kept.{short_longer, short_ending, short_shorter, marks_down, marks_next, marks_back, marks_counted, marks_again}
use Rattle.walk.specs.Posts.{Frame}

module _ (budget : ℕ) where
  pub frame_start : (q : State) → q.prefix.len ≤ 60 → length q.prefix.bytes ≡ 60 → length q.begun ≡ 61 → q.trials ≤ budget → Marks q → Frame budget q q
  frame_start q h l v t m = record { short = h; letters = l; notes = v; more = omega arith; most = t; root = refl; marks = m }

  module _ (p q : State) (f : Frame budget p q) where
    pub frame_here : Frame budget q q
    frame_here = frame_start q f.short f.letters f.notes f.most f.marks

    pub frame_next : (b : ℕ) → 0 < q.prefix.len → Frame budget p (next_of q b)
    frame_next b pos =
        let l = f.letters in
        let v = f.notes in
        record {
          short = short_ending q.prefix b f.short;
          letters = simp length-set l;
          notes = simp length-set v;
          more = f.more;
          most = f.most;
          root = get_or-set_other q.begun q.prefix.len 0 q.trials 0 (omega arith) ∙ f.root;
          marks = marks_next q f.marks b;
        }

    pub frame_down : (b : ℕ) → q.prefix.len < 60 → Frame budget p (down_of q b)
    frame_down b h =
        let l = f.letters in
        let v = f.notes in
        record {
          short = short_longer q.prefix b h;
          letters = simp length-set l;
          notes = simp length-set v;
          more = f.more;
          most = f.most;
          root = get_or-set_other q.begun (q.prefix.len + 1) 0 q.trials 0 (omega arith) ∙ f.root;
          marks = marks_down q f.marks b;
        }

    pub frame_back : Frame budget p (back_of q)
    frame_back =
        record { short = short_shorter q.prefix f.short; letters = f.letters; notes = f.notes; more = f.more; most = f.most; root = f.root; marks = marks_back q f.marks }

    pub frame_counted : (t : ℕ) → q.trials + t ≤ budget → Frame budget p (counted_of q t)
    frame_counted t h =
        let m = f.more in
        record { short = f.short; letters = f.letters; notes = f.notes; more = omega arith; most = h; root = f.root; marks = marks_counted q f.marks t }

    -- the next length has its root at the trials made
    pub frame_again : Frame budget (again_of q) (again_of q)
    frame_again =
        let v = f.notes in
        frame_start (again_of q) f.short f.letters (simp length-set v) f.most (marks_again q f.marks)

  -- from before some trials were counted
  pub frame_before : (p q : State) (t : ℕ) → Frame budget (counted_of p t) q → Frame budget p q
  frame_before p q t f =
      let m = f.more in
      record { short = f.short; letters = f.letters; notes = f.notes; more = omega arith; most = f.most; root = f.root; marks = f.marks }
