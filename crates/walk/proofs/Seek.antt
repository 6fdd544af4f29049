-- The search for a key as a loop: its invariant, with a law for each turn and each end. A turn judges the prefix at hand, then advances.
use mathlib.Core.Path.{◌≡◌, refl}
use Prim.Native.Nat.{ℕ, ◌+◌, ◌≤◌, ◌<◌}
use native.Mathlib.Omega.{arith}
use mathlib.Core.Bool.{Bool, true}
use mathlib.Core.List.{List}
use lib.ListN.{take, get_or, set}
use lib.Seq.{get_or-set_same}
use Rattle.paper.specs.Walk.{walk}
use Rattle.paper.specs.Answers.{Found, None, Spent, under}
use Rattle.walk_state.specs.declared.state.State.{State}
use Rattle.walk_state.specs.Moves.{start_state, again_of}
use Rattle.walk_state.proofs.Kept.{short_empty, marks_start}
use Rattle.walk.specs.Counts.{Counts}
use Rattle.walk.specs.Progress.{Classes, Judging}
use Rattle.walk.specs.Posts.{Frame, AdvancedTo, AdvancedOver}
use Rattle.walk.proofs.Frames.{frame_start, frame_again}
use Rattle.walk.proofs.Ends.{Length, first_length, next_length, at_root, judging_over, end_found, end_none, end_over}

module _ (is : ℕ → Bool) (slot : List ℕ) (opens : ℕ → List ℕ → Bool) (lo hi budget : ℕ) where
  -- the walk has come to q at length n, whose prefix is about to be judged; m are the remembered counts
  pub record Seeking (n : ℕ) (q : State) (m : Counts) : Type 0 where
    pub range : n ≤ hi
    pub top : hi ≤ 60
    pub within : q.prefix.len ≤ n
    pub frame : Frame budget q q
    pub sofar : Length is slot opens lo hi n (get_or q.begun 0 0)
    pub at : Judging is slot opens n q m

  pub seek_start : (q : State) (m : Counts) → q ≡ start_state → lo ≤ hi → hi ≤ 60 → Seeking lo q m
  seek_start q m e h t = rw e record {
    range = h;
    top = t;
    within = omega arith;
    frame = frame_start budget start_state short_empty refl refl (omega arith) marks_start;
    sofar = first_length is slot opens lo hi;
    at = at_root is slot opens lo hi lo start_state.prefix.bytes start_state.begun m 0 refl;
  }

  module _ (n : ℕ) (q : State) (m : Counts) (s : Seeking n q m) where
    -- the prefix at hand is the word
    pub seek_found : q.trials < budget → q.prefix.len ≡ n → opens n (take q.prefix.len q.prefix.bytes) ≡ true
        → under budget (walk is opens lo hi) ≡ Found (take q.prefix.len q.prefix.bytes) (q.trials + 1)
    seek_found h e o = end_found is slot opens lo hi budget n q m s.range e h s.sofar s.at o

    -- the budget is used up
    pub seek_spent : budget ≤ q.trials → under budget (walk is opens lo hi) ≡ Spent budget
    seek_spent h = end_over is slot opens lo hi budget n (get_or q.begun 0 0) s.range s.sofar (judging_over is slot opens lo hi budget n q m s.at h)

    -- ---- the prefix at hand was judged
    module _ (classes : Classes opens slot) (ok : Bool) (o : opens n (take q.prefix.len q.prefix.bytes) ≡ ok) where
      -- the budget does not suffice for what was counted on the way
      pub seek_over : AdvancedOver is slot budget n ok q m → under budget (walk is opens lo hi) ≡ Spent budget
      seek_over a = end_over is slot opens lo hi budget n (get_or q.begun 0 0) s.range s.sofar (a opens classes s.at o)

      -- the walk has come to r and the counts m'
      module _ (r : State) (m' : Counts) (a : AdvancedTo is slot budget n ok q m r m') where
        -- the last length is done
        pub seek_none : r.prefix.len ≡ 0 → n ≡ hi → under budget (walk is opens lo hi) ≡ None r.trials
        seek_none e f = end_none is slot opens lo hi budget n (get_or q.begun 0 0) r m' f e a.frame.most a.frame.root s.sofar (a.to opens classes s.at o)

        -- the next length
        pub seek_length : r.prefix.len ≡ 0 → (n ≡ hi → ⊥) → Seeking (n + 1) (again_of r) m'
        seek_length e f =
            let l = a.frame.notes in
            let k = s.range in
            let g : get_or (set r.begun 0 r.trials) 0 0 ≡ r.trials = get_or-set_same r.begun 0 r.trials 0 (omega arith) in
            record {
              range = omega arith;
              top = s.top;
              within = omega arith;
              frame = frame_again budget q r a.frame;
              sofar = rw g (next_length is slot opens lo hi n (get_or q.begun 0 0) r m' (omega arith) e a.frame.root s.sofar (a.to opens classes s.at o));
              at = rw e (at_root is slot opens lo hi (n + 1) r.prefix.bytes (set r.begun 0 r.trials) m' r.trials g);
            }
