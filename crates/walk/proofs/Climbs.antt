-- The turns of the climb, over the state by value and the remembered counts.
use mathlib.Core.Path.{◌≡◌, sym}
use Prim.Native.Nat.{ℕ, zero, suc, ◌+◌, ◌-◌, ◌*◌, ◌≤◌, ◌<◌}
use native.Mathlib.Omega.{arith}
use native.Mathlib.Numerals.{add-one}
use mathlib.Core.Bool.{Bool}
use mathlib.Core.List.{List}
use lib.ListN.{length, get_or, set}
use Rattle.std.specs.Prelude.{Some, None}
use Rattle.walk_state.specs.declared.state.State.{State}
use Rattle.walk_state.specs.Letters.{FirstFrom}
use Rattle.walk_state.specs.Moves.{next_of, back_of, counted_of, last_of, since_of}
use Rattle.walk.specs.Counts.{Counts, count_at, noted_at, seen_at}
use Rattle.walk.specs.Progress.{Classes, Done, Knows, Finished, Landing}
use Rattle.walk.specs.Posts.{Frame, Climbed}
use Rattle.walk.proofs.Counts.{seen_known}
use Rattle.walk.proofs.Steps.{next_step, skip_step, back_step, done_over}
use Rattle.walk.proofs.Frames.{frame_next, frame_back, frame_counted}
use Rattle.walk.proofs.Known.{knows_back, knows_set, knows_note}

-- climbing from p and the counts m₀, the walk has come to q and m, and q's prefix is done
pub record Climbing (is : ℕ → Bool) (slot : List ℕ) (budget : ℕ) (p : State) (m₀ : Counts) (q : State) (m : Counts) : Type 0 where
  pub shorter : q.prefix.len ≤ p.prefix.len
  pub frame : Frame budget p q
  pub to : (opens : ℕ → List ℕ → Bool) (n : ℕ) → Classes opens slot → Finished is slot opens n p m₀ → Finished is slot opens n q m

-- ---- the steps at a prefix of k > 0 bytes that is done
module _ (is : ℕ → Bool) (slot : List ℕ) (opens : ℕ → List ℕ → Bool) where
  unfoldable Fin : (n k : ℕ) (w s : List ℕ) (m : Counts) (t : ℕ) → Type 0
  Fin n k w s m t = Done is opens n k w s t × Knows is slot opens n k w m

  note_at : (n k : ℕ) (w s : List ℕ) (m : Counts) (t : ℕ) → 0 < k → k ≤ length w → get_or w (k - 1) 0 < 256 → Classes opens slot → Fin n k w s m t
      → Fin n k w s (noted_at m k (get_or slot (get_or w (k - 1) 0) 0) (t - get_or s k 0)) t
  unfolding Fin
  note_at n zero w s m t p h y c d = absurd (omega arith)
  note_at n (suc k) w s m t p h y c d =
      let z : suc k - 1 ≡ k = omega arith in
      let u = rw z at y in
      let n' = knows_note is slot opens n k w s m t h u (λ b x e f. c (get_or w k 0) b u x e f) d.0 d.1 in
      rw z (d.0, rw z at n')

  skip_at : (n k : ℕ) (w s : List ℕ) (m : Counts) (t b x : ℕ) → Fin n k w s m t → 0 < k → k ≤ length w → k < length s → FirstFrom is (get_or w (k - 1) 0 + 1) (Some b)
      → 0 < get_or slot b 0 → count_at m (k - 1) (get_or slot b 0) ≡ Some x
      → Fin n k (set w (k - 1) b) (set s k t) m (t + x)
  unfolding Fin
  skip_at n zero w s m t b x d p h l f u v = absurd (omega arith)
  skip_at n (suc k) w s m t b x d p h l f u v =
      let z : suc k - 1 ≡ k = omega arith in
      let g = rw (z, add-one) at f in
      let e = rw z at v in
      rw z (skip_step is opens n k w s t b x d.0 h l g (d.1.each k b x (omega arith) f.0 u e), knows_set is slot opens n k w m b d.1)

  next_at : (n k : ℕ) (w s : List ℕ) (m : Counts) (t b : ℕ) → Fin n k w s m t → 0 < k → k ≤ length w → k < length s → FirstFrom is (get_or w (k - 1) 0 + 1) (Some b)
      → Landing is slot opens n k (set w (k - 1) b) (set s k t) m t
  unfolding Fin
  next_at n zero w s m t b d p h l f = absurd (omega arith)
  next_at n (suc k) w s m t b d p h l f =
      let z : suc k - 1 ≡ k = omega arith in
      let g = rw (z, add-one) at f in
      rw z (next_step is opens n k w s t b d.0 h l g, knows_set is slot opens n k w m b d.1)

  back_at : (n k : ℕ) (w s : List ℕ) (m : Counts) (t : ℕ) → Fin n k w s m t → 0 < k → FirstFrom is (get_or w (k - 1) 0 + 1) None → Fin n (k - 1) w s m t
  unfolding Fin
  back_at n zero w s m t d p f = absurd (omega arith)
  back_at n (suc k) w s m t d p f =
      let z : suc k - 1 ≡ k = omega arith in
      let g = rw (z, add-one) at f in
      rw z (back_step is opens n k w s t d.0 g, knows_back is slot opens n k w m d.1)

module _ (is : ℕ → Bool) (slot : List ℕ) (budget : ℕ) (p : State) (m₀ : Counts) where
  -- the count of the child that is done
  pub climb_note : (q : State) (m : Counts) → Climbing is slot budget p m₀ q m → 0 < q.prefix.len → last_of q.prefix < 256
      → Climbing is slot budget p m₀ q (noted_at m q.prefix.len (get_or slot (last_of q.prefix) 0) (since_of q))
  unfolding Fin
  climb_note q m i pos y =
      let r = i.frame.short in
      let u = i.frame.letters in
      record {
        shorter = i.shorter;
        frame = i.frame;
        to = λ opens n c d. note_at is slot opens n q.prefix.len q.prefix.bytes q.begun m q.trials pos (omega arith) y c (i.to opens n c d);
      }

  module _ (q : State) (m : Counts) (i : Climbing is slot budget p m₀ q m) (pos : 0 < q.prefix.len) where
    module _ (b : ℕ) (f : FirstFrom is (last_of q.prefix + 1) (Some b)) where
      module _ (x : ℕ) (e : Some x ≡ seen_at m q.prefix.len (get_or slot b 0)) where
        -- the next letter's count is known: it and its extensions are done
        skipped : (opens : ℕ → List ℕ → Bool) (n : ℕ) → Classes opens slot → Finished is slot opens n p m₀
            → Fin is slot opens n q.prefix.len (set q.prefix.bytes (q.prefix.len - 1) b) (set q.begun q.prefix.len q.trials) m (q.trials + x)
        unfolding Fin
        skipped opens n c d =
            let r = i.frame.short in
            let u = i.frame.letters in
            let v = i.frame.notes in
            let z = seen_known m q.prefix.len (get_or slot b 0) x (sym e) in
            skip_at is slot opens n q.prefix.len q.prefix.bytes q.begun m q.trials b x (i.to opens n c d) pos (omega arith) (omega arith) f z.0 z.1

        -- the budget suffices for it
        pub climb_skip : x ≤ budget - q.trials → Climbing is slot budget p m₀ (counted_of (next_of q b) x) m
        unfolding Fin
        climb_skip l =
            let o = i.frame.most in
            record {
              shorter = i.shorter;
              frame = frame_counted budget p (next_of q b) (frame_next budget p q i.frame b pos) x (omega arith);
              to = skipped;
            }

        -- it does not
        pub climb_over : budget - q.trials < x → Climbed is slot budget p m₀ None m
        unfolding Fin
        climb_over l opens n c d =
            rw (frame_next budget p q i.frame b pos).root at
            (done_over is opens n q.prefix.len (set q.prefix.bytes (q.prefix.len - 1) b) (set q.begun q.prefix.len q.trials) (q.trials + x) budget (skipped opens n c d).0 (omega arith))

      -- it is not
      pub climb_next : Climbed is slot budget p m₀ (Some (next_of q b)) m
      unfolding Fin
      climb_next =
          let r = i.frame.short in
          let u = i.frame.letters in
          let v = i.frame.notes in
          record {
            shorter = i.shorter;
            frame = frame_next budget p q i.frame b pos;
            to = λ opens n c d. next_at is slot opens n q.prefix.len q.prefix.bytes q.begun m q.trials b (i.to opens n c d) pos (omega arith) (omega arith) f;
          }

    -- there is none
    pub climb_back : FirstFrom is (last_of q.prefix + 1) None → Climbing is slot budget p m₀ (back_of q) m
    unfolding Fin
    climb_back f =
        let a = i.shorter in
        record {
          shorter = omega arith;
          frame = frame_back budget p q i.frame;
          to = λ opens n c d. back_at is slot opens n q.prefix.len q.prefix.bytes q.begun m q.trials (i.to opens n c d) pos f;
        }

-- ---- the measure of the climb: the places left, and the letters left in the last of them
abbrev pub to_go : State → ℕ
to_go q = 257 * q.prefix.len + (256 - get_or q.prefix.bytes (q.prefix.len - 1) 0)
