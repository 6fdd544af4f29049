-- The steps of the walk: what is known of a prefix about to be judged, or done with its extensions, after each.
use mathlib.Core.Path.{◌≡◌, ap, sym, ◌∙◌}
use Prim.Native.Nat.{ℕ, zero, suc, ◌+◌, ◌-◌, ◌≤◌, ◌<◌}
use native.Mathlib.Omega.{arith}
use native.Mathlib.Nat.{add-zero}
use native.Mathlib.Decide.{dec_lt}
use mathlib.Core.Bool.{Bool, true, false}
use mathlib.Core.List.{List, [], ◌∷◌, ◌++◌}
use lib.ListN.{length, take, get_or, set}
use lib.Seq.{take-suc-set, take-set-le, get_or-set_other, get_or-set_same}
use Rattle.std.specs.Prelude.{Some, None}
use Rattle.paper.specs.Walk.{Walked, found, none, plus, then, count, tree}
use Rattle.walk_state.specs.Letters.{FirstFrom}
use Rattle.paper.proofs.Budget.{count_plus, count_then}
use Rattle.walk.specs.Progress.{kids, Part, Parts, At, Done}
use Rattle.walk.proofs.Runs.{plus_plus, rising_end, rising_take, rising_from, tree_shut, tree_open}

span : (a b c : ℕ) (o : Walked) → a ≤ b → b ≤ c → plus (b - a) (plus (c - b) o) ≡ plus (c - a) o
span a b c o h l =
    let z : (b - a) + (c - b) ≡ c - a = omega arith in
    sym (plus_plus (b - a) (c - b) o) ∙ rw z

module _ (is : ℕ → Bool) (opens : ℕ → List ℕ → Bool) where
  -- the parts before the place k do not see it, nor the mark behind it
  parts_set : (n k : ℕ) (w s : List ℕ) (c x : ℕ) → Parts is opens n k w s → Parts is opens n k (set w k c) (set s (suc k) x)
  parts_set n k w s c x p j h =
      rw (get_or-set_other s (suc k) j x 0 (omega arith), get_or-set_other s (suc k) (suc j) x 0 (omega arith))
      (record {
        order = (p j h).order;
        left = rw (take-set-le j w k c (omega arith), take-set-le (suc j) w k c (omega arith), get_or-set_other w k j c 0 (omega arith)) (p j h).left;
      })

  parts_more : (n k : ℕ) (w s : List ℕ) → Parts is opens n k w s → Part is opens n k w (get_or s k 0) (get_or s (suc k) 0) → Parts is opens n (suc k) w s
  parts_more n k w s p q j h = go (dec_lt j k)
    where
      go : Dec (j < k) → Part is opens n j w (get_or s j 0) (get_or s (suc j) 0)
      go (yes l) = p j l
      go (no l) =
          let z : j ≡ k = omega arith in
          rw z q

  -- the children from c on, b the first of them
  kids_first : (n k : ℕ) (w : List ℕ) (c b : ℕ) → k < length w → FirstFrom is c (Some b)
      → kids is opens n k w c ≡ then (tree is opens n (n - suc k) (take (suc k) (set w k b))) (kids is opens n k w (suc (get_or (set w k b) k 0)))
  kids_first n k w c b h f =
      rw (rising_from is _ 256 c b f.1.low f.1.high f.1.gap, rising_take is _ 256 b f.0 (f.1.hit f.0))
      (rw (take-suc-set w k b h, get_or-set_same w k b 0 h))

  -- to the first child from c on, where so much of the prefix of k bytes is done
  child : (n k : ℕ) (w s : List ℕ) (c b t : ℕ) → k < length w → suc k < length s → FirstFrom is c (Some b) → Parts is opens n k w s → get_or s k 0 ≤ t
      → tree is opens n (n - k) (take k w) ≡ plus (t - get_or s k 0) (kids is opens n k w c)
      → At is opens n (suc k) (set w k b) (set s (suc k) t) t
  child n k w s c b t h l f p o e =
      record {
        parts = parts_more n k (set w k b) (set s (suc k) t) (parts_set n k w s b t p)
            (rw (get_or-set_other s (suc k) k t 0 (omega arith), get_or-set_same s (suc k) t 0 l)
            (record { order = o; left = rw (take-set-le k w k b (omega arith)) (e ∙ ap (plus (t - get_or s k 0)) (kids_first n k w c b h f)) }));
        mark = get_or-set_same s (suc k) t 0 l;
      }

  -- a prefix about to be judged, whose walk comes to none
  pub ends : (n k : ℕ) (w s : List ℕ) (t x : ℕ) → At is opens n k w s t → tree is opens n (n - k) (take k w) ≡ none x → Done is opens n k w s (t + x)
  ends n k w s t x a e =
      let m = a.mark in
      let z : t + x - get_or s k 0 ≡ x = omega arith in
      record { parts = a.parts; mark = omega arith; gone = rw z e }

  -- what is left of the parent behind a child that is done
  behind : (n k : ℕ) (w s : List ℕ) (t : ℕ) → Done is opens n (suc k) w s t → tree is opens n (n - k) (take k w) ≡ plus (t - get_or s k 0) (kids is opens n k w (suc (get_or w k 0)))
  behind n k w s t d =
      let p = d.parts k (omega arith) in
      p.left ∙ rw d.gone (span (get_or s k 0) (get_or s (suc k) 0) t (kids is opens n k w (suc (get_or w k 0))) p.order d.mark)

  before : (n k : ℕ) (w s : List ℕ) → Parts is opens n (suc k) w s → Parts is opens n k w s
  before n k w s p j h = p j (omega arith)

  -- ---- the steps as the code takes them

  -- not open
  pub shut_step : (n k : ℕ) (w s : List ℕ) (t : ℕ) → At is opens n k w s t → opens n (take k w) ≡ false → Done is opens n k w s (t + 1)
  shut_step n k w s t a e = ends n k w s t 1 a (tree_shut is opens n (n - k) (take k w) e)

  -- open: one letter longer
  pub down_step : (n k : ℕ) (w s : List ℕ) (t b : ℕ) → At is opens n k w s t → k < n → k < length w → suc k < length s → opens n (take k w) ≡ true → FirstFrom is 0 (Some b)
      → At is opens n (suc k) (set w k b) (set s (suc k) (t + 1)) (t + 1)
  down_step n k w s t b a h l m e f =
      let q = a.mark in
      let z : t + 1 - get_or s k 0 ≡ 1 = omega arith in
      child n k w s 0 b (t + 1) l m f a.parts (omega arith) (rw z (tree_open is opens n k (take k w) h e))

  -- open, and there are no letters
  pub stuck_step : (n k : ℕ) (w s : List ℕ) (t : ℕ) → At is opens n k w s t → k < n → opens n (take k w) ≡ true → FirstFrom is 0 None → Done is opens n k w s (t + 1)
  stuck_step n k w s t a h e f =
      ends n k w s t 1 a (tree_open is opens n k (take k w) h e ∙ ap (plus 1) (rising_from is _ 256 0 256 f.low f.high f.gap ∙ rising_end is _ 256 256 (omega arith)))

  -- a child is done: the next
  pub next_step : (n k : ℕ) (w s : List ℕ) (t b : ℕ) → Done is opens n (suc k) w s t → k < length w → suc k < length s → FirstFrom is (suc (get_or w k 0)) (Some b)
      → At is opens n (suc k) (set w k b) (set s (suc k) t) t
  next_step n k w s t b d h l f =
      let q = (d.parts k (omega arith)).order in
      let r = d.mark in
      child n k w s (suc (get_or w k 0)) b t h l f (before n k w s d.parts) (omega arith) (behind n k w s t d)

  -- a child is done, and the next is known to come to none
  pub skip_step : (n k : ℕ) (w s : List ℕ) (t b x : ℕ) → Done is opens n (suc k) w s t → k < length w → suc k < length s → FirstFrom is (suc (get_or w k 0)) (Some b)
      → tree is opens n (n - suc k) (take k w ++ (b ∷ [])) ≡ none x
      → Done is opens n (suc k) (set w k b) (set s (suc k) t) (t + x)
  skip_step n k w s t b x d h l f a = ends n (suc k) (set w k b) (set s (suc k) t) t x (next_step n k w s t b d h l f) (rw (take-suc-set w k b h) a)

  -- a child is done, and there is no next: so is the parent
  pub back_step : (n k : ℕ) (w s : List ℕ) (t : ℕ) → Done is opens n (suc k) w s t → FirstFrom is (suc (get_or w k 0)) None → Done is opens n k w s t
  back_step n k w s t d f =
      let q = (d.parts k (omega arith)).order in
      let r = d.mark in
      record {
        parts = before n k w s d.parts;
        mark = omega arith;
        gone = behind n k w s t d
            ∙ rw (rising_from is _ 256 (suc (get_or w k 0)) 256 f.low f.high f.gap, rising_end is _ 256 256 (omega arith), add-zero);
      }

  -- ---- what the parts say of the whole length
  pub whole_found : (n k : ℕ) (w s v : List ℕ) (t : ℕ) → Parts is opens n k w s → get_or s k 0 ≤ t → tree is opens n (n - k) (take k w) ≡ found v (t - get_or s k 0)
      → (get_or s 0 0 ≤ t) × (tree is opens n n [] ≡ found v (t - get_or s 0 0))
  whole_found n zero w s v t p h e =
      let z : n - 0 ≡ n = omega arith in
      (h, rw z at e)
  whole_found n (suc k) w s v t p h e =
      let q = p k (omega arith) in
      let o = q.order in
      let z : (get_or s (suc k) 0 - get_or s k 0) + (t - get_or s (suc k) 0) ≡ t - get_or s k 0 = omega arith in
      whole_found n k w s v t (before n k w s p) (omega arith) (q.left ∙ rw (e, z))

  pub whole_count : (n k : ℕ) (w s : List ℕ) (t : ℕ) → Parts is opens n k w s → t ≤ get_or s k 0 + count (tree is opens n (n - k) (take k w)) → t ≤ get_or s 0 0 + count (tree is opens n n [])
  whole_count n zero w s t p h =
      let z : n - 0 ≡ n = omega arith in
      rw z at h
  whole_count n (suc k) w s t p h =
      let q = p k (omega arith) in
      let o = q.order in
      whole_count n k w s t (before n k w s p) (rw (q.left, count_plus) (omega (arith, count_then (tree is opens n (n - suc k) (take (suc k) w)) (kids is opens n k w (suc (get_or w k 0))))))

  -- a prefix that is done after more trials than the budget has: so it is with the whole length
  pub done_over : (n k : ℕ) (w s : List ℕ) (t budget : ℕ) → Done is opens n k w s t → budget < t → budget < get_or s 0 0 + count (tree is opens n n [])
  done_over n k w s t budget d h =
      let m = d.mark in
      let z : t ≤ get_or s k 0 + count (tree is opens n (n - k) (take k w)) = rw d.gone (omega arith) in
      omega (arith, whole_count n k w s t d.parts z)
