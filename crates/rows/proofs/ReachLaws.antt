-- The rows that reach each row: a step's turn, a row's turn, and the end.
-- Assumes nothing.
use Prim.Native.Nat.{ℕ, ◌+◌, ◌*◌, ◌≤◌, ◌<◌}
use mathlib.Core.Path.{◌≡◌, refl, sym, ap, ◌∙◌, subst, fun_ext}
use mathlib.Core.Bool.{Bool, true, false, ◌||◌, true≢false}
use mathlib.Core.Logic.{◌⊎◌, inl, inr}
use mathlib.Core.List.{List}
use native.Mathlib.Decide.{ℕ_discrete}
use native.Mathlib.Omega.{arith}
use lib.Dec.{eqb}
use borrow.Author.Tests.{ne_eqb}
use lib.ListN.{length, replicate}
use Rattle.paper.specs.Rows.{Row, Grammar, row, Keeps, Reach}
use Rattle.paper.specs.Decide.{nullable, reaches}
use Rattle.paper.proofs.Tests.{same_test, or_cases, or_left, or_right, eqb_same, same_eqb}
use Rattle.paper.proofs.Reaching.{reaches_sound, reaches_from, keeps_below}
use Rattle.workspace.specs.Bits.{bit_at, set_bit, joined}
use Rattle.workspace.specs.Room.{Grows}
use Rattle.workspace.proofs.Bits.{set_bit_same, set_bit_other, set_bit_apart, joined_bit, joined_apart}
use Rattle.std.specs.Prelude.{Option, Some, None}
use Rattle.rows.specs.Sets.{steps_of, passed_on, Started, Nulls, Reached, ReachSound, ReachSettled}
use Rattle.rows.specs.Passes.{Turn}
use Rattle.rows.proofs.Passes.{grows_then}
use Rattle.rows.proofs.Zeros.{zero_bit}
use Rattle.rows.proofs.ByKind.{led_keeps, keeps_led}

-- one step more at the end
reach_on : (g : Grammar) {x r p : ℕ} → Reach g x r → Keeps g r p → Reach g x p
reach_on g Reach.here k = Reach.step k Reach.here
reach_on g (Reach.step j s) k = Reach.step j (reach_on g s k)

or_no_left : (x y : Bool) → (x || y) ≡ false → x ≡ false
or_no_left true y e = e
or_no_left false y e = refl

or_no_right : (x y : Bool) → (x || y) ≡ false → y ≡ false
or_no_right true y e = absurd (true≢false e)
or_no_right false y e = e

-- steps by the bits are steps by the rows that derive the empty word
pub steps_null : {g : Grammar} {ws : List ℕ} {to : Option ℕ × Option ℕ} (x : Row) → Nulls g ws → to ≡ steps_of (bit_at ws 0) x → to ≡ steps_of (nullable g) x
steps_null x z e = e ∙ ap (λ (u : ℕ → Bool). steps_of u x) (fun_ext z.bits)

-- what reaches r is joined to what reaches p, where there is a step
pub joined_sound : (g : Grammar) (ws : List ℕ) (p r : ℕ) → r < length g.rows → 4 * p + 4 ≤ length ws → Keeps g r p → ReachSound g ws → ReachSound g (joined ws p ws r)
joined_sound g ws p r l room k s = record { self = λ q h. mine q h (ℕ_discrete q p); right = λ q x h e. at q x h e (ℕ_discrete q p) }
  where
    mine : (q : ℕ) → q < length g.rows → Dec (q ≡ p) → bit_at (joined ws p ws r) q q ≡ true
    mine q h (yes e) = rw (e, joined_bit ws p ws r room) (or_left (bit_at ws p p) (bit_at ws r p) (s.self p (rw e at h)))
    mine q h (no n) = joined_apart ws p ws r q q n ∙ s.self q h

    from : (x : ℕ) → (bit_at ws p x ≡ true) ⊎ (bit_at ws r x ≡ true) → p < length g.rows → Reach g x p
    from x (inl e) h = s.right p x h e
    from x (inr e) h = reach_on g (s.right r x l e) k

    at : (q x : ℕ) → q < length g.rows → bit_at (joined ws p ws r) q x ≡ true → Dec (q ≡ p) → Reach g x q
    at q x h e (yes z) = rw z (from x (or_cases (bit_at ws p x) (bit_at ws r x) (sym (joined_bit ws p ws r room x) ∙ rw z at e)) (rw z at h))
    at q x h e (no n) = s.right q x h (sym (joined_apart ws p ws r q x n) ∙ e)

-- a row's turn: its two steps, one after the other
module _ (g : Grammar) (r : ℕ) (x : Row) (is : x ≡ row g r) (l : r < length g.rows) {old mid now : List ℕ} {to : Option ℕ × Option ℕ} (steps : to ≡ steps_of (nullable g) x)
    (ha : (p : ℕ) → to.0 ≡ Some p → 4 * p + 4 ≤ length old) (hb : (p : ℕ) → to.1 ≡ Some p → 4 * p + 4 ≤ length mid)
    (e : mid ≡ passed_on to.0 r old) (f : now ≡ passed_on to.1 r mid) where
  turn_sound : ReachSound g old → ReachSound g now
  turn_sound s = rw f (two to.1 refl (rw e (one to.0 refl)))
    where
      one : (to' : Option ℕ) → to.0 ≡ to' → ReachSound g (passed_on to' r old)
      one (Some p) z = joined_sound g old p r l (ha p z) (led_keeps g r x p is (inl (rw steps at z))) s
      one None z = s

      two : (to' : Option ℕ) → to.1 ≡ to' → ReachSound g mid → ReachSound g (passed_on to' r mid)
      two (Some p) z m = joined_sound g mid p r l (hb p z) (led_keeps g r x p is (inr (rw steps at z))) m
      two None z m = m

  turn_settled : mid ≡ old → now ≡ mid → ReachSettled g now r
  turn_settled same same' t q k h = at (rw (← is, ← steps) at (keeps_led g r t k))
    where
      at : (to.0 ≡ Some t) ⊎ (to.1 ≡ Some t) → bit_at now t q ≡ true
      at (inl z) =
          let there : mid ≡ joined old t old r = e ∙ rw z in
          rw (same', there, joined_bit old t old r (ha t z) q) (or_right (bit_at old t q) (bit_at old r q) (rw (same', same) at h))
      at (inr z) =
          let there : now ≡ joined mid t mid r = f ∙ rw z in
          rw (there, joined_bit mid t mid r (hb t z) q) (or_right (bit_at mid t q) (bit_at mid r q) (rw same' at h))

  pub reach_turned : (x y : Bool) {new : Bool} → Grows x old mid → Grows y mid now → new ≡ (x || y) → Turn (ReachSound g) (ReachSettled g) r new old now
  reach_turned x y gx gy n = record {
    grows = rw n (grows_then x y gx gy);
    sound = turn_sound;
    settled = λ z. turn_settled (gx.still (or_no_left x y (sym n ∙ z))) (gy.still (or_no_right x y (sym n ∙ z)));
  }

-- each row reaches itself
pub reach_start : (g : Grammar) (ws : List ℕ) {n : ℕ} → n ≡ length g.rows → Started n ws → ReachSound g ws
reach_start g ws p s = record {
  self = λ q h. s.own q q (rw p h) ∙ same_eqb q q refl;
  right = λ q r h e. subst (λ (z : ℕ). Reach g r z) (eqb_same r q (sym (s.own q r (rw p h)) ∙ e)) Reach.here;
}

-- one entry more
pub started_none : (n : ℕ) → Started 0 (replicate n 0)
started_none n = record { own = λ q r h. absurd (omega arith); later = λ q r h. zero_bit n q r }

pub started_more : (q : ℕ) (ws : List ℕ) → q < 256 → 4 * q + 4 ≤ length ws → Started q ws → Started (q + 1) (set_bit ws q q)
started_more q ws low room s = record {
  own = λ t r h. at t r h (ℕ_discrete t q);
  later = λ t r h. set_bit_apart ws q q t r (λ e. omega arith) low ∙ s.later t r (omega arith);
}
  where
    own : (r : ℕ) → Dec (r ≡ q) → bit_at (set_bit ws q q) q r ≡ eqb r q
    own r (yes e) = rw e (set_bit_same ws q q room low ∙ sym (same_eqb q q refl))
    own r (no k) = set_bit_other ws q q r k ∙ s.later q r (omega arith) ∙ sym (ne_eqb r q k)

    at : (t r : ℕ) → t < q + 1 → Dec (t ≡ q) → bit_at (set_bit ws q q) t r ≡ eqb r t
    at t r h (yes e) = rw e (own r (ℕ_discrete r q))
    at t r h (no k) = set_bit_apart ws q q t r k low ∙ s.own t r (omega (arith, k))

-- where every row is settled, the bits are the rows that reach
pub reach_end : (g : Grammar) (ws : List ℕ) → ReachSound g ws → ((r : ℕ) → r < length g.rows → ReachSettled g ws r) → Reached g ws
reach_end g ws s f = record { bits = λ q r h. same_test (bit_at ws q r) (reaches g r q) (λ e. reaches_from g h (s.right q r h e)) (λ e. there q r h (reaches_sound g r q e)) }
  where
    on : (x : ℕ) {y q : ℕ} → bit_at ws y x ≡ true → Reach g y q → bit_at ws q x ≡ true
    on x h Reach.here = h
    on x {y} h (Reach.step {p = p} k z) = on x (f y (keeps_below g k) p x k h) z

    below : {x q : ℕ} → q < length g.rows → Reach g x q → x < length g.rows
    below h Reach.here = h
    below h (Reach.step k z) = keeps_below g k

    there : (q r : ℕ) → q < length g.rows → Reach g r q → bit_at ws q r ≡ true
    there q r h z = on r (s.self r (below h z)) z
