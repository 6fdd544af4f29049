-- Places compared one by one.
use Prim.Native.Nat.{ℕ, suc, ◌+◌, ◌-◌, ◌<◌, ◌≤◌}
use mathlib.Core.Path.{◌≡◌, sym, ap, ◌∙◌}
use mathlib.Core.Bool.{Bool, true, false}
use mathlib.Core.Logic.{◌≢◌}
use native.Mathlib.Omega.{arith}
use native.Mathlib.Decide.{dec_lt}
use borrow.Author.Tests.{eq-eqb, ne_eqb}
use lib.ListN.{get_or, take, drop, length-drop}
use lib.Seq.{length-take-le, get_or-take, get_or-drop}
use Rattle.std.specs.Prelude.{None}
use Rattle.paper.specs.Terms.{Unknown}
use Rattle.paper.specs.Sheet.{Sheet, Equals, ContainsTerm}
use Rattle.paper.specs.Opens.{meet_from, can_hold}
use Rattle.paper.proofs.Tests.{any_intro, any_nowhere, all_same}
use Rattle.workspace.specs.Places.{place_of}
use Rattle.workspace.proofs.Places.{places_at}
use Rattle.terms.specs.declared.places.Places.{Places}
use Rattle.terms.specs.Shown.{shown, meet_all}
use Rattle.terms.proofs.Showing.{shown_length}

pub shown_at : (p : Places) (i : ℕ) → i < p.len → get_or (shown p) i Unknown ≡ place_of (get_or p.of i None)
unfolding shown
shown_at p i h = places_at (take p.len p.of) i ∙ ap place_of (get_or-take p.len p.of i None h)

-- ---- two terms

-- the places of q stand over those of p from i on
abbrev pub stands : Sheet → (p q : Places) (i : ℕ) → Bool
stands s p q i = meet_all s (take q.len (drop i p.of)) (take q.len q.of)

-- from none of the places at which q would end before e
abbrev pub NowhereTo : Sheet → (p q : Places) (e : ℕ) → Type 0
NowhereTo s p q e = (i : ℕ) → i + q.len < e → stands s p q i ≡ false

module _ (s : Sheet) (p q : Places) where
  pub nowhere_none : NowhereTo s p q q.len
  nowhere_none i h = absurd (omega arith)

  pub nowhere_more : (e : ℕ) → q.len ≤ e → NowhereTo s p q e → stands s p q (e - q.len) ≡ false → NowhereTo s p q (e + 1)
  nowhere_more e l x f i h = go (dec_lt (i + q.len) e)
    where
      go : Dec (i + q.len < e) → stands s p q i ≡ false
      go (yes k) = x i k
      go (no k) = let z : e - q.len ≡ i = omega arith in rw z at f

module _ (s : Sheet) (p q : Places) where
  stands_is : (i : ℕ) → i + q.len ≤ p.len → meet_from s (shown p) i (shown q) ≡ stands s p q i
  unfolding meet_all meet_from
  stands_is i h =
      let r = p.room in
      let l = p.long in
      let n = length-take-le q.len (drop i p.of) (rw length-drop (omega arith)) in
      rw (shown_length q, n)
      (all_same q.len _ _ (λ j k. rw (shown_at p (i + j) (omega arith), shown_at q j k, get_or-take q.len (drop i p.of) j None k, get_or-drop i p.of j None, get_or-take q.len q.of j None k)))

  pub lengths_differ : p.len ≢ q.len → (a b : ℕ) → false ≡ can_hold s (Equals a b) (shown p) (shown q)
  unfolding can_hold
  lengths_differ h a b = rw (shown_length p, shown_length q, ne_eqb p.len q.len h)

  pub lengths_same : p.len ≡ q.len → (x : Bool) → x ≡ meet_all s (take p.len p.of) (take q.len q.of) → (a b : ℕ) → x ≡ can_hold s (Equals a b) (shown p) (shown q)
  unfolding can_hold
  lengths_same e x h a b = rw (shown_length p, shown_length q, eq-eqb p.len q.len e) (rw e at h ∙ sym (stands_is 0 (omega arith)))

  pub stands_here : (i : ℕ) → i + q.len ≤ p.len → stands s p q i ≡ true → (a b : ℕ) → true ≡ can_hold s (ContainsTerm a b) (shown p) (shown q)
  unfolding can_hold
  stands_here i h e a b = rw (shown_length p, shown_length q) (sym (any_intro (suc p.len - q.len) _ i (omega arith) (stands_is i h ∙ e)))

  pub stands_nowhere : (e : ℕ) → p.len < e → NowhereTo s p q e → (a b : ℕ) → false ≡ can_hold s (ContainsTerm a b) (shown p) (shown q)
  unfolding can_hold
  stands_nowhere e l h a b =
      rw (shown_length p, shown_length q) (sym (any_nowhere (suc p.len - q.len) _ (λ j k. stands_is j (omega arith) ∙ h j (omega arith))))
