-- A list's numbers, and its heads and groups, one after the other.
-- Assumes nothing.
use Prim.Native.Nat.{ℕ, zero, suc, ◌+◌, ◌*◌, ◌≤◌, ◌<◌}
use mathlib.Core.Path.{◌≡◌, refl, sym, ◌∙◌}
use mathlib.Core.Bool.{Bool, true, false, ◌&&◌}
use mathlib.Core.List.{List}
use native.Mathlib.Numerals.{add-one}
use native.Mathlib.Nat.{not-suc-le-zero}
use native.Mathlib.Omega.{arith}
use lib.Dec.{eqb, leb}
use lib.ListN.{get_or}
use borrow.Author.Tests.{eq-eqb, ne_eqb, leb-true}
use Rattle.paper.specs.Tests.{all_below}
use Rattle.paper.specs.Gate.{rows_of, trailer_of, group_at, option_count, head_end, head_at, head_ok, entry_ok, group_begin, group_ok}
use Rattle.paper.specs.Bytes.{u16_at, u32_at}
use Rattle.paper.proofs.Tests.{and_left, and_right, all_elim}
use Rattle.std.specs.Prelude.{None, Some}
use Rattle.std.specs.Bool.{then_some}
use Rattle.list.specs.Read.{option_from}

-- four bytes make a number of 32 bits
pub u32_small : (l : List ℕ) (o : ℕ) → ((i : ℕ) → get_or l i 0 < 256) → u32_at l o < 4294967296
unfolding u32_at u16_at
u32_small l o f = omega (arith, f o, f (o + 1), f (o + 2), f (o + 2 + 1))

-- what was looked at obeys, and ends there
pub ends_at : (b : Bool) (x e : ℕ) → then_some b x ≡ Some e → (b ≡ true) × (x ≡ e)
ends_at true x e h = (refl, cc)
ends_at false x e h = cc

-- it does not obey
pub ends_nowhere : (b : Bool) (x : ℕ) → then_some b x ≡ None → b ≡ false
ends_nowhere true x h = cc
ends_nowhere false x h = refl

module _ (l : List ℕ) (m : ℕ) where
  pub head_first : group_at l m ≡ head_at l m 0
  unfolding head_at
  head_first = refl

  pub head_next : (r : ℕ) → head_at l m (r + 1) ≡ head_end l (head_at l m r)
  unfolding head_at
  head_next r = rw add-one

  module _ (text r o : ℕ) where
    pub entry_is : o ≡ head_at l m r → entry_ok l text m r ≡ (head_ok l m r o && all_below (option_count l o) (option_from l text m (o + 8)))
    unfolding entry_ok
    entry_is e = rw e

    -- a head that obeys ends before the trailer
    pub entry_before : o ≡ head_at l m r → entry_ok l text m r ≡ true → head_end l o ≤ trailer_of l
    unfolding head_ok
    entry_before e h = leb-true _ _ (and_left (leb (head_end l o) (trailer_of l)) _ (and_left (head_ok l m r o) _ (sym (entry_is e) ∙ h)))

  pub group_read : (b : ℕ) → b ≡ trailer_of l → u32_at l (b + 4 * m) ≡ group_at l m
  unfolding group_at
  group_read b e = rw e

  pub group_next : group_begin l (m + 1) ≡ head_at l m (rows_of l)
  unfolding group_begin
  group_next = rw add-one

  heads_before : (text R : ℕ) → 1 ≤ R → all_below R (entry_ok l text m) ≡ true → head_at l m R ≤ trailer_of l
  unfolding head_at
  heads_before text zero h e = absurd (not-suc-le-zero h)
  heads_before text (suc r) h e = entry_before text r (head_at l m r) refl (all_elim (suc r) (entry_ok l text m) e r (omega arith))

  module _ (text : ℕ) where
    -- a group that obeys ends before the trailer
    pub group_before : 1 ≤ rows_of l → group_ok l text m ≡ true → group_begin l (m + 1) ≤ trailer_of l
    unfolding group_ok
    group_before h e = rw group_next (heads_before text (rows_of l) h (and_right (eqb (group_at l m) (group_begin l m)) _ e))

    pub group_apart : (group_at l m ≡ group_begin l m → ⊥) → group_ok l text m ≡ false
    unfolding group_ok
    group_apart h = rw (ne_eqb _ _ h)

    pub group_is : group_at l m ≡ group_begin l m → group_ok l text m ≡ all_below (rows_of l) (entry_ok l text m)
    unfolding group_ok
    group_is h = rw (eq-eqb _ _ h)

pub group_none : (l : List ℕ) → 0 ≡ group_begin l 0
unfolding group_begin
group_none l = refl
