-- The maker's options, of a grammar that the sheet's rules allow: each obeys the gate's rule, and there are not too many.
-- Assumes nothing.
use Prim.Native.Nat.{ℕ, zero, suc, ◌+◌, ◌-◌, ◌≤◌, ◌<◌}
use mathlib.Core.Path.{◌≡◌, refl}
use mathlib.Core.Bool.{Bool, true, false, cond}
use mathlib.Core.List.{List, [], ◌∷◌}
use native.Mathlib.Omega.{arith}
use lib.Dec.{eqb}
use lib.ListN.{length}
use borrow.Author.Tests.{eqb-true}
use Rattle.paper.specs.Tests.{Every}
use Rattle.paper.specs.Rows.{Row, Empty, Range, Text, Alt, Seq, Star, Grammar, row}
use Rattle.paper.specs.Decide.{nullable, reaches}
use Rattle.paper.specs.Cuts.{Opt, Byte, Stretch, Split, Nil, splits, own_opts, options, entry, group, groups, cut_list}
use Rattle.paper.proofs.Tests.{every_map}
use Rattle.paper.proofs.Gathered.{every_gather, every_cond, gather_most}
use Rattle.paper.proofs.Encoding.{length_entry, length_list}
use Rattle.paper.proofs.Options.{Inside, InsideOpt, AllInside}
use Rattle.paper.proofs.Sound.{SoundRow, Sound}

-- ---- the gate's rule for an option, as facts

abbrev pub Obeys : (text rows m : ℕ) → Opt → Type 0
Obeys text rows m (Byte lo hi) = (m ≡ 1) × (lo ≤ hi) × (hi ≤ 255)
Obeys text rows m (Stretch off len) = (len ≡ m) × (1 ≤ m) × (off + len ≤ text)
Obeys text rows m (Split k a b) = (0 < k) × (k < m) × (a < rows) × (b < rows)
Obeys text rows m Nil = m ≡ 0

obeys_inside : (text rows m : ℕ) (o : Opt) → Obeys text rows m o → InsideOpt rows m o
obeys_inside text rows m (Byte lo hi) h = tt
obeys_inside text rows m (Stretch off len) h = tt
obeys_inside text rows m (Split k a b) h = h
obeys_inside text rows m Nil h = tt

-- options that obey lead only to shorter lengths, and to rows of the list
pub all_obey_inside : (text rows m : ℕ) (os : List Opt) → Every (Obeys text rows m) os → Inside rows m os
all_obey_inside text rows m os h = every_map _ _ (obeys_inside text rows m) os h

splits_obey : (text rows m a b : ℕ) → a < rows → b < rows → Every (Obeys text rows m) (splits m a b)
unfolding splits
splits_obey text rows m a b x y = every_gather (Obeys text rows m) 1 (m - 1) (λ k. Split k a b ∷ []) (λ k l u. ((omega arith, omega arith, x, y), tt))

own_obey : (text rows m q : ℕ) → 1 ≤ m → q < rows → (x : Row) → SoundRow text rows x → Every (Obeys text rows m) (own_opts m q x)
unfolding own_opts
own_obey text rows m q p l Empty h = tt
own_obey text rows m q p l (Range lo hi) h = every_cond _ (eqb m 1) _ (λ e. ((eqb-true m 1 e, h.0, h.1), tt))
own_obey text rows m q p l (Text off len) h = every_cond _ (eqb len m) _ (λ e. ((eqb-true len m e, p, h), tt))
own_obey text rows m q p l (Alt a b) h = tt
own_obey text rows m q p l (Seq a b) h = splits_obey text rows m a b h.0 h.1
own_obey text rows m q p l (Star a) h = splits_obey text rows m a q h l

pub options_obey : (g : Grammar) → Sound g → (m r : ℕ) → Every (Obeys (length g.text) (length g.rows) m) (options g m r)
unfolding options
options_obey g s zero r = every_cond _ (nullable g r) _ (λ e. (refl, tt))
options_obey g s (suc m) r =
    every_gather _ 0 (length g.rows) _
    (λ q l u. let v : q < length g.rows = omega arith in every_cond _ (reaches g r q) _ (λ e. own_obey _ _ (suc m) q (omega arith) v (row g q) (s.each q v)))

pub options_inside : (g : Grammar) → Sound g → (N : ℕ) → AllInside N (length g.rows) (options g)
options_inside g s N m r n l = all_obey_inside _ _ m (options g m r) (options_obey g s m r)

-- ---- how many: a row gives at most 59 options, a head has those of at most 256 rows

one_few : (b : Bool) (o : Opt) → length (cond b (o ∷ []) []) ≤ 59
one_few true o = omega arith
one_few false o = omega arith

splits_few : (m a b : ℕ) → m ≤ 60 → length (splits m a b) ≤ 59
unfolding splits
splits_few m a b h = omega (arith, gather_most 1 1 (m - 1) (λ k. Split k a b ∷ []) (λ k l u. omega arith))

own_few : (m q : ℕ) → m ≤ 60 → (x : Row) → length (own_opts m q x) ≤ 59
unfolding own_opts
own_few m q h Empty = omega arith
own_few m q h (Range lo hi) = one_few (eqb m 1) (Byte lo hi)
own_few m q h (Text off len) = one_few (eqb len m) (Stretch off len)
own_few m q h (Alt a b) = omega arith
own_few m q h (Seq a b) = splits_few m a b h
own_few m q h (Star a) = splits_few m a q h

cond_few : (b : Bool) (s : List Opt) → length s ≤ 59 → length (cond b s []) ≤ 59
cond_few true s h = h
cond_few false s h = omega arith

module _ (g : Grammar) (s : Sound g) where
  pub options_few : (m r : ℕ) → m ≤ 60 → length (options g m r) ≤ 15104
  unfolding options
  options_few zero r h = omega (arith, s.some, one_few (nullable g r) Nil)
  options_few (suc m) r h =
      omega (arith, s.few, gather_most 59 0 (length g.rows) (λ q. cond (reaches g r q) (own_opts (suc m) q (row g q)) []) (λ q l u. cond_few (reaches g r q) _ (own_few (suc m) q h (row g q))))

  pub group_most : (m : ℕ) → m ≤ 60 → length (group g m) ≤ 30935040
  unfolding group
  group_most m h = omega (arith, s.few, gather_most 120840 0 (length g.rows) (entry g m) (λ r l u. omega (arith, length_entry g m r, options_few m r h)))

  pub groups_most : (k : ℕ) → k ≤ 61 → length (groups g k) ≤ 1887037440
  unfolding groups
  groups_most k h = omega (arith, gather_most 30935040 0 k (group g) (λ m l u. group_most m (omega arith)))

  -- every number of a list fits its four bytes
  pub list_most : (root n : ℕ) → n ≤ 60 → length (cut_list g root n) < 4294967296
  list_most root n h = omega (arith, length_list g root n, groups_most (suc n) (omega arith))
