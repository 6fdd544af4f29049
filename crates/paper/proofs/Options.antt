-- Reading with the maker's options is `accepts`; and how the table of a list's lengths is filled, the shorter lengths first.
-- Assumes nothing.
use Prim.Native.Nat.{ℕ, zero, suc, ◌+◌, ◌-◌, ◌≤◌, ◌<◌}
use mathlib.Core.Path.{◌≡◌, refl, sym, ap, ◌∙◌, fun_ext}
use mathlib.Core.Bool.{Bool, true, false, ◌&&◌, cond}
use mathlib.Core.List.{List, [], ◌∷◌}
use native.Mathlib.Numerals.{one-add}
use native.Mathlib.Nat.{zero-add, add-zero, add-suc, suc-add}
use native.Mathlib.Omega.{arith}
use lib.Dec.{eqb}
use lib.ListN.{length}
use Rattle.paper.specs.Tests.{any_below, any_of, gather, Every}
use Rattle.paper.specs.Rows.{Row, Empty, Range, Text, Alt, Seq, Star, Grammar}
use Rattle.paper.specs.Decide.{nullable, reaches, Pattern, Test, split, own_row, level, up_to, accepts}
use Rattle.paper.specs.Cuts.{Opt, Byte, Stretch, Split, Nil, splits, own_opts, options}
use Rattle.paper.specs.Gate.{holds, read_up_to, read}
use Rattle.paper.proofs.Tests.{any_of_cons, any_of_append, any_first, any_none, or_false, and_true}

-- ---- on the maker's options the reading is `accepts`

any_of_gather : {A : Type 0} (f : A → Bool) (i n : ℕ) (F : ℕ → List A) → any_of f (gather i n F) ≡ any_below n (λ j. any_of f (F (i + j)))
unfolding any_of gather
any_of_gather f i zero F = sym (any_none _)
any_of_gather f i (suc n) F = any_of_append f (F i) (gather (suc i) n F) ∙ rw (any_of_gather f (suc i) n F, any_first n (λ j. any_of f (F (i + j)))) (simp (add-zero, add-suc, suc-add))

any_of_cond : {A : Type 0} (f : A → Bool) (b : Bool) (s : List A) → any_of f (cond b s []) ≡ (b && any_of f s)
unfolding any_of
any_of_cond f true s = refl
any_of_cond f false s = refl

any_of_one : {A : Type 0} (f : A → Bool) (o : A) → any_of f (o ∷ []) ≡ f o
unfolding any_of
any_of_one f o = any_of_cons f o [] ∙ or_false (f o)

module _ (g : Grammar) (pat : Pattern) (acc : Test) where
  splits_split : (m i a b : ℕ) → any_of (holds g.text pat acc m i) (splits m a b) ≡ split acc a b m i
  unfolding splits split holds
  splits_split m i a b = any_of_gather _ 1 (m - 1) _ ∙ ap (any_below (m - 1)) (fun_ext (λ j. any_of_one _ _ ∙ rw one-add))

  own_opts_lem : (m i q : ℕ) (x : Row) → any_of (holds g.text pat acc m i) (own_opts m q x) ≡ own_row g pat acc q x m i
  unfolding own_opts own_row holds any_of
  own_opts_lem m i q Empty = refl
  own_opts_lem m i q (Range lo hi) = any_of_cond (holds g.text pat acc m i) (eqb m 1) _ ∙ rw any_of_one
  own_opts_lem m i q (Text off len) = any_of_cond (holds g.text pat acc m i) (eqb len m) _ ∙ rw any_of_one
  own_opts_lem m i q (Alt a b) = refl
  own_opts_lem m i q (Seq a b) = splits_split m i a b
  own_opts_lem m i q (Star a) = splits_split m i a q

  level_options : (m i r : ℕ) → any_of (holds g.text pat acc m i) (options g m r) ≡ level g pat acc m i r
  unfolding options level holds
  level_options zero i r = any_of_cond (holds g.text pat acc 0 i) (nullable g r) _ ∙ rw any_of_one (and_true (nullable g r))
  level_options (suc m) i r = any_of_gather _ 0 (length g.rows) _ ∙ ap (any_below (length g.rows)) (fun_ext (λ q. rw zero-add (any_of_cond _ (reaches g r q) _ ∙ rw own_opts_lem)))

read_up_to_lem : (g : Grammar) (pat : Pattern) (f m i r : ℕ) → read_up_to g.text pat (options g) f m i r ≡ up_to g pat f m i r
unfolding read_up_to up_to
read_up_to_lem g pat zero m i r = level_options g pat (λ k j q. false) m i r
read_up_to_lem g pat (suc f) m i r =
    ap (λ (acc : Test). any_of (holds g.text pat acc m i) (options g m r)) (fun_ext (λ k. fun_ext (λ j. fun_ext (λ q. read_up_to_lem g pat f k j q))))
    ∙ level_options g pat (λ k j q. up_to g pat f k j q) m i r

-- the gate's reading with the maker's options is `accepts`
pub read_options : (g : Grammar) (pat : Pattern) (m i r : ℕ) → read g.text pat (options g) m i r ≡ accepts g pat m i r
unfolding read accepts
read_options g pat m i r = read_up_to_lem g pat m m i r

-- ---- any list whose splits are inside: they lead to shorter lengths, and to rows below R

abbrev pub InsideOpt : (R m : ℕ) → Opt → Type 0
InsideOpt R m (Byte lo hi) = Unit {0}
InsideOpt R m (Stretch off len) = Unit {0}
InsideOpt R m (Split k a b) = (0 < k) × (k < m) × (a < R) × (b < R)
InsideOpt R m Nil = Unit {0}

abbrev pub Inside : (R m : ℕ) → List Opt → Type 0
Inside R m = Every (InsideOpt R m)

-- the options of the lengths up to N and the rows below R are inside
abbrev pub AllInside : (N R : ℕ) → (ℕ → ℕ → List Opt) → Type 0
AllInside N R opts = (m r : ℕ) → m ≤ N → r < R → Inside R m (opts m r)

module _ (text : List ℕ) (pat : Pattern) where
  agree : (acc acc' : Test) (R m : ℕ) → ((k i r : ℕ) → k < m → r < R → acc k i r ≡ acc' k i r) → (i : ℕ) (os : List Opt) → Inside R m os
      → any_of (holds text pat acc m i) os ≡ any_of (holds text pat acc' m i) os
  unfolding any_of holds
  agree acc acc' R m h i [] t = refl
  agree acc acc' R m h i (o ∷ os) t =
      rw (any_of_cons (holds text pat acc m i) o os, any_of_cons (holds text pat acc' m i) o os, agree acc acc' R m h i os t.1, one o t.0)
    where
      one : (x : Opt) → InsideOpt R m x → holds text pat acc m i x ≡ holds text pat acc' m i x
      one (Byte lo hi) z = refl
      one (Stretch off len) z = refl
      one (Split k a b) z =
          let p : 0 < k = z.0 in
          let l : k < m = z.1 in
          rw (h k i a l z.2, h (m - k) (i + k) b (omega arith) z.3)
      one Nil z = refl

  -- two lists with the same options there are read alike there, and any bound on the lengths from m on serves
  read_same_up_to : (N R : ℕ) (opts opts' : ℕ → ℕ → List Opt) → AllInside N R opts → ((m r : ℕ) → m ≤ N → r < R → opts m r ≡ opts' m r)
      → (f f' m : ℕ) → m ≤ f → m ≤ f' → m ≤ N → (i r : ℕ) → r < R → read_up_to text pat opts f m i r ≡ read_up_to text pat opts' f' m i r
  unfolding read_up_to
  read_same_up_to N R opts opts' inside same zero zero m h h' n i r l = rw (same m r n l)
  read_same_up_to N R opts opts' inside same zero (suc f') m h h' n i r l =
      rw (← same m r n l) (agree _ _ R m (λ k j q u v. absurd (omega arith)) i (opts m r) (inside m r n l))
  read_same_up_to N R opts opts' inside same (suc f) zero m h h' n i r l =
      rw (← same m r n l) (agree _ _ R m (λ k j q u v. absurd (omega arith)) i (opts m r) (inside m r n l))
  read_same_up_to N R opts opts' inside same (suc f) (suc f') m h h' n i r l =
      rw (← same m r n l)
      (agree _ _ R m (λ k j q u v. read_same_up_to N R opts opts' inside same f f' k (omega arith) (omega arith) (omega arith) j q v) i (opts m r) (inside m r n l))

  pub read_same : (N R : ℕ) (opts opts' : ℕ → ℕ → List Opt) → AllInside N R opts → ((m r : ℕ) → m ≤ N → r < R → opts m r ≡ opts' m r)
      → (m i r : ℕ) → m ≤ N → r < R → read text pat opts m i r ≡ read text pat opts' m i r
  unfolding read
  read_same N R opts opts' inside same m i r n l = read_same_up_to N R opts opts' inside same m m m (omega arith) (omega arith) n i r l

  -- a length from the shorter ones
  pub read_level : (N R : ℕ) (opts : ℕ → ℕ → List Opt) → AllInside N R opts → (m i r : ℕ) → m ≤ N → r < R
      → read text pat opts m i r ≡ any_of (holds text pat (read text pat opts) m i) (opts m r)
  unfolding read read_up_to
  read_level N R opts inside zero i r n l = agree _ _ R 0 (λ k j q u v. absurd (omega arith)) i (opts 0 r) (inside 0 r n l)
  read_level N R opts inside (suc m) i r n l =
      agree _ _ R (suc m) (λ k j q u v. read_same_up_to N R opts opts inside (λ a b x y. refl) m k k (omega arith) (omega arith) (omega arith) j q v) i (opts (suc m) r) (inside (suc m) r n l)
