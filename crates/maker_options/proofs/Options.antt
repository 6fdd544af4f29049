-- The options of a row at a length, in the order in which they are written.
-- Assumes nothing.
use Prim.Native.Nat.{ℕ, zero, suc, ◌+◌, ◌-◌, ◌≤◌, ◌<◌}
use mathlib.Core.Path.{◌≡◌, refl, sym, ap, ◌∙◌}
use mathlib.Core.Bool.{Bool, true, false, cond, not}
use mathlib.Core.List.{List, [], ◌∷◌, ◌++◌, append-nil}
use native.Mathlib.Omega.{arith}
use native.Mathlib.Numerals.{add-one}
use native.Mathlib.Nat.{add-zero, zero-add, add-suc}
use lib.Dec.{eqb}
use Rattle.std.specs.Int.{from_bool}
use lib.ListN.{length}
use borrow.Author.Tests.{eqb-true, not-false}
use Rattle.paper.specs.Tests.{gather}
use Rattle.paper.specs.Rows.{Grammar, row}
use Rattle.paper.specs.Decide.{nullable, reaches}
use Rattle.paper.specs.Cuts.{Opt, Split, Nil, splits, own_opts, options}
use Rattle.paper.proofs.Tests.{and_left}
use Rattle.paper.proofs.Gathered.{gather_suc, gather_length, gather_rises}
use Rattle.workspace.specs.Bits.{bit_at}
use Rattle.workspace.specs.Scan.{in_both, First}
use Rattle.maker_options.specs.Giving.{giving, from_row, from_below}
use Rattle.maker_options.specs.Prepared.{Ready, chosen}

-- ---- the splits

pub splits_length : (m a b : ℕ) → length (splits m a b) ≡ m - 1
unfolding splits
splits_length m a b = gather_length 1 1 (m - 1) (λ k. Split k a b ∷ []) (λ k. refl) ∙ omega arith

-- one option where the test passes
pub one_if : (b : Bool) (x : Opt) → length (cond b (x ∷ []) []) ≡ from_bool b
one_if true x = refl
one_if false x = refl

-- ---- gathered from the rows below q

pub below_none : (g : Grammar) (m r : ℕ) → from_below g m r 0 ≡ []
unfolding from_below gather
below_none g m r = refl

below_all : (g : Grammar) (m r : ℕ) → 1 ≤ m → options g m r ≡ from_below g m r (length g.rows)
unfolding from_below from_row options
below_all g zero r h = absurd (omega arith)
below_all g (suc m) r h = refl

pub below_rises : (g : Grammar) (m r p q : ℕ) → p ≤ q → length (from_below g m r p) ≤ length (from_below g m r q)
unfolding from_below
below_rises g m r p q h = gather_rises 0 p q (from_row g m r) h

gather_skip : {A : Type 0} (f : ℕ → List A) (p d : ℕ) → ((k : ℕ) → p ≤ k → k < p + d → f k ≡ []) → gather 0 (p + d) f ≡ gather 0 p f
gather_skip f p zero h = rw add-zero
gather_skip f p (suc d) h =
    rw (add-suc, gather_suc 0 (p + d) f, zero-add, h (p + d) (omega arith) (omega arith), append-nil) (gather_skip f p d (λ k l u. h k l (omega arith)))

below_skip : (g : Grammar) (m r p q : ℕ) → p ≤ q → ((k : ℕ) → p ≤ k → k < q → from_row g m r k ≡ []) → from_below g m r q ≡ from_below g m r p
unfolding from_below
below_skip g m r p q h f =
    let e : q ≡ p + (q - p) = omega arith in
    ap (λ (z : ℕ). gather 0 z (from_row g m r)) e ∙ gather_skip (from_row g m r) p (q - p) (λ k l u. f k l (omega arith))

cond_none : (b : Bool) (x : List Opt) → x ≡ [] → cond b x [] ≡ []
cond_none true x h = h
cond_none false x h = refl

none_of : (x : List Opt) → not (eqb (length x) 0) ≡ false → x ≡ []
none_of [] h = refl
none_of (o ∷ x) h = let e : suc (length x) ≡ 0 = eqb-true (suc (length x)) 0 (not-false (eqb (suc (length x)) 0) h) in absurd (omega arith)

module _ (g : Grammar) (n : ℕ) (ws : List ℕ) (ready : Ready g n ws) (m r : ℕ) (low : 1 ≤ m) (high : m ≤ n) (inside : r < length g.rows) where
  row_none : (k : ℕ) → k < length g.rows → chosen ws r m k ≡ false → from_row g m r k ≡ []
  unfolding in_both from_row giving
  row_none k l h = go (reaches g r k) refl
    where
      go : (b : Bool) → reaches g r k ≡ b → cond (reaches g r k) (own_opts m k (row g k)) [] ≡ []
      go false e = rw e
      go true e = cond_none (reaches g r k) (own_opts m k (row g k)) (none_of (own_opts m k (row g k)) (sym (ready.gives m k low high l) ∙ (rw (ready.reached r k inside l, e) at h)))

  row_here : (q : ℕ) → q < length g.rows → chosen ws r m q ≡ true → from_row g m r q ≡ own_opts m q (row g q)
  unfolding in_both from_row
  row_here q l h = rw (sym (ready.reached r q inside l) ∙ and_left (bit_at ws r q) _ h)

  -- the rows that are passed over give nothing
  pub below_next : (p q : ℕ) → First (chosen ws r m) p (length g.rows) q → from_below g m r q ≡ from_below g m r p
  below_next p q h = below_skip g m r p q h.low (λ k l u. row_none k (omega (arith, h.high)) (h.gap k u l))

  -- the row that is met gives its own
  pub below_more : (q : ℕ) → q < length g.rows → chosen ws r m q ≡ true → from_below g m r (q + 1) ≡ from_below g m r q ++ own_opts m q (row g q)
  unfolding from_below
  below_more q l h = rw (add-one, gather_suc 0 q (from_row g m r), zero-add, row_here q l h)

  -- the last row is passed
  pub below_done : (q : ℕ) → q ≡ length g.rows → options g m r ≡ from_below g m r q
  below_done q e = below_all g m r low ∙ rw e

-- ---- length 0

pub options_nil : (g : Grammar) (m r : ℕ) {b : Bool} → m ≡ 0 → b ≡ nullable g r → options g m r ≡ cond b (Nil ∷ []) []
unfolding options
options_nil g m r z e = rw (z, e)
