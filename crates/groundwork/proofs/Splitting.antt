-- The pairs of the rows, in the order of the rows: how many, what each is, and that each is there.
-- Assumes nothing.
use Prim.Native.Nat.{ℕ, zero, suc, ◌+◌, ◌≤◌, ◌<◌}
use mathlib.Core.Path.{◌≡◌, refl, sym, ◌∙◌, subst}
use mathlib.Core.List.{[], ◌∷◌}
use native.Mathlib.Omega.{arith}
use native.Mathlib.Numerals.{add-one}
use lib.ListN.{length, get_or, get_or-append}
use Rattle.std.specs.Prelude.{Option, Some, None}
use Rattle.std.proofs.lemmas.List.{get_or_push, length_push}
use Rattle.paper.specs.Rows.{Grammar, row}
use Rattle.paper.proofs.Sound.{SoundRow}
use Rattle.workspace.proofs.Spans.{lt_or_le}
use Rattle.groundwork.specs.declared.splits.Pair.{Pair}
use Rattle.groundwork.specs.Laying.{no_pair, pair_of, with_pair, pairs_below}
use Rattle.groundwork.specs.Ground.{PairOf}
use Rattle.groundwork.proofs.ByKind.{pair_row, pair_splits}

module _ (g : Grammar) where
  -- one row more
  pub pairs_more : (n : ℕ) (o : Option Pair) → o ≡ pair_of n (row g n) → with_pair (pairs_below g n) o ≡ pairs_below g (n + 1)
  pairs_more n o e = rw (add-one n, e)

  pub pairs_few : (n : ℕ) → length (pairs_below g n) ≤ n
  pairs_few zero = omega arith
  pairs_few (suc n) = go (pairs_few n) (pair_of n (row g n))
    where
      go : length (pairs_below g n) ≤ n → (o : Option Pair) → length (with_pair (pairs_below g n) o) ≤ suc n
      go h (Some x) = omega (arith, length_push (pairs_below g n) x)
      go h None = omega arith

  -- a pair is that of its row
  abbrev pub Told : Pair → Type 0
  Told p = PairOf (row g p.row) p

  told : (n : ℕ) (p : Pair) → p.row ≡ n → PairOf (row g n) p → Told p
  told n p e h = subst (λ (q : ℕ). PairOf (row g q) p) (sym e) h

  pub pair_at : (text rows n : ℕ) → rows ≤ 256 → n ≤ rows → ((q : ℕ) → q < n → SoundRow text rows (row g q)) → (j : ℕ) → j < length (pairs_below g n)
      → Told (get_or (pairs_below g n) j no_pair)
  pair_at text rows zero few all sound j h = absurd (omega arith)
  pair_at text rows (suc n) few all sound j h = go (λ l. pair_at text rows n few (omega arith) (λ q k. sound q (omega arith)) j l) (pair_of n (row g n)) refl h
    where
      go : (j < length (pairs_below g n) → Told (get_or (pairs_below g n) j no_pair)) → (o : Option Pair) → pair_of n (row g n) ≡ o → j < length (with_pair (pairs_below g n) o) → Told (get_or (with_pair (pairs_below g n) o) j no_pair)
      go old None e k = old k
      go old (Some x) e k =
          lt_or_le j (length (pairs_below g n)) (λ l. rw (get_or-append (pairs_below g n) (x ∷ []) no_pair j l) (old l))
          (λ l.
          rw (get_or_push (pairs_below g n) x no_pair j (omega (arith, k, l, length_push (pairs_below g n) x)))
          (told n x (pair_row n x (row g n) e) (pair_splits text rows n few (omega arith) x (row g n) (sound n (omega arith)) e)))

  pub pair_in : (n q : ℕ) (x : Pair) → q < n → pair_of q (row g q) ≡ Some x → (j : ℕ) × (j < length (pairs_below g n)) × (get_or (pairs_below g n) j no_pair ≡ x)
  pair_in zero q x h e = absurd (omega arith)
  pair_in (suc n) q x h e = lt_or_le q n (λ l. kept (pair_of n (row g n)) (pair_in n q x l e)) (λ l. let k : q ≡ n = omega arith in last (rw k at e))
    where
      kept : (o : Option Pair) → (j : ℕ) × (j < length (pairs_below g n)) × (get_or (pairs_below g n) j no_pair ≡ x)
          → (j : ℕ) × (j < length (with_pair (pairs_below g n) o)) × (get_or (with_pair (pairs_below g n) o) j no_pair ≡ x)
      kept None z = z
      kept (Some y) z = (z.0, omega (arith, z.1, length_push (pairs_below g n) y), get_or-append (pairs_below g n) (y ∷ []) no_pair z.0 z.1 ∙ z.2)

      last : pair_of n (row g n) ≡ Some x → (j : ℕ) × (j < length (pairs_below g (suc n))) × (get_or (pairs_below g (suc n)) j no_pair ≡ x)
      last k =
          subst (λ (o : Option Pair). (j : ℕ) × (j < length (with_pair (pairs_below g n) o)) × (get_or (with_pair (pairs_below g n) o) j no_pair ≡ x)) (sym k)
          (length (pairs_below g n), omega (arith, length_push (pairs_below g n) x), get_or_push (pairs_below g n) x no_pair (length (pairs_below g n)) refl)
