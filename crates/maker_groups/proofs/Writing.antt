-- Parts of a list written in rising order: one turn of each writer's loop.
-- Assumes nothing.
use Prim.Native.Nat.{ℕ, suc, ◌+◌, ◌*◌, ◌-◌, ◌≤◌}
use mathlib.Core.Path.{◌≡◌, refl, sym, ap, ◌∙◌}
use mathlib.Core.List.{List, [], ◌∷◌, ◌++◌, append_assoc, append-nil}
use native.Mathlib.Omega.{arith}
use native.Mathlib.Numerals.{add-one}
use native.Mathlib.Nat.{zero-add}
use lib.ListN.{length}
use Rattle.paper.specs.Tests.{gather}
use Rattle.paper.specs.Cuts.{Opt, Split, splits, option_bytes, all_bytes}
use Rattle.paper.proofs.Gathered.{gather_suc}
use Rattle.paper.proofs.Encoding.{length_options}
use Rattle.numbers.specs.Put.{Put}
use Rattle.numbers.proofs.Stores.{put_none, put_more, put_same}
use Rattle.maker_options.proofs.Options.{splits_length}

-- ---- one part more

pub gather_none : (f : ℕ → List ℕ) (o : ℕ) (l : List ℕ) → Put (gather 0 0 f) o l l o
unfolding gather
gather_none f o l = put_none o l

pub gather_turn : (f : ℕ → List ℕ) (m : ℕ) {o p e : ℕ} {a b c : List ℕ} → Put (gather 0 m f) o a b p → Put (f m) p b c e → Put (gather 0 (m + 1) f) o a c e
gather_turn f m x y = put_same (sym (ap (λ (z : ℕ). gather 0 z f) (add-one m) ∙ gather_suc 0 m f ∙ ap (λ (z : ℕ). gather 0 m f ++ f z) (zero-add m))) (put_more x y)

-- ---- options

all_append : (x y : List Opt) → all_bytes (x ++ y) ≡ all_bytes x ++ all_bytes y
unfolding all_bytes
all_append [] y = refl
all_append (o ∷ x) y = rw (all_append x y, append_assoc)

all_one : (o : Opt) → all_bytes (o ∷ []) ≡ option_bytes o
unfolding all_bytes
all_one o = append-nil (option_bytes o)

module _ {o p e : ℕ} {a b c : List ℕ} where
  pub options_more : (x y : List Opt) → Put (all_bytes x) o a b p → Put (all_bytes y) p b c e → Put (all_bytes (x ++ y)) o a c e
  options_more x y f h = put_same (sym (all_append x y)) (put_more f h)

pub options_none : (o : ℕ) (l : List ℕ) → Put (all_bytes []) o l l o
unfolding all_bytes
options_none o l = put_none o l

pub options_one : (x : Opt) {o e : ℕ} {l now : List ℕ} → Put (option_bytes x) o l now e → Put (all_bytes (x ∷ [])) o l now e
options_one x h = put_same (sym (all_one x)) h

-- ---- splits

splits_none : (a b : ℕ) → splits 1 a b ≡ []
unfolding splits gather
splits_none a b = refl

splits_more : (k a b : ℕ) → 1 ≤ k → splits (k + 1) a b ≡ splits k a b ++ (Split k a b ∷ [])
unfolding splits
splits_more k a b h =
    let f : ℕ → List Opt = λ i. Split i a b ∷ [] in
    let e : k + 1 - 1 ≡ suc (k - 1) = omega arith in
    let d : 1 + (k - 1) ≡ k = omega arith in
    ap (λ (z : ℕ). gather 1 z f) e ∙ gather_suc 1 (k - 1) f ∙ ap (λ (z : ℕ). gather 1 (k - 1) f ++ f z) d

pub splits_start : (a b o : ℕ) (l : List ℕ) → Put (all_bytes (splits 1 a b)) o l l o
splits_start a b o l = put_same (ap all_bytes (sym (splits_none a b))) (options_none o l)

pub splits_turn : (k i j : ℕ) → 1 ≤ k → {o p e : ℕ} {a b c : List ℕ} → Put (all_bytes (splits k i j)) o a b p → Put (option_bytes (Split k i j)) p b c e → Put (all_bytes (splits (k + 1) i j)) o a c e
splits_turn k i j h x y = put_same (ap all_bytes (sym (splits_more k i j h))) (options_more (splits k i j) (Split k i j ∷ []) x (options_one (Split k i j) y))

pub splits_size : (m a b : ℕ) → length (all_bytes (splits m a b)) ≡ 8 * (m - 1)
splits_size m a b = length_options (splits m a b) ∙ ap (λ (z : ℕ). 8 * z) (splits_length m a b)
