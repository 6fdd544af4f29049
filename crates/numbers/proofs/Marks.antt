-- Four bytes of a run compared with a mark.
-- Assumes nothing.
use Prim.Native.Nat.{ℕ, suc, ◌+◌, ◌≤◌, ◌<◌}
use mathlib.Core.Path.{◌≡◌, ap, ◌∙◌}
use mathlib.Core.Bool.{◌&&◌, and-true}
use mathlib.Core.List.{List, [], ◌∷◌}
use native.Mathlib.Omega.{arith}
use lib.ListN.{length, get_or, take, drop}
use lib.Seq.{drop-cons}
use lib.Dec.{eqb}
use lib.Pointwise.{pointwise}
use Rattle.paper.specs.Bytes.{mark_at}

module _ (s : List ℕ) (o : ℕ) (room : o + 4 ≤ length s) where
  byte : (j k : ℕ) → k ≡ suc j → j < o + 4 → drop j s ≡ get_or s j 0 ∷ drop k s
  byte j k e h = rw e (drop-cons s j 0 (omega arith))

  four : drop o s ≡ get_or s o 0 ∷ get_or s (o + 1) 0 ∷ get_or s (o + 2) 0 ∷ get_or s (o + 3) 0 ∷ drop (o + 4) s
  four =
      byte o (o + 1) (omega arith) (omega arith)
      ∙ ap (λ l. get_or s o 0 ∷ l) (byte (o + 1) (o + 2) (omega arith) (omega arith)
      ∙ ap (λ l. get_or s (o + 1) 0 ∷ l) (byte (o + 2) (o + 3) (omega arith) (omega arith)
      ∙ ap (λ l. get_or s (o + 2) 0 ∷ l) (byte (o + 3) (o + 4) (omega arith) (omega arith))))

  pub mark_is : (mark : List ℕ) (n : ℕ) → length mark ≡ 4 → n ≡ 4 → pointwise eqb (take n (drop o s)) mark ≡ mark_at s o (get_or mark 0 0) (get_or mark 1 0) (get_or mark 2 0) (get_or mark 3 0)
  unfolding mark_at
  mark_is (a ∷ b ∷ c ∷ d ∷ []) n e m = rw (m, four) (ap (λ x. eqb (get_or s o 0) a && (eqb (get_or s (o + 1) 0) b && (eqb (get_or s (o + 2) 0) c && x))) (and-true (eqb (get_or s (o + 3) 0) d)))
  mark_is mark n e m = absurd (omega arith)
