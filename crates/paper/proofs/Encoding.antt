-- Numbers read back from the bytes that were written, wherever these stand in a longer list; and how many bytes the parts of a cut list take.
-- Assumes nothing.
use Prim.Native.Nat.{ℕ, suc, ◌+◌, ◌*◌, ◌/◌, ◌%◌, ◌<◌}
use mathlib.Core.Path.{◌≡◌, refl, sym, ap, ◌∙◌, subst}
use mathlib.Core.Bool.{true}
use mathlib.Core.List.{List, [], ◌∷◌, ◌++◌, append_assoc, append-nil}
use native.Mathlib.Omega.{arith}
use native.Mathlib.Nat.{mod-lt, mod-eq_of_lt, mod-add-div, div-lt_iff_lt-mul, add-zero, zero-add}
use lib.ListN.{length, drop, get_or, length-append}
use lib.Seq.{drop-drop, drop-append_seam, get_or-drop}
use borrow.Author.Tests.{eq-eqb}
use Rattle.paper.specs.Bytes.{u8_at, u16_at, u32_at, u16, u32, mark_at}
use Rattle.paper.specs.Tests.{gather}
use Rattle.paper.specs.Rows.{Grammar}
use Rattle.paper.specs.Cuts.{Opt, Byte, Stretch, Split, Nil, options, option_bytes, all_bytes, head_bytes, entry, group, groups, list_trailer, cut_list}
use Rattle.paper.proofs.Tests.{and_intro}
use Rattle.paper.proofs.Gathered.{gather_suc, gather_at, gather_length}

-- ---- the bytes s stand at o in l

pub record Stands (l : List ℕ) (o : ℕ) (s : List ℕ) : Type 0 where
  pub rest : List ℕ
  pub same : drop o l ≡ s ++ rest

-- the same place, said in another way
pub stands_at : {l s : List ℕ} {o : ℕ} (p : ℕ) → o ≡ p → Stands l o s → Stands l p s
stands_at {l = l} {s = s} p e h = subst (λ (k : ℕ). Stands l k s) e h

pub stands_all : (l : List ℕ) → Stands l 0 l
stands_all l = record { rest = []; same = sym (append-nil l) }

pub stands_after : (x s y : List ℕ) → Stands (x ++ (s ++ y)) (length x) s
stands_after x s y = record { rest = y; same = drop-append_seam x (s ++ y) }

pub stands_head : {l : List ℕ} {o : ℕ} (s t : List ℕ) → Stands l o (s ++ t) → Stands l o s
stands_head s t h = record { rest = t ++ h.rest; same = h.same ∙ append_assoc s t h.rest }

pub stands_tail : {l : List ℕ} {o : ℕ} (s t : List ℕ) → Stands l o (s ++ t) → Stands l (o + length s) t
stands_tail {l = l} {o = o} s t h = record { rest = h.rest; same = rw (← drop-drop (length s) o l, h.same, append_assoc s t h.rest) (drop-append_seam s (t ++ h.rest)) }

pub stands_gather : {l : List ℕ} {o : ℕ} (n : ℕ) (f : ℕ → List ℕ) → Stands l o (gather 0 n f) → (k : ℕ) → k < n → Stands l (o + length (gather 0 k f)) (f k)
stands_gather {l = l} {o = o} n f h k u =
    rw zero-add at (stands_head (f (0 + k)) _ (stands_tail (gather 0 k f) _ (subst (Stands l o) (gather_at 0 n f k u) h)))

pub stands_byte : {l : List ℕ} {o b : ℕ} {s : List ℕ} → Stands l o (b ∷ s) → u8_at l o ≡ b
stands_byte {l = l} {o = o} h = rw add-zero at (sym (get_or-drop o l 0 0)) ∙ ap (λ (t : List ℕ). get_or t 0 0) h.same

pub stands_next : {l : List ℕ} {o b : ℕ} {s : List ℕ} → Stands l o (b ∷ s) → Stands l (o + 1) s
stands_next {b = b} {s = s} h = stands_tail (b ∷ []) s h

-- ---- numbers

pub length_u16 : (n : ℕ) → length (u16 n) ≡ 2
unfolding u16
length_u16 n = refl

pub stands_u16 : {l : List ℕ} {o : ℕ} (n : ℕ) → n < 65536 → Stands l o (u16 n) → u16_at l o ≡ n
unfolding u16 u16_at
stands_u16 {l = l} {o = o} n b h =
    let d : n / 256 < 256 = (div-lt_iff_lt-mul {k = 256} {x = n} {y = 256} (omega arith)).1 b in
    rw (stands_byte h, stands_byte (stands_next h), mod-eq_of_lt d) (mod-add-div n 256)

pub stands_u32 : {l : List ℕ} {o : ℕ} (n : ℕ) → n < 4294967296 → Stands l o (u32 n) → u32_at l o ≡ n
unfolding u32 u32_at
stands_u32 {l = l} {o = o} n b h =
    let d : n / 65536 < 65536 = (div-lt_iff_lt-mul {k = 65536} {x = n} {y = 65536} (omega arith)).1 b in
    let low = stands_head (u16 (n % 65536)) (u16 (n / 65536)) h in
    let high : Stands l (o + 2) (u16 (n / 65536)) = rw length_u16 at (stands_tail (u16 (n % 65536)) (u16 (n / 65536)) h) in
    rw (stands_u16 (n % 65536) (mod-lt n (omega arith)) low, stands_u16 (n / 65536) d high) (mod-add-div n 65536)

pub u16_written : (x : List ℕ) (n : ℕ) (y : List ℕ) → n < 65536 → u16_at (x ++ (u16 n ++ y)) (length x) ≡ n
u16_written x n y b = stands_u16 n b (stands_after x (u16 n) y)

pub u32_written : (x : List ℕ) (n : ℕ) (y : List ℕ) → n < 4294967296 → u32_at (x ++ (u32 n ++ y)) (length x) ≡ n
u32_written x n y b = stands_u32 n b (stands_after x (u32 n) y)

-- ---- the four bytes of a mark

pub stands_mark : {l : List ℕ} {o a b c d : ℕ} → Stands l o (a ∷ b ∷ c ∷ d ∷ []) → mark_at l o a b c d ≡ true
unfolding mark_at
stands_mark {o = o} h =
    let second = stands_next h in
    let third = stands_at (o + 2) (omega arith) (stands_next second) in
    let fourth = stands_at (o + 3) (omega arith) (stands_next third) in
    and_intro (eq-eqb _ _ (stands_byte h)) (and_intro (eq-eqb _ _ (stands_byte second)) (and_intro (eq-eqb _ _ (stands_byte third)) (eq-eqb _ _ (stands_byte fourth))))

-- ---- lengths

pub length_u32 : (n : ℕ) → length (u32 n) ≡ 4
unfolding u32 u16
length_u32 n = refl

pub length_option : (o : Opt) → length (option_bytes o) ≡ 8
unfolding option_bytes u16
length_option (Byte lo hi) = refl
length_option (Stretch off len) = refl
length_option (Split k a b) = refl
length_option Nil = refl

pub length_options : (os : List Opt) → length (all_bytes os) ≡ 8 * length os
unfolding all_bytes
length_options [] = refl
length_options (o ∷ os) = rw (length-append, length_option, length_options os) (omega arith)

pub length_head : (r m count : ℕ) → length (head_bytes r m count) ≡ 8
unfolding head_bytes u32 u16
length_head r m count = refl

pub length_entry : (g : Grammar) (m r : ℕ) → length (entry g m r) ≡ 8 + 8 * length (options g m r)
unfolding entry
length_entry g m r = rw (length-append, length_head, length_options)

pub length_groups : (g : Grammar) (m : ℕ) → length (groups g (suc m)) ≡ length (groups g m) + length (group g m)
unfolding groups
length_groups g m = rw (gather_suc 0 m (group g), length-append, zero-add)

pub length_trailer : (g : Grammar) (root n : ℕ) → length (list_trailer g root n) ≡ 4 * n + 20
unfolding list_trailer u32 u16
length_trailer g root n = rw (length-append, gather_length 4 0 (suc n) (λ m. u32 (length (groups g m))) (λ m. refl)) (omega arith)

pub length_list : (g : Grammar) (root n : ℕ) → length (cut_list g root n) ≡ length (groups g (suc n)) + (4 * n + 20)
unfolding cut_list
length_list g root n = rw (length-append, length_trailer)
