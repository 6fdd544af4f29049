-- Bytes stored one part behind the other.
-- Assumes nothing.
use Prim.Native.Nat.{ℕ, suc, ◌+◌, ◌/◌, ◌%◌, ◌≤◌, ◌<◌}
use mathlib.Core.Path.{◌≡◌, refl, sym, ◌∙◌, subst}
use mathlib.Core.List.{List, [], ◌∷◌, ◌++◌}
use native.Mathlib.Omega.{arith}
use native.Mathlib.Numerals.{add-one}
use native.Mathlib.Nat.{add-zero, zero-add, add-suc, suc-add}
use lib.ListN.{length, take, get_or, set, length-append}
use lib.Seq.{sets, sets-eq, take-suc, length-take-le}
use Rattle.std.specs.Int.{to_le_bytes}
use Rattle.std.proofs.Common.{w16, w32}
use Rattle.paper.specs.Bytes.{u16, u32}
use Rattle.paper.specs.Answers.{written}
use Rattle.numbers.specs.Put.{Put}

sets_append : (l : List ℕ) (o : ℕ) (x y : List ℕ) → sets (sets l o x) (o + length x) y ≡ sets l o (x ++ y)
sets_append l o [] y = rw add-zero
sets_append l o (a ∷ x) y = rw (add-suc, ← suc-add) (sets_append (set l o a) (suc o) x y)

-- ---- one part behind the other

pub put_none : (o : ℕ) (l : List ℕ) → Put [] o l l o
put_none o l = record { bytes = refl; stop = omega arith }

pub put_more : {x y : List ℕ} {o p e : ℕ} {a b c : List ℕ} → Put x o a b p → Put y p b c e → Put (x ++ y) o a c e
put_more {x = x} {y = y} {o = o} {p = p} {a = a} f h = record {
  bytes = h.bytes ∙ rw (f.bytes, f.stop) (sets_append a o x y);
  stop = rw length-append (omega (arith, f.stop, h.stop));
}

-- the same bytes, said in another way
pub put_same : {x y : List ℕ} {o e : ℕ} {a b : List ℕ} → x ≡ y → Put x o a b e → Put y o a b e
put_same {o = o} {e = e} {a = a} {b = b} h f = subst (λ (z : List ℕ). Put z o a b e) h f

-- one byte more of x
pub put_next : {l now : List ℕ} {o e : ℕ} (x : List ℕ) (i : ℕ) → i < length x → Put (take i x) o l now e → Put (take (i + 1) x) o l (set now (o + i) (get_or x i 0)) (o + (i + 1))
put_next {now = now} {o = o} x i h f =
    let n : length (take i x) ≡ i = length-take-le i x (omega arith) in
    let e : take i x ++ (get_or x i 0 ∷ []) ≡ take (i + 1) x = rw add-one (sym (take-suc x i 0 h)) in
    put_same e (put_more {x = take i x} {y = get_or x i 0 ∷ []} {p = o + i} (record { bytes = f.bytes; stop = rw n }) (record { bytes = refl; stop = omega arith }))

-- a number's bytes, as the library has them

pub two_bytes : (x : ℕ) → to_le_bytes w16 (x % 65536) ≡ u16 x
unfolding u16
two_bytes x =
    let a : x % 65536 % 256 ≡ x % 256 = omega arith in
    let b : x % 65536 / 256 % 256 ≡ x / 256 % 256 = omega arith in
    rw (a, b) refl

pub four_bytes : (x : ℕ) → to_le_bytes w32 (x % 4294967296) ≡ u32 x
unfolding u32 u16
four_bytes x =
    let a : x % 4294967296 % 256 ≡ x % 65536 % 256 = omega arith in
    let b : x % 4294967296 / 256 % 256 ≡ x % 65536 / 256 % 256 = omega arith in
    let c : x % 4294967296 / 65536 % 256 ≡ x / 65536 % 256 = omega arith in
    let d : x % 4294967296 / 16777216 % 256 ≡ x / 65536 / 256 % 256 = omega arith in
    rw (a, b, c, d) refl

-- from the start on, a list is written over a buffer
pub put_written : {w l now : List ℕ} {e : ℕ} → length w ≤ length l → Put w 0 l now e → now ≡ written w l
unfolding written
put_written {w = w} {l = l} h f = f.bytes ∙ sets-eq w l 0 (omega arith) ∙ rw (zero-add (length w))
