-- A table's entries filled row by row.
-- Assumes nothing.
use Prim.Native.Nat.{ℕ, ◌+◌, ◌*◌, ◌≤◌, ◌<◌}
use mathlib.Core.Path.{◌≡◌, ◌∙◌}
use mathlib.Core.Logic.{◌≢◌}
use mathlib.Core.Bool.{Bool, not}
use mathlib.Core.List.{List}
use native.Mathlib.Omega.{arith}
use lib.Dec.{eqb}
use borrow.Author.Tests.{lt-ltb}
use lib.ListN.{length}
use Rattle.paper.specs.Rows.{Grammar}
use Rattle.paper.specs.Sheet.{grammar_of}
use Rattle.workspace.specs.Bits.{bit_at, wiped, copied}
use Rattle.workspace.specs.Where.{put_below}
use Rattle.workspace.proofs.Spans.{lt_or_le}
use Rattle.workspace.proofs.Where.{length_put_below, put_below_bit, put_below_apart}
use Rattle.workspace.proofs.Bits.{length_wiped, wiped_bit, wiped_apart, copied_bit, copied_apart}
use Rattle.sheet_contents.specs.declared.Row.{Row}
use Rattle.sheet_contents.specs.Read.{as_row}
use Rattle.sheet.specs.Readers.{RowRead}
use Rattle.rows.specs.Sets.{Nulls, Reached}
use Rattle.maker_options.specs.Giving.{Gives, giving}
use Rattle.maker_options.specs.Prepared.{across, Turned, Given, Ready}

-- the table with the rows below n that pass in entry e, and no other row there
module _ (f : ℕ → Bool) (e n : ℕ) (old mid now : List ℕ) (room : 4 * e + 4 ≤ length old) (few : n ≤ 256) (clean : mid ≡ wiped old e) (made : now ≡ put_below f mid e n) where
  entry_length : length now ≡ length old
  entry_length = rw (made, clean) (length_put_below f (wiped old e) e n ∙ length_wiped old e)

  entry_here : (q : ℕ) → q < n → bit_at now e q ≡ f q
  entry_here q h =
      rw (made, clean) (put_below_bit f (wiped old e) e n (rw length_wiped room) few q ∙ rw (wiped_bit old e room q, lt-ltb q n h))

  entry_apart : (t q : ℕ) → t ≢ e → bit_at now t q ≡ bit_at old t q
  entry_apart t q ne = rw (made, clean) (put_below_apart f (wiped old e) e n few t q ne ∙ wiped_apart old e t q ne)

-- ---- each row's entry

pub turned_more : (from : List ℕ) (n k : ℕ) {ws mid now : List ℕ} → 4 * k + 4 ≤ length ws → n ≤ 256 → Turned from n k ws → mid ≡ wiped ws k → now ≡ put_below (across from k) mid k n → Turned from n (k + 1) now
turned_more from n k room few x clean made =
    let f = across from k in
    record {
      each = λ r q l u. lt_or_le r k (λ v. entry_apart f k n _ _ _ room few clean made r q (λ d. omega arith) ∙ x.each r q v u) (λ v. let d : r ≡ k = omega arith in rw d (entry_here f k n _ _ _ room few clean made q u));
    }

-- ---- each length's entry

pub given_more : (g : Grammar) (k rows : ℕ) {old ws mid now : List ℕ} → 1 ≤ k → 4 * (256 + k) + 4 ≤ length ws → rows ≤ 256 → rows ≡ length g.rows → Given g k old ws
    → mid ≡ wiped ws (256 + k) → now ≡ put_below (giving g k) mid (256 + k) rows → Given g (k + 1) old now
given_more g k rows h room few e x clean made =
    let f = giving g k in
    record {
      each = λ m q a b u.
          lt_or_le m k (λ v. entry_apart f (256 + k) rows _ _ _ room few clean made (256 + m) q (λ d. omega arith) ∙ x.each m q a v u)
          (λ v. let d : m ≡ k = omega arith in rw d (entry_here f (256 + k) rows _ _ _ room few clean made q (omega arith)));
      kept = λ t q l. entry_apart f (256 + k) rows _ _ _ room few clean made t q (λ d. omega arith) ∙ x.kept t q l;
    }

-- ---- all of it

-- a row's count of options says whether it gives one
pub giving_is : (s : List ℕ) (m q count : ℕ) (r : Row) → RowRead s q r → Gives m (as_row r) count → not (eqb count 0) ≡ giving (grammar_of s) m q
unfolding giving
giving_is s m q count r x y = rw (← x.same, y q)

pub ready_is : (g : Grammar) (n rows : ℕ) (nulls reach a b c : List ℕ) → rows ≡ length g.rows → rows ≤ 256 → Nulls g nulls → Reached g reach → Turned reach rows rows a
    → 1028 ≤ length a → b ≡ copied a 256 nulls 0 → Given g (n + 1) b c → Ready g n c
ready_is g n rows nulls reach a b c k few x y t room e z = record {
  reached = λ r q l u. z.kept r q (omega arith) ∙ rw e (copied_apart a 256 nulls 0 r q (λ d. omega arith)) ∙ t.each r q (omega arith) (omega arith) ∙ y.bits q r u;
  nil = λ r. z.kept 256 r (omega arith) ∙ rw e (copied_bit a 256 nulls 0 (omega (arith, room)) r) ∙ x.bits r;
  gives = λ m q l h u. z.each m q l (omega arith) u;
}
