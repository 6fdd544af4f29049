-- What follows from "well formed", as facts: whoever reads a list cites these and never opens the test.
-- Assumes nothing.
use Prim.Native.Nat.{ℕ, suc, ◌+◌, ◌*◌, ◌-◌, ◌≤◌, ◌<◌}
use mathlib.Core.Path.{◌≡◌, refl, sym, subst}
use mathlib.Core.Bool.{Bool, true, false, cond, ◌&&◌, true≢false}
use mathlib.Core.List.{List}
use native.Mathlib.Omega.{arith}
use native.Mathlib.Nat.{zero-add}
use lib.Dec.{eqb, leb, ltb}
use lib.ListN.{length}
use borrow.Author.Tests.{eqb-true, leb-true, ltb-true, eqb-false}
use Rattle.paper.specs.Bytes.{u8_at, u16_at, u32_at, mark_at}
use Rattle.paper.specs.Tests.{all_below, any_of, Every}
use Rattle.paper.specs.Decide.{Pattern}
use Rattle.paper.specs.Cuts.{Byte, Stretch, Split, Nil}
use Rattle.paper.specs.Gate.{n_of, rows_of, root_of, trailer_of, group_at, option_count, head_end, head_at, option_at, option_fields, option_ok, head_ok, entry_ok, group_begin, group_ok, trailer_ok, well_formed, opt_of, opts_of, holds, read}
use Rattle.paper.proofs.Tests.{and_left, and_right, all_elim}
use Rattle.paper.proofs.Gathered.{every_table}
use Rattle.paper.proofs.Options.{AllInside, read_level}
use Rattle.paper.proofs.Obeys.{Obeys, all_obey_inside}

-- an option's fields, by its kind
pub record Fields (text rows m kind k a b : ℕ) : Type 0 where
  pub kinds : (1 ≤ kind) × (kind ≤ 4)
  pub byte : kind ≡ 1 → (m ≡ 1) × (k ≡ 0) × (a ≤ b) × (b ≤ 255)
  pub stretch : kind ≡ 2 → (b ≡ m) × (1 ≤ m) × (k ≡ 0) × (a + b ≤ text)
  pub split : kind ≡ 3 → (0 < k) × (k < m) × (a < rows) × (b < rows)
  pub nil : kind ≡ 4 → (m ≡ 0) × (k ≡ 0) × (a ≡ 0) × (b ≡ 0)

-- the option at o
abbrev pub FieldsAt : List ℕ → (text m o : ℕ) → Type 0
FieldsAt l text m o = Fields text (rows_of l) m (u8_at l o) (u8_at l (o + 1)) (u16_at l (o + 2)) (u16_at l (o + 4))

-- a head that stands at o
pub record Head (l : List ℕ) (m r o : ℕ) : Type 0 where
  pub within : head_end l o ≤ trailer_of l
  pub row : u16_at l o ≡ r
  pub length : u8_at l (o + 2) ≡ m
  pub zero : u8_at l (o + 3) ≡ 0

pub record Trailer (l : List ℕ) : Type 0 where
  pub total : u32_at l (length l - 8) ≡ length l
  pub most : n_of l ≤ 60
  pub room : trailer_of l + (4 * n_of l + 20) ≡ length l
  pub some : 1 ≤ rows_of l
  pub few : rows_of l ≤ 256
  pub root : root_of l < rows_of l

pub record Formed (l : List ℕ) (text : ℕ) : Type 0 where
  pub trailer : Trailer l
  -- "groups meeting from 0 to the trailer"
  pub begins : (m : ℕ) → m ≤ n_of l → group_at l m ≡ group_begin l m
  pub ends : group_begin l (suc (n_of l)) ≡ trailer_of l
  pub heads : (m r : ℕ) → m ≤ n_of l → r < rows_of l → Head l m r (head_at l m r)
  pub options : (m r j : ℕ) → m ≤ n_of l → r < rows_of l → j < option_count l (head_at l m r) → FieldsAt l text m (option_at (head_at l m r) j)

-- ---- from the test

four : (a b c d : Bool) → (a && (b && (c && d))) ≡ true → (a ≡ true) × (b ≡ true) × (c ≡ true) × (d ≡ true)
four true true true d e = (refl, refl, refl, e)
four true true false d e = absurd (true≢false (sym e))
four true false c d e = absurd (true≢false (sym e))
four false b c d e = absurd (true≢false (sym e))

pub fields_of : (text rows m kind k a b : ℕ) → option_fields text rows m kind k a b ≡ true → Fields text rows m kind k a b
unfolding option_fields
fields_of text rows m kind k a b e = go (eqb kind 1) (eqb kind 2) (eqb kind 3) (eqb kind 4) refl refl refl refl e
  where
    go : (x1 x2 x3 x4 : Bool) → eqb kind 1 ≡ x1 → eqb kind 2 ≡ x2 → eqb kind 3 ≡ x3 → eqb kind 4 ≡ x4
        → cond x1 (eqb m 1 && (eqb k 0 && (leb a b && leb b 255)))
        (cond x2 (eqb b m && (leb 1 m && (eqb k 0 && leb (a + b) text)))
        (cond x3 (ltb 0 k && (ltb k m && (ltb a rows && ltb b rows)))
        (cond x4 (eqb m 0 && (eqb k 0 && (eqb a 0 && eqb b 0)))
        false))) ≡ true
        → Fields text rows m kind k a b
    go true x2 x3 x4 p1 p2 p3 p4 q =
        let i : kind ≡ 1 = eqb-true kind 1 p1 in
        let f = four (eqb m 1) (eqb k 0) (leb a b) (leb b 255) q in
        record {
          kinds = (omega arith, omega arith);
          byte = λ z. (eqb-true m 1 f.0, eqb-true k 0 f.1, leb-true a b f.2, leb-true b 255 f.3);
          stretch = λ z. absurd (omega arith);
          split = λ z. absurd (omega arith);
          nil = λ z. absurd (omega arith);
        }
    go false true x3 x4 p1 p2 p3 p4 q =
        let i : kind ≡ 2 = eqb-true kind 2 p2 in
        let f = four (eqb b m) (leb 1 m) (eqb k 0) (leb (a + b) text) q in
        record {
          kinds = (omega arith, omega arith);
          byte = λ z. absurd (omega arith);
          stretch = λ z. (eqb-true b m f.0, leb-true 1 m f.1, eqb-true k 0 f.2, leb-true (a + b) text f.3);
          split = λ z. absurd (omega arith);
          nil = λ z. absurd (omega arith);
        }
    go false false true x4 p1 p2 p3 p4 q =
        let i : kind ≡ 3 = eqb-true kind 3 p3 in
        let f = four (ltb 0 k) (ltb k m) (ltb a rows) (ltb b rows) q in
        record {
          kinds = (omega arith, omega arith);
          byte = λ z. absurd (omega arith);
          stretch = λ z. absurd (omega arith);
          split = λ z. (ltb-true 0 k f.0, ltb-true k m f.1, ltb-true a rows f.2, ltb-true b rows f.3);
          nil = λ z. absurd (omega arith);
        }
    go false false false true p1 p2 p3 p4 q =
        let i : kind ≡ 4 = eqb-true kind 4 p4 in
        let f = four (eqb m 0) (eqb k 0) (eqb a 0) (eqb b 0) q in
        record {
          kinds = (omega arith, omega arith);
          byte = λ z. absurd (omega arith);
          stretch = λ z. absurd (omega arith);
          split = λ z. absurd (omega arith);
          nil = λ z. (eqb-true m 0 f.0, eqb-true k 0 f.1, eqb-true a 0 f.2, eqb-true b 0 f.3);
        }
    go false false false false p1 p2 p3 p4 q = absurd (true≢false (sym q))

pub head_of : (l : List ℕ) (m r o : ℕ) → head_ok l m r o ≡ true → Head l m r o
unfolding head_ok
head_of l m r o e =
    let f = four (leb (head_end l o) (trailer_of l)) (eqb (u16_at l o) r) (eqb (u8_at l (o + 2)) m) (eqb (u8_at l (o + 3)) 0) e in
    record {
      within = leb-true (head_end l o) (trailer_of l) f.0;
      row = eqb-true (u16_at l o) r f.1;
      length = eqb-true (u8_at l (o + 2)) m f.2;
      zero = eqb-true (u8_at l (o + 3)) 0 f.3;
    }

pub trailer_of_lem : (l : List ℕ) → trailer_ok l ≡ true → Trailer l
unfolding trailer_ok trailer_of
trailer_of_lem l e =
    let a = and_right (mark_at l (length l - 4) 67 85 84 49) _ e in
    let b = and_right (eqb (u32_at l (length l - 8)) (length l)) _ a in
    let z = four (eqb (u8_at l (length l - 11)) 0) (eqb (u8_at l (length l - 10)) 0) (eqb (u8_at l (length l - 9)) 0) _ b in
    let c = and_right (leb (n_of l) 60) _ z.3 in
    let f = four (leb (4 * n_of l + 20) (length l)) (leb 1 (rows_of l)) (leb (rows_of l) 256) (ltb (root_of l) (rows_of l)) c in
    record {
      total = eqb-true (u32_at l (length l - 8)) (length l) (and_left (eqb (u32_at l (length l - 8)) (length l)) _ a);
      most = leb-true (n_of l) 60 (and_left (leb (n_of l) 60) _ z.3);
      room = omega (arith, leb-true (4 * n_of l + 20) (length l) f.0);
      some = leb-true 1 (rows_of l) f.1;
      few = leb-true (rows_of l) 256 f.2;
      root = ltb-true (root_of l) (rows_of l) f.3;
    }

-- THE FACTS of a well-formed list
pub formed : (l : List ℕ) (text : ℕ) → well_formed l text ≡ true → Formed l text
unfolding well_formed group_ok entry_ok option_ok
formed l text e = record {
  trailer = trailer_of_lem l (and_left (trailer_ok l) _ below);
  begins = λ m h. eqb-true (group_at l m) (group_begin l m) (and_left (eqb (group_at l m) (group_begin l m)) _ (group m h));
  ends = eqb-true (group_begin l (suc (n_of l))) (trailer_of l) (and_right (all_below (suc (n_of l)) (group_ok l text)) _ all);
  heads = λ m r h u. head_of l m r (head_at l m r) (and_left (head_ok l m r (head_at l m r)) _ (at m r h u));
  options = λ m r j h u v.
      let z = all_elim (option_count l (head_at l m r)) (λ i. option_ok l text m (option_at (head_at l m r) i)) (and_right (head_ok l m r (head_at l m r)) _ (at m r h u)) j v in
      fields_of text (rows_of l) m _ _ _ _ (and_right (eqb (u16_at l (option_at (head_at l m r) j + 6)) 0) _ z);
}
  where
    below : (trailer_ok l && (all_below (suc (n_of l)) (group_ok l text) && eqb (group_begin l (suc (n_of l))) (trailer_of l))) ≡ true
    below = and_right (leb 20 (length l)) _ e

    all : (all_below (suc (n_of l)) (group_ok l text) && eqb (group_begin l (suc (n_of l))) (trailer_of l)) ≡ true
    all = and_right (trailer_ok l) _ below

    group : (m : ℕ) → m ≤ n_of l → group_ok l text m ≡ true
    group m h = all_elim (suc (n_of l)) (group_ok l text) (and_left (all_below (suc (n_of l)) (group_ok l text)) _ all) m (omega arith)

    at : (m r : ℕ) → m ≤ n_of l → r < rows_of l → entry_ok l text m r ≡ true
    at m r h u = all_elim (rows_of l) (entry_ok l text m) (and_right (eqb (group_at l m) (group_begin l m)) _ (group m h)) r u

-- ---- the options of a well-formed list

option_obeys : (l : List ℕ) (text m o : ℕ) → FieldsAt l text m o → Obeys text (rows_of l) m (opt_of l o)
unfolding opt_of
option_obeys l text m o f = go (eqb (u8_at l o) 1) (eqb (u8_at l o) 2) (eqb (u8_at l o) 3) refl refl refl
  where
    go : (x1 x2 x3 : Bool) → eqb (u8_at l o) 1 ≡ x1 → eqb (u8_at l o) 2 ≡ x2 → eqb (u8_at l o) 3 ≡ x3
        → Obeys text (rows_of l) m (cond x1 (Byte (u16_at l (o + 2)) (u16_at l (o + 4))) (cond x2 (Stretch (u16_at l (o + 2)) (u16_at l (o + 4))) (cond x3 (Split (u8_at l (o + 1)) (u16_at l (o + 2)) (u16_at l (o + 4))) Nil)))
    go true x2 x3 p1 p2 p3 = let z = f.byte (eqb-true _ 1 p1) in (z.0, z.2, z.3)
    go false true x3 p1 p2 p3 = let z = f.stretch (eqb-true _ 2 p2) in (z.0, z.1, z.3)
    go false false true p1 p2 p3 = f.split (eqb-true _ 3 p3)
    go false false false p1 p2 p3 =
        let n1 : u8_at l o ≡ 1 → ⊥ = eqb-false _ 1 p1 in
        let n2 : u8_at l o ≡ 2 → ⊥ = eqb-false _ 2 p2 in
        let n3 : u8_at l o ≡ 3 → ⊥ = eqb-false _ 3 p3 in
        (f.nil (omega (arith, f.kinds))).0

module _ (l : List ℕ) (text : ℕ) (f : Formed l text) where
  pub formed_obey : (m r : ℕ) → m ≤ n_of l → r < rows_of l → Every (Obeys text (rows_of l) m) (opts_of l m r)
  unfolding opts_of
  formed_obey m r h u = every_table _ 0 (option_count l (head_at l m r)) _ (λ j v. rw zero-add (option_obeys l text m _ (f.options m r j h u v)))

  pub formed_inside : AllInside (n_of l) (rows_of l) (opts_of l)
  formed_inside m r h u = all_obey_inside text (rows_of l) m (opts_of l m r) (formed_obey m r h u)

  -- "each option leads to shorter lengths", and to rows of the list
  pub steps_shorter : (m r j : ℕ) → m ≤ n_of l → r < rows_of l → j < option_count l (head_at l m r) → (k a b : ℕ) → opt_of l (option_at (head_at l m r) j) ≡ Split k a b
      → (k < m) × (m - k < m) × (a < rows_of l) × (b < rows_of l)
  steps_shorter m r j h u v k a b e =
      let z : (0 < k) × (k < m) × (a < rows_of l) × (b < rows_of l) = subst (Obeys text (rows_of l) m) e (option_obeys l text m _ (f.options m r j h u v)) in
      (z.1, omega (arith, z.0, z.1), z.2, z.3)

  -- how the gate fills its table: a length from the shorter ones
  pub formed_level : (bytes : List ℕ) (pat : Pattern) (m i r : ℕ) → m ≤ n_of l → r < rows_of l
      → read bytes pat (opts_of l) m i r ≡ any_of (holds bytes pat (read bytes pat (opts_of l)) m i) (opts_of l m r)
  formed_level bytes pat m i r h u = read_level bytes pat (n_of l) (rows_of l) (opts_of l) formed_inside m i r h u
