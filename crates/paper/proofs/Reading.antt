-- The maker's list is well formed, has the maker's options, and reading it accepts exactly the words that its root derives.
-- Assumes nothing.
use Prim.Native.Nat.{ℕ, zero, suc, ◌+◌, ◌*◌, ◌≤◌, ◌<◌}
use mathlib.Core.Path.{◌≡◌, refl, sym, ◌∙◌}
use mathlib.Core.Bool.{true}
use mathlib.Core.Logic.{◌↔◌}
use mathlib.Core.List.{List, ◌∷◌, ◌++◌}
use native.Mathlib.Omega.{arith}
use lib.ListN.{length, get_or, length-append}
use borrow.Author.Tests.{eq-eqb, le-leb, lt-ltb}
use Rattle.paper.specs.Bytes.{u8_at, u16_at, u16}
use Rattle.paper.specs.Tests.{gather}
use Rattle.paper.specs.Rows.{Grammar, Derives}
use Rattle.paper.specs.Decide.{Pattern, exactly, accepts}
use Rattle.paper.specs.Cuts.{Opt, Byte, Stretch, Split, Nil, options, option_bytes, groups, cut_list}
use Rattle.paper.specs.Gate.{n_of, rows_of, root_of, group_at, option_count, head_at, option_at, option_fields, option_ok, head_ok, entry_ok, group_begin, group_ok, trailer_ok, well_formed, opt_of, opts_of, read, reading}
use Rattle.paper.proofs.Tests.{and_intro, all_intro, every_at}
use Rattle.paper.proofs.Gathered.{table_is}
use Rattle.paper.proofs.Derivation.{derives_iff}
use Rattle.paper.proofs.Encoding.{Stands, stands_at, stands_head, stands_tail, stands_byte, stands_next, stands_u16, length_u16, length_list}
use Rattle.paper.proofs.Options.{read_options, read_same}
use Rattle.paper.proofs.Sound.{Sound}
use Rattle.paper.proofs.Obeys.{Obeys, options_obey, options_inside}
use Rattle.paper.proofs.Positions.{entry_at, entry_last, entry_within, list_root, list_rows, list_n, list_trailer_lem, list_zero, list_total, list_mark, list_group, head_row, head_length, head_zero, head_count, head_end_lem, head_option, list_head}

-- ---- an option read back

-- the option's fields at o
abbrev FieldsAre : List ℕ → (o kind k a b : ℕ) → Type 0
FieldsAre l o kind k a b = (u8_at l o ≡ kind) × (u8_at l (o + 1) ≡ k) × (u16_at l (o + 2) ≡ a) × (u16_at l (o + 4) ≡ b) × (u16_at l (o + 6) ≡ 0)

fields : {l : List ℕ} {o : ℕ} (kind k a b : ℕ) → a < 65536 → b < 65536 → Stands l o (kind ∷ k ∷ u16 a ++ u16 b ++ u16 0) → FieldsAre l o kind k a b
fields {l = l} {o = o} kind k a b p q h =
    let all = stands_head (kind ∷ k ∷ u16 a ++ u16 b) (u16 0) h in
    let front = stands_head (kind ∷ k ∷ u16 a) (u16 b) all in
    let first : Stands l (o + 2) (u16 a) = stands_at (o + 2) (omega arith) (stands_next (stands_next front)) in
    let second : Stands l (o + 4) (u16 b) = stands_at (o + 4) (omega (arith, length_u16 a)) (stands_tail (kind ∷ k ∷ u16 a) (u16 b) all) in
    let last : Stands l (o + 6) (u16 0) = stands_at (o + 6) (omega (arith, length_u16 a, length-append (kind ∷ k ∷ u16 a) (u16 b), length_u16 b)) (stands_tail (kind ∷ k ∷ u16 a ++ u16 b) (u16 0) h) in
    (stands_byte front, stands_byte (stands_next front), stands_u16 a p first, stands_u16 b q second, stands_u16 0 (omega arith) last)

module _ (l : List ℕ) (o text rows m : ℕ) (t : text ≤ 1024) (few : rows ≤ 256) where
  option_read : (x : Opt) → Stands l o (option_bytes x) → Obeys text rows m x → opt_of l o ≡ x
  unfolding option_bytes opt_of
  option_read (Byte lo hi) h z = let f = fields 1 0 lo hi (omega (arith, z.1, z.2)) (omega (arith, z.2)) h in rw (f.0, f.2, f.3)
  option_read (Stretch off len) h z = let f = fields 2 0 off len (omega (arith, z.2)) (omega (arith, z.2)) h in rw (f.0, f.2, f.3)
  option_read (Split k a b) h z = let f = fields 3 k a b (omega (arith, z.2)) (omega (arith, z.3)) h in rw (f.0, f.1, f.2, f.3)
  option_read Nil h z = let f = fields 4 0 0 0 (omega arith) (omega arith) h in rw f.0

  option_passes : rows_of l ≡ rows → (x : Opt) → Stands l o (option_bytes x) → Obeys text rows m x → option_ok l text m o ≡ true
  unfolding option_bytes option_ok option_fields
  option_passes r (Byte lo hi) h z =
      let f = fields 1 0 lo hi (omega (arith, z.1, z.2)) (omega (arith, z.2)) h in
      rw (f.0, f.1, f.2, f.3, f.4) (and_intro (eq-eqb m 1 z.0) (and_intro (le-leb lo hi z.1) (le-leb hi 255 z.2)))
  option_passes r (Stretch off len) h z =
      let f = fields 2 0 off len (omega (arith, z.2)) (omega (arith, z.2)) h in
      rw (f.0, f.1, f.2, f.3, f.4) (and_intro (eq-eqb len m z.0) (and_intro (le-leb 1 m z.1) (le-leb (off + len) text z.2)))
  option_passes r (Split k a b) h z =
      let f = fields 3 k a b (omega (arith, z.2)) (omega (arith, z.3)) h in
      rw (f.0, f.1, f.2, f.3, f.4, r) (and_intro (lt-ltb 0 k z.0) (and_intro (lt-ltb k m z.1) (and_intro (lt-ltb a rows z.2) (lt-ltb b rows z.3))))
  option_passes r Nil h z =
      let f = fields 4 0 0 0 (omega arith) (omega arith) h in
      rw (f.0, f.1, f.2, f.3, f.4) (and_intro (eq-eqb m 0 z) refl)

-- ---- the maker's list

module _ (g : Grammar) (s : Sound g) (root n : ℕ) (h : root < length g.rows) (u : n ≤ 60) where
  abbrev l : List ℕ
  l = cut_list g root n

  -- the option of number j at a head is the maker's
  option_at_lem : (m r : ℕ) (v : m ≤ n) (w : r < length g.rows) (j : ℕ) → j < length (options g m r)
      → (opt_of l (option_at (head_at l m r) j) ≡ get_or (options g m r) j Nil) × (option_ok l (length g.text) m (option_at (head_at l m r) j) ≡ true)
  option_at_lem m r v w j x =
      let z = every_at _ (options g m r) Nil (options_obey g s m r) j x in
      let b = head_option g s root n h u m r v w j x in
      rw (list_head g s root n h u m r v (omega arith))
      (option_read l _ _ _ m s.short s.few (get_or (options g m r) j Nil) b z, option_passes l _ _ _ m s.short s.few (list_rows g s root n h u) (get_or (options g m r) j Nil) b z)

  count_at_lem : (m r : ℕ) → m ≤ n → r < length g.rows → option_count l (head_at l m r) ≡ length (options g m r)
  count_at_lem m r v w = rw (list_head g s root n h u m r v (omega arith)) (head_count g s root n h u m r v w)

  -- THE OPTIONS: the gate finds the maker's, at every length and row
  pub list_options : (m r : ℕ) → m ≤ n → r < length g.rows → opts_of l m r ≡ options g m r
  unfolding opts_of
  list_options m r v w =
      table_is (option_count l (head_at l m r)) _ Nil (options g m r) (sym (count_at_lem m r v w)) (λ j x. (option_at_lem m r v w j (omega (arith, count_at_lem m r v w))).0)

  -- ---- well formed

  head_passes : (m r : ℕ) → m ≤ n → r < length g.rows → head_ok l m r (head_at l m r) ≡ true
  unfolding head_ok
  head_passes m r v w =
      rw (list_head g s root n h u m r v (omega arith), head_end_lem g s root n h u m r v w, list_trailer_lem g s root n h u)
      (and_intro (le-leb (entry_at g m (suc r)) _ (entry_within g n m (suc r) v w))
      (and_intro (eq-eqb _ r (head_row g s root n h u m r v w))
      (and_intro (eq-eqb _ m (head_length g s root n h u m r v w)) (eq-eqb _ 0 (head_zero g s root n h u m r v w)))))

  entry_passes : (m r : ℕ) → m ≤ n → r < length g.rows → entry_ok l (length g.text) m r ≡ true
  unfolding entry_ok
  entry_passes m r v w =
      and_intro (head_passes m r v w)
      (all_intro (option_count l (head_at l m r)) (λ j. option_ok l (length g.text) m (option_at (head_at l m r) j))
      (λ j x. (option_at_lem m r v w j (omega (arith, count_at_lem m r v w))).1))

  group_begin_lem : (m : ℕ) → m ≤ suc n → group_begin l m ≡ length (groups g m)
  unfolding group_begin groups gather
  group_begin_lem zero v = refl
  group_begin_lem (suc m) v = rw (list_rows g s root n h u, list_head g s root n h u m (length g.rows) (omega arith) (omega arith)) (entry_last g m)

  group_passes : (m : ℕ) → m ≤ n → group_ok l (length g.text) m ≡ true
  unfolding group_ok
  group_passes m v =
      and_intro (eq-eqb (group_at l m) (group_begin l m) (list_group g s root n h u m v ∙ sym (group_begin_lem m (omega arith))))
      (all_intro (rows_of l) (entry_ok l (length g.text) m) (λ r w. entry_passes m r v (omega (arith, list_rows g s root n h u))))

  trailer_passes : trailer_ok l ≡ true
  unfolding trailer_ok
  trailer_passes =
      and_intro (list_mark g s root n h u)
      (and_intro (eq-eqb _ _ (list_total g s root n h u))
      (and_intro (eq-eqb _ 0 (list_zero g s root n h u 0 (omega arith)))
      (and_intro (eq-eqb _ 0 (list_zero g s root n h u 1 (omega arith)))
      (and_intro (eq-eqb _ 0 (list_zero g s root n h u 2 (omega arith)))
      (and_intro (le-leb (n_of l) 60 (omega (arith, list_n g s root n h u)))
      (and_intro (le-leb (4 * n_of l + 20) (length l) (omega (arith, list_n g s root n h u, length_list g root n)))
      (and_intro (le-leb 1 (rows_of l) (omega (arith, list_rows g s root n h u, s.some)))
      (and_intro (le-leb (rows_of l) 256 (omega (arith, list_rows g s root n h u, s.few)))
      (lt-ltb (root_of l) (rows_of l) (omega (arith, list_root g s root n h u, list_rows g s root n h u)))))))))))

  -- THE MAKER'S LIST is well formed
  pub list_well_formed : well_formed l (length g.text) ≡ true
  unfolding well_formed
  list_well_formed =
      and_intro (le-leb 20 (length l) (omega (arith, length_list g root n)))
      (and_intro trailer_passes
      (and_intro (all_intro (suc (n_of l)) (group_ok l (length g.text)) (λ m v. group_passes m (omega (arith, list_n g s root n h u))))
      (rw (list_n g s root n h u, list_trailer_lem g s root n h u) (eq-eqb _ _ (group_begin_lem (suc n) (omega arith))))))

  -- ---- reading

  -- THE READING, at every row and length up to n: what the row derives, whatever pattern it is read on
  pub list_read : (pat : Pattern) (m i r : ℕ) → m ≤ n → r < length g.rows → read g.text pat (opts_of l) m i r ≡ accepts g pat m i r
  list_read pat m i r v w =
      sym (read_same g.text pat n (length g.rows) (options g) (opts_of l) (options_inside g s n) (λ k q x y. sym (list_options k q x y)) m i r v w)
      ∙ read_options g pat m i r

  pub list_derives : (r : ℕ) (w : List ℕ) → length w ≤ n → r < length g.rows → (read g.text (exactly w) (opts_of l) (length w) 0 r ≡ true) ↔ Derives g r w
  list_derives r w v x = rw (list_read (exactly w) (length w) 0 r v x) (derives_iff g r w)

  pub list_reading : (w : List ℕ) → length w ≡ n → (reading l g.text w ≡ true) ↔ Derives g root w
  unfolding reading
  list_reading w v = rw (list_root g s root n h u) (list_derives root w (omega arith) h)
