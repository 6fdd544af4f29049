-- Where everything stands in a list that the maker wrote, and what the gate reads there: the trailer's fields, the groups, the heads, the options.
-- Assumes nothing.
use Prim.Native.Nat.{ℕ, zero, suc, ◌+◌, ◌*◌, ◌-◌, ◌≤◌, ◌<◌}
use mathlib.Core.Path.{◌≡◌, sym, ◌∙◌}
use mathlib.Core.Bool.{true}
use mathlib.Core.List.{List, [], ◌∷◌, ◌++◌}
use native.Mathlib.Omega.{arith}
use native.Mathlib.Nat.{not-suc-le-zero, zero-add}
use lib.ListN.{length, get_or, length-append}
use Rattle.paper.specs.Bytes.{u8_at, u16_at, u32_at, u16, u32, mark_at}
use Rattle.paper.specs.Tests.{gather}
use Rattle.paper.specs.Rows.{Grammar}
use Rattle.paper.specs.Cuts.{Opt, Nil, options, option_bytes, all_bytes, head_bytes, entry, group, groups, list_trailer, cut_list}
use Rattle.paper.specs.Gate.{n_of, rows_of, root_of, trailer_of, group_at, option_count, head_end, head_at, option_at}
use Rattle.paper.proofs.Gathered.{gather_suc, gather_length, gather_rises}
use Rattle.paper.proofs.Encoding.{Stands, stands_at, stands_all, stands_head, stands_tail, stands_gather, stands_byte, stands_next, stands_u16, stands_u32, stands_mark, length_u16, length_u32, length_option, length_head, length_entry, length_groups, length_list}
use Rattle.paper.proofs.Sound.{Sound}
use Rattle.paper.proofs.Obeys.{options_few, list_most}

stands_options : {l : List ℕ} {o : ℕ} (os : List Opt) → Stands l o (all_bytes os) → (j : ℕ) → j < length os → Stands l (o + 8 * j) (option_bytes (get_or os j Nil))
unfolding all_bytes
stands_options [] h j u = absurd (not-suc-le-zero u)
stands_options {o = o} (x ∷ os) h zero u = stands_at (o + 8 * 0) (omega arith) (stands_head (option_bytes x) (all_bytes os) h)
stands_options {o = o} (x ∷ os) h (suc j) u =
    let t = stands_options {o = o + length (option_bytes x)} os (stands_tail (option_bytes x) (all_bytes os) h) j (omega arith) in
    stands_at (o + 8 * suc j) (omega (arith, length_option x)) t

-- where the entry of row r stands, counted from the list's start
abbrev pub entry_at : Grammar → (m r : ℕ) → ℕ
entry_at g m r = length (groups g m) + length (gather 0 r (entry g m))

entry_suc : (g : Grammar) (m r : ℕ) → entry_at g m (suc r) ≡ entry_at g m r + 8 + 8 * length (options g m r)
entry_suc g m r = rw (gather_suc 0 r (entry g m), length-append, zero-add) (omega (arith, length_entry g m r))

pub entry_last : (g : Grammar) (m : ℕ) → entry_at g m (length g.rows) ≡ length (groups g (suc m))
unfolding group
entry_last g m = sym (length_groups g m)

groups_rise : (g : Grammar) (k n : ℕ) → k ≤ n → length (groups g k) ≤ length (groups g n)
unfolding groups
groups_rise g k n h = gather_rises 0 k n (group g) h

-- the entries of the groups up to n end before the trailer
pub entry_within : (g : Grammar) (n m r : ℕ) → m ≤ n → r ≤ length g.rows → entry_at g m r ≤ length (groups g (suc n))
entry_within g n m r h u = omega (arith, gather_rises 0 r (length g.rows) (entry g m) u, entry_last g m, groups_rise g (suc m) (suc n) (omega arith))

module _ (g : Grammar) (s : Sound g) (root n : ℕ) (h : root < length g.rows) (u : n ≤ 60) where
  abbrev l : List ℕ
  l = cut_list g root n

  abbrev T : ℕ
  T = length (groups g (suc n))

  -- the trailer from n on
  abbrev ending : List ℕ
  ending = n ∷ 0 ∷ 0 ∷ 0 ∷ u32 (length (groups g (suc n)) + (4 * n + 20)) ++ (67 ∷ 85 ∷ 84 ∷ 49 ∷ [])

  at_groups : Stands l 0 (groups g (suc n))
  unfolding cut_list
  at_groups = stands_head (groups g (suc n)) (list_trailer g root n) (stands_all l)

  at_trailer : Stands l T (list_trailer g root n)
  unfolding cut_list
  at_trailer = stands_at T (omega arith) (stands_tail (groups g (suc n)) (list_trailer g root n) (stands_all l))

  at_offsets : Stands l T (gather 0 (suc n) (λ m. u32 (length (groups g m))))
  unfolding list_trailer
  at_offsets = stands_head (gather 0 (suc n) (λ m. u32 (length (groups g m)))) (u16 root ++ (u16 (length g.rows) ++ ending)) at_trailer

  offsets_length : (k : ℕ) → length (gather 0 k (λ m. u32 (length (groups g m)))) ≡ 4 * k
  offsets_length k = gather_length 4 0 k (λ m. u32 (length (groups g m))) (λ m. length_u32 _) ∙ omega arith

  at_root : Stands l (length l - 16) (u16 root ++ (u16 (length g.rows) ++ ending))
  unfolding list_trailer
  at_root =
      stands_at (length l - 16) (omega (arith, length_list g root n, offsets_length (suc n)))
      (stands_tail (gather 0 (suc n) (λ m. u32 (length (groups g m)))) (u16 root ++ (u16 (length g.rows) ++ ending)) at_trailer)

  at_rows : Stands l (length l - 14) (u16 (length g.rows) ++ ending)
  at_rows = stands_at (length l - 14) (omega (arith, length_list g root n, length_u16 root)) (stands_tail (u16 root) (u16 (length g.rows) ++ ending) at_root)

  at_n : Stands l (length l - 12) ending
  at_n = stands_at (length l - 12) (omega (arith, length_list g root n, length_u16 (length g.rows))) (stands_tail (u16 (length g.rows)) ending at_rows)

  pub list_root : root_of l ≡ root
  list_root = stands_u16 root (omega (arith, s.few)) (stands_head (u16 root) _ at_root)

  pub list_rows : rows_of l ≡ length g.rows
  list_rows = stands_u16 (length g.rows) (omega (arith, s.few)) (stands_head (u16 (length g.rows)) _ at_rows)

  pub list_n : n_of l ≡ n
  list_n = stands_byte at_n

  pub list_trailer_lem : trailer_of l ≡ T
  unfolding trailer_of
  list_trailer_lem = omega (arith, list_n, length_list g root n)

  -- the three bytes after n
  pub list_zero : (k : ℕ) → k < 3 → u8_at l (length l - (11 - k)) ≡ 0
  list_zero zero v = stands_byte (stands_at (length l - 11) (omega (arith, length_list g root n)) (stands_next at_n))
  list_zero (suc zero) v = stands_byte (stands_at (length l - 10) (omega (arith, length_list g root n)) (stands_next (stands_next at_n)))
  list_zero (suc (suc zero)) v = stands_byte (stands_at (length l - 9) (omega (arith, length_list g root n)) (stands_next (stands_next (stands_next at_n))))
  list_zero (suc (suc (suc k))) v = absurd (omega arith)

  at_total : Stands l (length l - 8) (u32 (length (groups g (suc n)) + (4 * n + 20)) ++ (67 ∷ 85 ∷ 84 ∷ 49 ∷ []))
  at_total = stands_at (length l - 8) (omega (arith, length_list g root n)) (stands_next (stands_next (stands_next (stands_next at_n))))

  pub list_total : u32_at l (length l - 8) ≡ length l
  list_total =
      stands_u32 (length (groups g (suc n)) + (4 * n + 20)) (omega (arith, length_list g root n, list_most g s root n u)) (stands_head (u32 _) _ at_total)
      ∙ sym (length_list g root n)

  pub list_mark : mark_at l (length l - 4) 67 85 84 49 ≡ true
  list_mark = stands_mark (stands_at (length l - 4) (omega (arith, length_list g root n, length_u32 (length (groups g (suc n)) + (4 * n + 20)))) (stands_tail (u32 _) _ at_total))

  -- ---- groups, heads and options

  pub list_group : (m : ℕ) → m ≤ n → group_at l m ≡ length (groups g m)
  unfolding group_at
  list_group m v =
      let o = stands_gather (suc n) (λ k. u32 (length (groups g k))) at_offsets m (omega arith) in
      rw (list_trailer_lem, ← offsets_length m)
      (stands_u32 (length (groups g m)) (omega (arith, length_list g root n, list_most g s root n u, groups_rise g m (suc n) (omega arith))) o)

  -- a row's head and options, where the maker put them
  at_entry : (m r : ℕ) → m ≤ n → r < length g.rows → Stands l (entry_at g m r) (entry g m r)
  unfolding groups group
  at_entry m r v w =
      let a = stands_gather (suc n) (λ k. gather 0 (length g.rows) (entry g k)) at_groups m (omega arith) in
      stands_gather (length g.rows) (entry g m) (rw zero-add at a) r w

  module _ (m r : ℕ) (v : m ≤ n) (w : r < length g.rows) where
    abbrev o : ℕ
    o = entry_at g m r

    abbrev os : List Opt
    os = options g m r

    at_head : Stands l o (head_bytes r m (length os))
    unfolding entry
    at_head = stands_head (head_bytes r m (length os)) (all_bytes os) (at_entry m r v w)

    at_length : Stands l (o + 2) (m ∷ 0 ∷ u32 (length os))
    unfolding head_bytes
    at_length = stands_at (o + 2) (omega (arith, length_u16 r)) (stands_tail (u16 r) (m ∷ 0 ∷ u32 (length os)) at_head)

    pub head_row : u16_at l o ≡ r
    unfolding head_bytes
    head_row = stands_u16 r (omega (arith, s.few)) (stands_head (u16 r) (m ∷ 0 ∷ u32 (length os)) at_head)

    pub head_length : u8_at l (o + 2) ≡ m
    head_length = stands_byte at_length

    pub head_zero : u8_at l (o + 3) ≡ 0
    head_zero = stands_byte (stands_at (o + 3) (omega arith) (stands_next at_length))

    pub head_count : option_count l o ≡ length os
    head_count = stands_u32 (length os) (omega (arith, options_few g s m r (omega arith))) (stands_at (o + 4) (omega arith) (stands_next (stands_next at_length)))

    pub head_end_lem : head_end l o ≡ entry_at g m (suc r)
    head_end_lem = rw (head_count, entry_suc g m r)

    pub head_option : (j : ℕ) → j < length os → Stands l (option_at o j) (option_bytes (get_or os j Nil))
    unfolding entry
    head_option j x =
        stands_options os
        (stands_at (o + 8) (omega (arith, length_head r m (length os))) (stands_tail (head_bytes r m (length os)) (all_bytes os) (at_entry m r v w))) j x

  -- the gate finds each head where the maker put it
  pub list_head : (m r : ℕ) → m ≤ n → r ≤ length g.rows → head_at l m r ≡ entry_at g m r
  unfolding head_at gather
  list_head m zero v w = rw (list_group m v) (omega arith)
  list_head m (suc r) v w = rw (list_head m r v (omega arith)) (head_end_lem m r v w)
