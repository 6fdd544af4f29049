-- When a cut list is well formed, and how the gate reads it: any well-formed list, the maker's or not.
use Rattle.std.specs.Prelude.{ℕ, zero, suc, ◌+◌, ◌*◌, ◌-◌, Bool, true, false, cond, ◌&&◌, List, eqb, leb, ltb, length}
use Rattle.paper.specs.Bytes.{u8_at, u16_at, u32_at, mark_at}
use Rattle.paper.specs.Tests.{all_below, any_of, table_from}
use Rattle.paper.specs.Rows.{stretch}
use Rattle.paper.specs.Trailer.{limit}
use Rattle.paper.specs.Decide.{Pattern, Test, exactly, fits, some_in}
use Rattle.paper.specs.Cuts.{Opt, Byte, Stretch, Split, Nil}

-- ---- the trailer's fields, found from the list's end

abbrev pub n_of : List ℕ → ℕ
n_of l = u8_at l (length l - 12)

abbrev pub rows_of : List ℕ → ℕ
rows_of l = u16_at l (length l - 14)

abbrev pub root_of : List ℕ → ℕ
root_of l = u16_at l (length l - 16)

-- where the trailer of 4n + 20 bytes begins
unfoldable pub trailer_of : List ℕ → ℕ
trailer_of l = length l - (4 * n_of l + 20)

-- the stored offset of group m
unfoldable pub group_at : List ℕ → ℕ → ℕ
group_at l m = u32_at l (trailer_of l + 4 * m)

-- ---- heads and options

-- the option count of the head at o, and where its options end
abbrev pub option_count : List ℕ → ℕ → ℕ
option_count l o = u32_at l (o + 4)

abbrev pub head_end : List ℕ → ℕ → ℕ
head_end l o = o + 8 + 8 * option_count l o

-- where the head of row r stands in group m: each head is followed by its options
unfoldable pub head_at : List ℕ → (m r : ℕ) → ℕ
head_at l m zero = group_at l m
head_at l m (suc r) = head_end l (head_at l m r)

-- where option j of the head at o stands
abbrev pub option_at : ℕ → ℕ → ℕ
option_at o j = o + 8 + 8 * j

-- what each kind asks: 1 only at m = 1 with a ≤ b ≤ 255; 2 only with b = m ≥ 1, inside the text lent;
-- 3 with 0 < k < m and both rows below the row count; 4 only at m = 0; unused fields zero
unfoldable pub option_fields : (text rows m kind k a b : ℕ) → Bool
option_fields text rows m kind k a b =
    cond (eqb kind 1) (eqb m 1 && (eqb k 0 && (leb a b && leb b 255)))
    (cond (eqb kind 2) (eqb b m && (leb 1 m && (eqb k 0 && leb (a + b) text)))
    (cond (eqb kind 3) (ltb 0 k && (ltb k m && (ltb a rows && ltb b rows)))
    (cond (eqb kind 4) (eqb m 0 && (eqb k 0 && (eqb a 0 && eqb b 0)))
    false)))

unfoldable pub option_ok : List ℕ → (text m o : ℕ) → Bool
option_ok l text m o =
    eqb (u16_at l (o + 6)) 0 && option_fields text (rows_of l) m (u8_at l o) (u8_at l (o + 1)) (u16_at l (o + 2)) (u16_at l (o + 4))

-- the head at o is row r's, at length m, and it and its options end before the trailer
unfoldable pub head_ok : List ℕ → (m r o : ℕ) → Bool
head_ok l m r o =
    leb (head_end l o) (trailer_of l) && (eqb (u16_at l o) r && (eqb (u8_at l (o + 2)) m && eqb (u8_at l (o + 3)) 0))

-- a head and its options
unfoldable pub entry_ok : List ℕ → (text m r : ℕ) → Bool
entry_ok l text m r =
    let o = head_at l m r in
    head_ok l m r o && all_below (option_count l o) (λ j. option_ok l text m (option_at o j))

-- "groups meeting from 0 to the trailer": where group m is to begin
unfoldable pub group_begin : List ℕ → ℕ → ℕ
group_begin l zero = 0
group_begin l (suc m) = head_at l m (rows_of l)

-- "each group holds exactly one head per row, in order and with the group's m"
unfoldable pub group_ok : List ℕ → (text m : ℕ) → Bool
group_ok l text m = eqb (group_at l m) (group_begin l m) && all_below (rows_of l) (entry_ok l text m)

-- 1 to 256 rows, root below the row count, n at most 60, every zero field zero, the mark `CUT1`, and room for the trailer
unfoldable pub trailer_ok : List ℕ → Bool
trailer_ok l =
    mark_at l (length l - 4) 67 85 84 49 && (eqb (u32_at l (length l - 8)) (length l) &&
    (eqb (u8_at l (length l - 11)) 0 && (eqb (u8_at l (length l - 10)) 0 && (eqb (u8_at l (length l - 9)) 0 &&
    (leb (n_of l) limit && (leb (4 * n_of l + 20) (length l) &&
    (leb 1 (rows_of l) && (leb (rows_of l) 256 && ltb (root_of l) (rows_of l)))))))))

-- a list is well formed, with a text of so many bytes; one of under 20 bytes has no trailer
unfoldable pub well_formed : List ℕ → (text : ℕ) → Bool
well_formed l text =
    leb 20 (length l) && (trailer_ok l &&
    (all_below (suc (n_of l)) (group_ok l text) && eqb (group_begin l (suc (n_of l))) (trailer_of l)))

-- ---- the reading

-- the option at o
unfoldable pub opt_of : List ℕ → ℕ → Opt
opt_of l o =
    let kind = u8_at l o in
    let a = u16_at l (o + 2) in
    let b = u16_at l (o + 4) in
    cond (eqb kind 1) (Byte a b)
    (cond (eqb kind 2) (Stretch a b)
    (cond (eqb kind 3) (Split (u8_at l (o + 1)) a b)
    Nil))

-- the options of row r at length m
unfoldable pub opts_of : List ℕ → (m r : ℕ) → List Opt
opts_of l m r = let o = head_at l m r in table_from 0 (option_count l o) (λ j. opt_of l (option_at o j))

-- what an option says of m bytes from place i on, given the shorter lengths
unfoldable pub holds : List ℕ → Pattern → Test → ℕ → ℕ → Opt → Bool
holds text pat acc m i (Byte lo hi) = some_in pat i lo hi
holds text pat acc m i (Stretch off len) = fits pat i (stretch 0 text off len)
holds text pat acc m i (Split k a b) = acc k i a && acc (m - k) (i + k) b
holds text pat acc m i Nil = true

-- all lengths up to f, of any list's options: "a word is accepted at a head when some option holds"
unfoldable pub read_up_to : List ℕ → Pattern → (ℕ → ℕ → List Opt) → ℕ → Test
read_up_to text pat opts zero m i r = any_of (holds text pat (λ k j q. false) m i) (opts m r)
read_up_to text pat opts (suc f) m i r = any_of (holds text pat (λ k j q. read_up_to text pat opts f k j q) m i) (opts m r)

unfoldable pub read : List ℕ → Pattern → (ℕ → ℕ → List Opt) → Test
read text pat opts m i r = read_up_to text pat opts m m i r

-- reading the list with the text accepts the word, at the root's head
unfoldable pub reading : (list text word : List ℕ) → Bool
reading l text word = read text (exactly word) (opts_of l) (length word) 0 (root_of l)
