-- "Keys worked through", K1 to K12, the limits that follow them, and keys of the changes: one table. Its theorem is `keys_right`, in proofs/Keys.antt.
use Rattle.std.specs.Prelude.{ℕ, ◌+◌, ◌≡◌, List, [], ◌∷◌, ◌++◌, length, replicate}
use Rattle.paper.specs.Bytes.{u16, u32}
use Rattle.paper.specs.SheetBytes.{record6, record12, edition_bytes, sheet_bytes}
use Rattle.paper.specs.Tests.{table_from}
use Rattle.paper.specs.Sheet.{grammar_of}
use Rattle.paper.specs.Cuts.{cut_list}
use Rattle.paper.specs.Gate.{group_at}
use Rattle.paper.specs.Refusals.{plain, no_fault}
use Rattle.paper.specs.Answers.{Said, Found, None, Spent, solver_refusal, solver_says}
use Rattle.paper.specs.Editions.{Move, ToSecond, ToFirst, to, in_edition, move_refusal}

-- ---- the questions

-- v, all of it, as the only part; and the assertion that it is in row r
unfoldable pub all_of_v : List ℕ
all_of_v = record6 2 0 0

unfoldable pub v_in_row : ℕ → List ℕ
v_in_row r = record12 1 0 0 1 r 0

-- rows 0 empty, 1 `<`, 2 `>`, 3 = 0 or 4, 4 = 5 then 6, 5 = 1 then 3, 6 = 2 then 3
unfoldable pub rows_b : List ℕ
rows_b = record6 1 0 0 ++ (record6 2 60 60 ++ (record6 2 62 62 ++ (record6 4 0 4 ++ (record6 5 5 6 ++ (record6 5 1 3 ++ record6 5 2 3)))))

-- sheet B: letters `<` and `>`; v in row 3
unfoldable pub sheet_b : (shortest longest : ℕ) → List ℕ
sheet_b shortest longest = sheet_bytes shortest longest (60 ∷ 60 ∷ 62 ∷ 62 ∷ []) [] rows_b all_of_v (v_in_row 3)

-- K4 and v not equal `<<>>`: the constant is the term of the second part
unfoldable pub sheet_k5 : List ℕ
sheet_k5 = sheet_bytes 4 4 (60 ∷ 60 ∷ 62 ∷ 62 ∷ []) (60 ∷ 60 ∷ 62 ∷ 62 ∷ []) rows_b (all_of_v ++ record6 1 0 4) (v_in_row 3 ++ record12 3 1 0 1 1 1)

-- letters a, b; v joined to v equals `ab`; 1..1
unfoldable pub sheet_k7 : List ℕ
sheet_k7 = sheet_bytes 1 1 (97 ∷ 98 ∷ []) (97 ∷ 98 ∷ []) [] (all_of_v ++ (all_of_v ++ record6 1 0 2)) (record12 3 0 0 2 2 1)

-- letter a (or the range a to high); 1 byte of v from 2 not equal `x`; 0..3; the edition that has these new bytes
unfoldable pub sheet_cut : (new : List ℕ) (high : ℕ) → List ℕ
sheet_cut new high = edition_bytes new 0 3 (97 ∷ high ∷ []) (120 ∷ []) [] (record6 3 2 1 ++ record6 1 0 1) (record12 3 1 0 1 1 1)

unfoldable pub sheet_k8 : List ℕ
sheet_k8 = sheet_cut [] 97

-- letter a; v contains `b`; 0..2
unfoldable pub sheet_k9 : List ℕ
sheet_k9 = sheet_bytes 0 2 (97 ∷ 97 ∷ []) (98 ∷ []) [] all_of_v (record12 2 0 0 1 0 1)

-- row 0 = 0 or 0; v in row 0; 0..2
unfoldable pub sheet_k10 : List ℕ
sheet_k10 = sheet_bytes 0 2 (97 ∷ 97 ∷ []) [] (record6 4 0 0) all_of_v (v_in_row 0)

-- letters 0 to 9, no assertions, 2..2
unfoldable pub sheet_k11 : List ℕ
sheet_k11 = sheet_bytes 2 2 (48 ∷ 57 ∷ []) [] [] [] []

-- rows 0 = a, 1 = star of 0
unfoldable pub sheet_k12 : List ℕ
sheet_k12 = sheet_bytes 0 2 (97 ∷ 97 ∷ []) [] (record6 2 97 97 ++ record6 6 0 0) [] []

-- letters a, b; 1..2; of v and the constant `ab`, parts 0 and 1, the term of one part contains the term of b parts from part a
unfoldable pub sheet_within : (first a b : ℕ) → List ℕ
sheet_within first a b = sheet_bytes 1 2 (97 ∷ 98 ∷ []) (97 ∷ 98 ∷ []) [] (all_of_v ++ record6 1 0 2) (record12 4 0 first 1 a b)

-- the letter a at lengths 0 to n, and v joined to a constant of so many bytes, asked about by the assertion
unfoldable pub sheet_term : (longest constant : ℕ) → (assertion : List ℕ) → List ℕ
sheet_term longest constant = sheet_bytes 0 longest (97 ∷ 97 ∷ []) (replicate constant 98) [] (all_of_v ++ record6 1 0 constant)

-- a sheet of one letter, no assertions and the given longest length, whose text table is said to begin at `offset` (2 is right)
unfoldable pub sheet_long : (longest offset : ℕ) → List ℕ
sheet_long longest offset =
    97 ∷ 97 ∷ u16 0 ++ (u16 longest ++ (u16 0 ++ (u16 1 ++ (u16 offset ++ (u16 0 ++ (u16 2 ++ (u16 0 ++ (u16 2 ++ (u16 0 ++ (u16 2 ++ (u16 0 ++
    (u32 34 ++ (80 ∷ 82 ∷ 77 ∷ 49 ∷ [])))))))))))))

-- ---- the table

pub data Key : Type 0 where
  Solves : (sheet : List ℕ) (budget : ℕ) → Said → Key  -- the solver, lent enough, says so
  Lists : (sheet : List ℕ) (row n : ℕ) (groups : List ℕ) (total : ℕ) → Key  -- the list has its groups there, and so many bytes
  Sizes : (sheet : List ℕ) (bytes : ℕ) → Key  -- the sheet has so many bytes
  Refuses : (sheet : List ℕ) (work out number table item : ℕ) → Key  -- lent so many words and bytes, the solver refuses so, naming table and record; 0 where it does not
  Moves : (m : Move) (sheet moved : List ℕ) → Key  -- the sheet is moved, and becomes this one
  Stays : (m : Move) (sheet : List ℕ) (space number : ℕ) → Key  -- lent so many bytes, the move is refused so

abbrev pub Right : Key → Type 0
Right (Solves s budget a) = solver_says s budget 7564 60 ≡ a
Right (Lists s row n groups total) =
    (table_from 0 (n + 1) (group_at (cut_list (grammar_of s) row n)) ≡ groups) × (length (cut_list (grammar_of s) row n) ≡ total)
Right (Sizes s bytes) = length s ≡ bytes
Right (Refuses s work out number table item) = solver_refusal s work out ≡ record { number = number; table = table; «record» = item }
Right (Moves m s t) = (in_edition (to m) s ≡ t) × (move_refusal m s (length t) ≡ no_fault)
Right (Stays m s space number) = move_refusal m s space ≡ plain number

-- the budget of the checking program
abbrev pub million : ℕ
million = 1000000

unfoldable pub keys : List Key
keys =
    Solves (sheet_b 0 2) million (Found [] 1) ∷  -- K1
    Solves (sheet_b 1 2) million (Found (60 ∷ 62 ∷ []) 5) ∷  -- K2
    Solves (sheet_b 3 3) million (None 1) ∷  -- K3
    Solves (sheet_b 4 4) million (Found (60 ∷ 60 ∷ 62 ∷ 62 ∷ []) 7) ∷  -- K4
    Solves sheet_k5 11 (Found (60 ∷ 62 ∷ 60 ∷ 62 ∷ []) 11) ∷  -- K5
    Solves sheet_k5 10 (Spent 10) ∷  -- K6
    Solves sheet_k7 million (None 3) ∷  -- K7
    Solves sheet_k8 million (Found (97 ∷ 97 ∷ 97 ∷ []) 7) ∷  -- K8
    Solves sheet_k9 million (None 3) ∷  -- K9
    Solves sheet_k10 million (None 3) ∷  -- K10
    Solves sheet_k11 million (Found (48 ∷ 48 ∷ []) 3) ∷  -- K11
    Lists sheet_k12 1 2 (0 ∷ 24 ∷ 56 ∷ []) 108 ∷  -- K12
    Sizes (sheet_b 4 4) 96 ∷  -- "K4 .., a sheet of 96 bytes"
    Refuses (sheet_long 60 2) 7564 60 0 0 0 ∷  -- longest 60 passes
    Refuses (sheet_long 61 2) 7564 61 141 0 0 ∷  -- 61 is 141
    Refuses (sheet_term 20 40 (record12 2 0 0 2 0 0)) 7564 60 0 0 0 ∷  -- a 60-byte term passes
    Refuses (sheet_term 20 41 (record12 2 0 0 2 0 0)) 7564 60 17 4 0 ∷  -- 61 is 17
    Refuses (sheet_long 60 2) 7563 60 18 0 0 ∷  -- 7,563 words is 18
    Refuses (sheet_long 0 2) 7564 0 0 0 0 ∷  -- longest 0 accepts an output of no bytes
    Refuses (sheet_long 61 3) 7564 60 141 0 0 ∷  -- 61 with a wrong offset is 141
    Solves (sheet_within 0 1 1) million (Found (97 ∷ 98 ∷ []) 5) ∷  -- kind 4: v contains `ab`
    Solves (sheet_within 1 0 1) million (Found (97 ∷ []) 2) ∷  -- `ab` contains v
    Solves (sheet_within 0 1 0) million (Found (97 ∷ []) 2) ∷  -- v contains the empty term
    Refuses (sheet_within 0 1 2) 7564 60 16 4 0 ∷  -- a second term past the parts is 16
    Refuses (sheet_term 20 40 (record12 4 0 0 1 0 2)) 7564 60 0 0 0 ∷  -- a second term of 60 bytes passes
    Refuses (sheet_term 20 41 (record12 4 0 0 1 0 2)) 7564 60 17 4 0 ∷  -- 61 is 17
    Solves (sheet_cut (0 ∷ 0 ∷ 0 ∷ 0 ∷ []) 97) million (Found (97 ∷ 97 ∷ 97 ∷ []) 7) ∷  -- K8 in the second edition, cut rule 0
    Solves (sheet_cut (1 ∷ 0 ∷ 0 ∷ 0 ∷ []) 97) million (Found [] 1) ∷  -- cut rule 1: the cut of the empty v is empty, which is not `x`
    Refuses (sheet_cut (2 ∷ 0 ∷ 0 ∷ 0 ∷ []) 97) 7564 60 16 5 0 ∷  -- cut rule 2 is 16
    Refuses (sheet_cut (0 ∷ 1 ∷ 0 ∷ 0 ∷ []) 97) 7564 60 16 5 0 ∷  -- so is comparison rule 1
    Refuses (sheet_cut (0 ∷ 0 ∷ 1 ∷ 0 ∷ []) 97) 7564 60 16 5 0 ∷  -- and a zero that is not
    Refuses (sheet_cut (0 ∷ 0 ∷ 0 ∷ 1 ∷ []) 96) 7564 60 16 5 0 ∷  -- before a bad record
    Refuses (sheet_cut (0 ∷ 0 ∷ 0 ∷ 0 ∷ []) 96) 7564 60 16 0 0 ∷  -- which is told where the new bytes are good
    Refuses (replicate 28 0 ++ (80 ∷ 82 ∷ 77 ∷ 50 ∷ [])) 7564 60 13 0 0 ∷  -- a sheet of the second edition under 36 bytes is 13
    Moves ToSecond sheet_k8 (sheet_cut (0 ∷ 0 ∷ 0 ∷ 0 ∷ []) 97) ∷  -- K8 in the second edition
    Moves ToFirst (sheet_cut (0 ∷ 0 ∷ 0 ∷ 0 ∷ []) 97) sheet_k8 ∷  -- and back
    Stays ToSecond (sheet_cut (0 ∷ 0 ∷ 0 ∷ 0 ∷ []) 97) 100 12 ∷  -- it already has the wanted mark
    Stays ToFirst sheet_k8 100 12 ∷  -- so has this
    Stays ToFirst (sheet_cut (1 ∷ 0 ∷ 0 ∷ 0 ∷ []) 97) 0 40 ∷  -- a nonzero rule is 40, before the room
    Stays ToSecond sheet_k8 62 41 ∷  -- 62 bytes for the 63 of K8 in the second edition
    []
