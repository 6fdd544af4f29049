-- What is demanded of an answer of the maker and of the gate, in the paper's words.
use Rattle.std.specs.Prelude.{ℕ, ◌-◌, ◌≤◌, ◌<◌, ◌≡◌, ◌↔◌, List, length, take}
use Rattle.paper.specs.Trailer.{count_of}
use Rattle.paper.specs.Refusals.{Accepted}
use Rattle.paper.specs.Rows.{Derives}
use Rattle.paper.specs.Sheet.{grammar_of}
use Rattle.paper.specs.Cuts.{cut_list, Split}
use Rattle.paper.specs.Gate.{n_of, rows_of, option_count, head_at, option_at, opt_of}
use Rattle.paper.specs.Answers.{WriteReport, words, zeroed, written}

-- none of 10 to 17, 20, 21 and 22: an accepted sheet, a row of it, a length of at most 60, and space for the list
pub record Makeable (sheet : List ℕ) (row n : ℕ) (space : List ℕ) : Type 0 where
  pub accepted : Accepted sheet
  pub in_sheet : row < count_of sheet 2
  pub short : n ≤ 60
  pub room : length (cut_list (grammar_of sheet) row n) ≤ length space

-- an option of a list that steps to two rows: both lengths are shorter, and both rows are rows of the list
abbrev pub StepsShorter : List ℕ → Type 0
StepsShorter list =
    (m r j : ℕ) → m ≤ n_of list → r < rows_of list → j < option_count list (head_at list m r)
    → (k a b : ℕ) → opt_of list (option_at (head_at list m r) j) ≡ Split k a b
    → (k < m) × (m - k < m) × (a < rows_of list) × (b < rows_of list)

-- "list written": 0 and the list's length, the list at the start of the space, and the space after it kept; "each step leads only to shorter
-- lengths", of the bytes written
pub record ListWritten (sheet : List ℕ) (row n : ℕ) (space : List ℕ) (r : WriteReport) (space' : List ℕ) : Type 0 where
  pub number : r.number ≡ 0
  pub size : r.length ≡ length (cut_list (grammar_of sheet) row n)
  pub bytes : space' ≡ written (cut_list (grammar_of sheet) row n) space
  pub shorter : StepsShorter (take r.length space')

-- 0, yes, exactly when the row derives the word; else 1, no; the first 7,564 words of the workspace are zero, later words stay
pub record Judged (sheet : List ℕ) (row : ℕ) (word work : List ℕ) (number : ℕ) (work' : List ℕ) : Type 0 where
  pub says_yes : number ≡ 0 ↔ Derives (grammar_of sheet) row word
  pub says_no : number ≡ 1 ↔ (Derives (grammar_of sheet) row word → ⊥)
  pub one_of_two : number ≤ 1
  pub cleared : work' ≡ zeroed words work
