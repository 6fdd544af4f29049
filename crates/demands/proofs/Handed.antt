-- The maker's list, handed on to the gate: it is found in the space, it passes 30 and 31, and what the gate says of it is what the row derives.
-- Assumes nothing.
use Prim.Native.Nat.{ℕ, ◌≤◌, ◌<◌}
use mathlib.Core.Path.{◌≡◌, refl, sym}
use mathlib.Core.Bool.{Bool, true, false, cond, true≢false}
use mathlib.Core.Logic.{◌↔◌}
use mathlib.Core.List.{List}
use native.Mathlib.Omega.{arith}
use lib.ListN.{length, take}
use lib.Seq.{take-append_seam}
use borrow.Author.Tests.{eq-eqb, le-leb}
use Rattle.paper.specs.Trailer.{count_of}
use Rattle.paper.specs.Refusals.{latest, Accepted}
use Rattle.paper.specs.Rows.{Derives}
use Rattle.paper.specs.Sheet.{text_of, grammar_of}
use Rattle.paper.specs.Cuts.{cut_list}
use Rattle.paper.specs.Gate.{n_of, well_formed, reading}
use Rattle.paper.specs.Answers.{words, zeroed, written, gate_says, gate_leaves}
use Rattle.paper.proofs.Sound.{Sound}
use Rattle.paper.proofs.Positions.{list_n}
use Rattle.paper.proofs.Reading.{list_well_formed, list_reading}
use Rattle.sheet.proofs.Contents.{rows_length}
use Rattle.sheet.proofs.Good.{good}
use Rattle.sheet.proofs.Soundness.{good_sound}

-- the list is what stands at the start of the space
pub list_taken : (list space : List ℕ) → take (length list) (written list space) ≡ list
unfolding written
list_taken list space = take-append_seam list _

-- ---- the gate past its refusals

module _ (list text word work : List ℕ) (w : well_formed list (length text) ≡ true) (n : length word ≡ n_of list) (h : words ≤ length work) where
  pub gate_reads : gate_says list text word (length work) ≡ cond (reading list text word) 0 1
  unfolding gate_says
  gate_reads = rw (w, eq-eqb _ _ n, le-leb _ _ h)

-- yes and no, of a reading that is right
pub reads_right : (b : Bool) (D : Type 0) → ((b ≡ true) ↔ D) → (k : ℕ) → k ≡ cond b 0 1 → ((k ≡ 0) ↔ D) × ((k ≡ 1) ↔ (D → ⊥)) × (k ≤ 1)
reads_right true D r k e = (((λ z. r.0 refl), (λ d. e)), ((λ z. absurd (omega arith)), (λ f. absurd (f (r.0 refl)))), omega arith)
reads_right false D r k e = (((λ z. absurd (omega arith)), (λ d. absurd (true≢false (sym (r.1 d))))), ((λ z d. true≢false (sym (r.1 d))), (λ f. e)), omega arith)

pub yes_or_no_leaves : (k : ℕ) (work : List ℕ) → k ≤ 1 → gate_leaves k work ≡ zeroed words work
unfolding gate_leaves
yes_or_no_leaves k work h = rw (le-leb k 1 h)

-- ---- the list of a row of an accepted sheet

module _ (sheet : List ℕ) (row n : ℕ) (a : Accepted sheet) (b : row < count_of sheet 2) (c : n ≤ 60) where
  abbrev list : List ℕ
  list = cut_list (grammar_of sheet) row n

  sound : Sound (grammar_of sheet)
  sound = good_sound sheet (good latest sheet (omega arith) a) (omega arith)

  below : row < length (grammar_of sheet).rows
  below = rw (rows_length sheet) b

  pub made_formed : well_formed list (length (text_of sheet)) ≡ true
  unfolding grammar_of
  made_formed = list_well_formed (grammar_of sheet) sound row n below c

  pub made_length : n_of list ≡ n
  made_length = list_n (grammar_of sheet) sound row n below c

  pub made_reading : (word : List ℕ) → length word ≡ n → (reading list (text_of sheet) word ≡ true) ↔ Derives (grammar_of sheet) row word
  unfolding grammar_of
  made_reading word e = list_reading (grammar_of sheet) sound row n below c word e
