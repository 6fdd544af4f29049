-- The three demands, as theorems about what `solve`, `make` and `gate` promise, each call's C form too: the promise is one.
-- Assumes nothing.
use Prim.Native.Nat.{ℕ, ◌≤◌, ◌<◌}
use mathlib.Core.Path.{◌≡◌, refl, sym, ap, ◌∙◌}
use mathlib.Core.Bool.{Bool, true, false}
use mathlib.Core.List.{List}
use native.Mathlib.Omega.{arith}
use lib.Dec.{eqb}
use lib.ListN.{length, take}
use borrow.Author.Tests.{ne_eqb, lt-leb}
use Rattle.paper.specs.Bytes.{OfBytes}
use Rattle.paper.specs.Trailer.{longest}
use Rattle.paper.specs.Refusals.{Fault, no_fault, Accepted}
use Rattle.paper.specs.Names.{Names}
use Rattle.paper.specs.Rows.{Derives}
use Rattle.paper.specs.Sheet.{sheet_of, text_of, grammar_of}
use Rattle.paper.specs.Cuts.{cut_list}
use Rattle.paper.specs.Gate.{well_formed}
use Rattle.paper.specs.Answers.{Said, Found, None, Spent, Refused, Report, report_of, whether, under, walk_of, solver_says, WriteReport, words, zeroed, written, work_after, out_after, solver_refusal, maker_refusal, maker_says, space_after, gate_says, gate_leaves}
use Rattle.paper.specs.Promises.{Solves, Makes, Gates}
use Rattle.paper.proofs.Budget.{under_above}
use Rattle.paper.proofs.Meaning.{Means, answer_means}
use Rattle.paper.proofs.Faults.{named_by, solver_names, maker_names}
use Rattle.paper.proofs.WellFormed.{formed, steps_shorter}
use Rattle.solver.proofs.Solving.{says_refused, says_answer, work_zeroed}
use Rattle.maker.proofs.Answers.{not_refused}
use Rattle.demands.specs.Solved.{Counted, Answered}
use Rattle.demands.specs.Demanded.{Makeable, ListWritten, Judged, StepsShorter}
use Rattle.demands.proofs.Answering.{needed, answered}
use Rattle.demands.proofs.Counting.{some_trial, trials_counted}
use Rattle.demands.proofs.Handed.{list_taken, gate_reads, reads_right, yes_or_no_leaves, made_formed, made_length, made_reading}

-- ---- demand 1: a fault is named by its number, its table and its record, the length reported is 0, and nothing lent is changed

-- the solver: 10 to 19; trials 0 too
pub demand_1_solver : (sheet : List ℕ) (budget : ℕ) (work out : List ℕ) (r : Report) (work' out' : List ℕ) → Solves report_of sheet budget work out r work' out'
    → 0 < (solver_refusal sheet (length work) (length out)).number
    → (r ≡ report_of (Refused (solver_refusal sheet (length work) (length out)))) × (work' ≡ work) × (out' ≡ out)
demand_1_solver sheet budget work out r work' out' p h =
    let e = says_refused sheet budget work out h in
    (p.said ∙ ap report_of e, p.cleared ∙ ap (λ (a : Said). work_after a work) e, p.wrote ∙ ap (λ (a : Said). out_after a out) e)

-- whatever is answered, table and record are those that the number names
pub demand_1_solver_names : (sheet : List ℕ) (budget : ℕ) (work out : List ℕ) (r : Report) (work' out' : List ℕ) → Solves report_of sheet budget work out r work' out'
    → Names sheet (record { number = r.number; table = r.table; «record» = r.«record» })
unfolding solver_says
demand_1_solver_names sheet budget work out r work' out' p = rw p.said (go (eqb (solver_refusal sheet (length work) (length out)).number 0) (answer_means (sheet_of sheet) budget))
  where
    said : (a : Said) → Means (sheet_of sheet) budget a → Names sheet (record { number = (report_of a).number; table = (report_of a).table; «record» = (report_of a).«record» })
    said (Found w t) m = named_by sheet 0 refl
    said (None t) m = named_by sheet 1 refl
    said (Spent t) m = named_by sheet 2 refl
    said (Refused f) m = absurd m

    go : (b : Bool) → Means (sheet_of sheet) budget (under budget (walk_of (sheet_of sheet)))
        → let a = whether b (under budget (walk_of (sheet_of sheet))) (Refused (solver_refusal sheet (length work) (length out))) in
        Names sheet (record { number = (report_of a).number; table = (report_of a).table; «record» = (report_of a).«record» })
    go true m = said (under budget (walk_of (sheet_of sheet))) m
    go false m = solver_names sheet (length work) (length out)

-- the maker: 10 to 17, then 20 to 22
pub demand_1_maker : (sheet : List ℕ) (row n : ℕ) (space : List ℕ) (r : WriteReport) (space' : List ℕ) → Makes (λ q. q) sheet row n space r space'
    → 0 < (maker_refusal sheet row n (length space)).number
    → (r.number ≡ (maker_refusal sheet row n (length space)).number) × (r.length ≡ 0) × (space' ≡ space)
unfolding maker_says space_after
demand_1_maker sheet row n space r space' p h =
    let e = ne_eqb (maker_refusal sheet row n (length space)).number 0 (λ z. omega arith) in
    (ap (λ (m : WriteReport). m.number) p.said, ap (λ (m : WriteReport). m.length) p.said ∙ rw e, p.wrote ∙ rw e)

pub demand_1_maker_names : (sheet : List ℕ) (row n : ℕ) (space : List ℕ) (r : WriteReport) (space' : List ℕ) → Makes (λ q. q) sheet row n space r space'
    → Names sheet (record { number = r.number; table = r.table; «record» = r.«record» })
unfolding maker_says
demand_1_maker_names sheet row n space r space' p = rw p.said (maker_names sheet row n (length space))

-- the gate, which reports its number alone: 30, 31, then 18
pub demand_1_gate : (list text word work : List ℕ) (number : ℕ) (work' : List ℕ) → Gates list text word work number work'
    → 1 < gate_says list text word (length work)
    → (number ≡ gate_says list text word (length work)) × (work' ≡ work)
unfolding gate_leaves
demand_1_gate list text word work number work' p h = (p.said, p.left ∙ rw (lt-leb number 1 (omega (arith, p.said))))

-- ---- demand 2: what is found

-- DEMAND 2. For every accepted sheet and every budget, lent 7,564 words and an output of the longest length, whatever the solver's promise allows:
-- the paper's walk, in which a prefix is open exactly when it is `Open`, needs some number of trials, and the answer is `Answered` of it (both in
-- specs/Solved); the first 7,564 words of the workspace are then zero, and later words stay.
pub demand_2 : (sheet : List ℕ) (budget : ℕ) (work out : List ℕ) (r : Report) (work' out' : List ℕ) → Solves report_of sheet budget work out r work' out'
    → OfBytes sheet → Accepted sheet → words ≤ length work → longest sheet ≤ length out
    → (k : ℕ) × Counted (sheet_of sheet) k × Answered (sheet_of sheet) k budget out out' r × (work' ≡ zeroed words work)
unfolding words
demand_2 sheet budget work out r work' out' p bytes a b c =
    let e = says_answer sheet budget work out a b c in (
      needed (sheet_of sheet),
      trials_counted sheet a bytes,
      rw (p.said, p.wrote, e) (answered (sheet_of sheet) (some_trial sheet a) budget out),
      p.cleared ∙ rw e (work_zeroed (sheet_of sheet) budget work),
    )

-- "budget 0 is always spent on an accepted sheet"
pub budget_0_spent : (sheet work out : List ℕ) (r : Report) (work' out' : List ℕ) → Solves report_of sheet 0 work out r work' out'
    → Accepted sheet → words ≤ length work → longest sheet ≤ length out → r ≡ record { number = 2; table = 0; «record» = 0; length = 0; trials = 0 }
unfolding words
budget_0_spent sheet work out r work' out' p a b c =
    p.said ∙ ap report_of (says_answer sheet 0 work out a b c ∙ under_above 0 _ (some_trial sheet a))

-- ---- demand 3: what is made, and what is read

-- every option of any well-formed list leads only to shorter lengths
pub options_shorter : (list : List ℕ) (text : ℕ) → well_formed list text ≡ true → StepsShorter list
options_shorter list text w = steps_shorter list text (formed list text w)

-- lent space for it, the maker of a row of an accepted sheet writes the list, and it is at the start of the space
module _ (sheet : List ℕ) (row n : ℕ) (space : List ℕ) (r : WriteReport) (space' : List ℕ) (p : Makes (λ q. q) sheet row n space r space') (m : Makeable sheet row n space) where
  none_refused : maker_refusal sheet row n (length space) ≡ no_fault
  none_refused = not_refused sheet row n (length space) m.accepted m.in_sheet m.short m.room

  list_size : r.length ≡ length (cut_list (grammar_of sheet) row n)
  unfolding maker_says
  list_size = ap (λ (q : WriteReport). q.length) p.said ∙ rw none_refused

  list_bytes : space' ≡ written (cut_list (grammar_of sheet) row n) space
  unfolding space_after
  list_bytes = p.wrote ∙ rw none_refused

  pub list_there : take r.length space' ≡ cut_list (grammar_of sheet) row n
  list_there = rw (list_size, list_bytes) (list_taken (cut_list (grammar_of sheet) row n) space)

  pub list_written : ListWritten sheet row n space r space'
  unfolding maker_says
  list_written = record {
    number = ap (λ (q : WriteReport). q.number) p.said ∙ ap (λ (f : Fault). f.number) none_refused;
    size = list_size;
    bytes = list_bytes;
    shorter = rw list_there (options_shorter _ (length (text_of sheet)) (made_formed sheet row n m.accepted m.in_sheet m.short));
  }

-- lent the maker's list, the sheet's text, a word of n bytes and 7,564 words, the gate says yes exactly when the row derives the word
list_judged : (sheet : List ℕ) (row n : ℕ) (space word work : List ℕ) (number : ℕ) (work' : List ℕ) → Makeable sheet row n space
    → length word ≡ n → words ≤ length work → Gates (cut_list (grammar_of sheet) row n) (text_of sheet) word work number work' → Judged sheet row word work number work'
list_judged sheet row n space word work number work' m f h p =
    let w = made_formed sheet row n m.accepted m.in_sheet m.short in
    let e = made_length sheet row n m.accepted m.in_sheet m.short in
    let s = p.said ∙ gate_reads _ _ word work w (f ∙ sym e) h in
    let t = reads_right _ (Derives (grammar_of sheet) row word) (made_reading sheet row n m.accepted m.in_sheet m.short word f) number s in
    record {
      says_yes = t.0;
      says_no = t.1;
      one_of_two = t.2;
      cleared = p.left ∙ yes_or_no_leaves number work t.2;
    }

-- DEMAND 3. For every accepted sheet, every row of it, every n up to 60 and every word of n bytes: whatever the maker's promise allows, lent space
-- for the list, and whatever the gate's promise allows, lent as many bytes of that space as the maker reported, the sheet's text, the word and
-- 7,564 words: the list is written, each step in it leads only to shorter lengths, and the gate says yes exactly when the row derives the word,
-- and else no.
pub demand_3 : (sheet : List ℕ) (row n : ℕ) (space : List ℕ) (r : WriteReport) (space' word work : List ℕ) (number : ℕ) (work' : List ℕ)
    → Makes (λ q. q) sheet row n space r space'
    → Gates (take r.length space') (text_of sheet) word work number work'
    → Makeable sheet row n space → length word ≡ n → words ≤ length work
    → ListWritten sheet row n space r space' × Judged sheet row word work number work'
demand_3 sheet row n space r space' word work number work' p q m f h =
    let e = list_there sheet row n space r space' p m in
    (list_written sheet row n space r space' p m, list_judged sheet row n space word work number work' m f h (rw e at q))
