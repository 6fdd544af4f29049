-- The moves between editions, as theorems about what `to_second` and `to_first` promise, each call's C form too: the promise is one.
-- Assumes nothing.
use Prim.Native.Nat.{ℕ, ◌≤◌, ◌<◌}
use mathlib.Core.Path.{◌≡◌, refl, sym, ap, ◌∙◌}
use mathlib.Core.Logic.{◌↔◌}
use mathlib.Core.List.{List}
use native.Mathlib.Omega.{arith}
use lib.ListN.{length, take}
use borrow.Author.Tests.{eq-eqb, ne_eqb}
use Rattle.paper.specs.Bytes.{OfBytes}
use Rattle.paper.specs.Trailer.{edition}
use Rattle.paper.specs.Refusals.{Fault, latest, refusal, Accepted}
use Rattle.paper.specs.Names.{Names}
use Rattle.paper.specs.Answers.{Said, Report, report_of, WriteReport, written, work_after, out_after, solver_refusal, solver_says, maker_refusal, maker_says, space_after}
use Rattle.paper.specs.Editions.{Move, ToSecond, ToFirst, from, to, in_edition, move_refusal, move_says, move_leaves}
use Rattle.paper.specs.Promises.{Solves, Makes, Moves}
use Rattle.paper.proofs.Faults.{move_names}
use Rattle.paper.proofs.Coincide.{solves_coincide, makes_coincide}
use Rattle.sheet.proofs.Good.{heads}
use Rattle.editions.specs.Movable.{Movable}
use Rattle.editions.proofs.Moved.{moved_edition}
use Rattle.editions.proofs.Back as bytes
use Rattle.editions.proofs.Same.{ended, first_no_rule, moved_accepted, moved_no_rule, sheet_same, grammar_same, longest_same, count_same}
use Rattle.editions.proofs.Answers.{to_known, movable, movable_none}
use Rattle.demands.specs.Moved.{back, SheetWritten}
use Rattle.demands.proofs.Handed.{list_taken}

-- ---- demand 1: a fault is named by its number, its table and its record, the length reported is 0, and nothing lent is changed

module _ (m : Move) (sheet space : List ℕ) (r : WriteReport) (space' : List ℕ) (p : Moves (λ q. q) m sheet space r space') where
  pub demand_1_move : 0 < (move_refusal m sheet (length space)).number
      → (r.number ≡ (move_refusal m sheet (length space)).number) × (r.length ≡ 0) × (space' ≡ space)
  unfolding move_says move_leaves
  demand_1_move h =
      let e = ne_eqb (move_refusal m sheet (length space)).number 0 (λ z. omega arith) in
      (ap (λ (q : WriteReport). q.number) p.said, ap (λ (q : WriteReport). q.length) p.said ∙ rw e, p.wrote ∙ rw e)

  pub demand_1_move_names : Names sheet (record { number = r.number; table = r.table; «record» = r.«record» })
  unfolding move_says
  demand_1_move_names = rw p.said (move_names sheet m (length space))

  number_said : r.number ≡ (move_refusal m sheet (length space)).number
  unfolding move_says
  number_said = ap (λ (q : WriteReport). q.number) p.said

  -- ---- the sheet written

  -- 0 is said exactly of an accepted sheet of the edition that is moved from, with no rule, where there is room
  pub moved_exactly : (r.number ≡ 0) ↔ Movable m sheet (length space)
  moved_exactly = ((λ z. movable m sheet (length space) (sym number_said ∙ z)), (λ z. number_said ∙ ap (λ (f : Fault). f.number) (movable_none m sheet (length space) z)))

  pub sheet_written : Movable m sheet (length space) → SheetWritten m sheet space r space'
  unfolding move_says move_leaves
  sheet_written a =
      let none = movable_none m sheet (length space) a in
      let e = to m in
      record {
        number = moved_exactly.1 a;
        size = ap (λ (q : WriteReport). q.length) p.said ∙ rw none;
        bytes = p.wrote ∙ rw none;
        accepted = moved_accepted sheet a.accepted a.no_rule e (to_known m).0 (to_known m).1 latest (to_known m).0 (to_known m).1 (omega arith);
        wanted = moved_edition sheet (heads latest sheet a.accepted).trailed e (to_known m).0 (to_known m).1;
      }

-- every accepted sheet of the first edition is moved to the second, where there is room: it has no rule
pub first_movable : (sheet : List ℕ) (space : ℕ) → Accepted sheet → edition sheet ≡ 1 → length (in_edition 2 sheet) ≤ space → Movable ToSecond sheet space
first_movable sheet space a e h = record { accepted = a; given = e; no_rule = first_no_rule sheet e; room = h }

-- ---- there and back

back_to : (m : Move) → to (back m) ≡ from m
back_to ToSecond = refl
back_to ToFirst = refl

back_from : (m : Move) → from (back m) ≡ to m
back_from ToSecond = refl
back_from ToFirst = refl

module _ (m : Move) (sheet space : List ℕ) (r : WriteReport) (space' : List ℕ) (p : Moves (λ q. q) m sheet space r space') (ok : r.number ≡ 0) where
  can : Movable m sheet (length space)
  can = (moved_exactly m sheet space r space' p).0 ok

  done : SheetWritten m sheet space r space'
  done = sheet_written m sheet space r space' p can

  there : take r.length space' ≡ in_edition (to m) sheet
  there = rw (done.size, done.bytes) (list_taken (in_edition (to m) sheet) space)

  original : OfBytes sheet → in_edition (to (back m)) (in_edition (to m) sheet) ≡ sheet
  original byte =
      ap (λ (e : ℕ). in_edition e (in_edition (to m) sheet)) (back_to m ∙ sym can.given)
      ∙ bytes.there_and_back sheet (ended sheet can.accepted can.no_rule) byte (to m) (to_known m).0 (to_known m).1

  -- "THERE AND BACK gives the original bytes": the call the other way, lent the sheet written and space for the original, writes the original
  pub there_and_back : OfBytes sheet → (room : List ℕ) (q : WriteReport) (room' : List ℕ) → Moves (λ q. q) (back m) (take r.length space') room q room' → length sheet ≤ length room
      → (q.number ≡ 0) × (q.length ≡ length sheet) × (room' ≡ written sheet room)
  there_and_back byte room q room' w h =
      let e = original byte in
      let a : Movable (back m) (in_edition (to m) sheet) (length room) = record {
        accepted = done.accepted;
        given = done.wanted ∙ sym (back_from m);
        no_rule = moved_no_rule sheet can.accepted can.no_rule (to m) (to_known m).0 (to_known m).1;
        room = rw e h;
      } in
      let d = sheet_written (back m) (in_edition (to m) sheet) room q room' (rw there at w) a in
      (d.number, d.size ∙ ap length e, d.bytes ∙ ap (λ (z : List ℕ). written z room) e)

  -- ---- both editions alike

  says_same : (budget work out : ℕ) → solver_says (in_edition (to m) sheet) budget work out ≡ solver_says sheet budget work out
  unfolding solver_says solver_refusal
  says_same budget work out =
      let a = can.accepted in
      let n = can.no_rule in
      rw (eq-eqb (refusal latest sheet).number 0 a, eq-eqb (refusal latest (in_edition (to m) sheet)).number 0 done.accepted, sheet_same sheet a n (to m) (to_known m).0 (to_known m).1, longest_same sheet a n (to m) (to_known m).0 (to_known m).1)

  -- "THE SOLVER ANSWERS BOTH ALIKE": number, word and trials, and the final workspace and output, on every budget and whatever is lent
  pub solver_alike : (budget : ℕ) (work out : List ℕ) (a b : Report) (work' work'' out' out'' : List ℕ)
      → Solves report_of sheet budget work out a work' out' → Solves report_of (take r.length space') budget work out b work'' out''
      → (a ≡ b) × (work' ≡ work'') × (out' ≡ out'')
  solver_alike budget work out a b work' work'' out' out'' f g =
      let e = ap (λ (s : List ℕ). solver_says s budget (length work) (length out)) there ∙ says_same budget (length work) (length out) in
      let h : Solves report_of sheet budget work out b work'' out'' = record { said = g.said ∙ ap report_of e; cleared = g.cleared ∙ ap (λ (x : Said). work_after x work) e; wrote = g.wrote ∙ ap (λ (x : Said). out_after x out) e } in
      solves_coincide report_of sheet budget work out a b work' work'' out' out'' f h

  refusal_same : (row n space : ℕ) → maker_refusal (in_edition (to m) sheet) row n space ≡ maker_refusal sheet row n space
  unfolding maker_refusal
  refusal_same row n space =
      let a = can.accepted in
      let k = can.no_rule in
      rw (eq-eqb (refusal latest sheet).number 0 a, eq-eqb (refusal latest (in_edition (to m) sheet)).number 0 done.accepted, grammar_same sheet a k (to m) (to_known m).0 (to_known m).1, count_same sheet a k (to m) (to_known m).0 (to_known m).1)

  -- and so does the maker: number and length, and the list
  pub maker_alike : (row n : ℕ) (list : List ℕ) (a b : WriteReport) (list' list'' : List ℕ)
      → Makes (λ q. q) sheet row n list a list' → Makes (λ q. q) (take r.length space') row n list b list'' → (a ≡ b) × (list' ≡ list'')
  unfolding maker_says space_after
  maker_alike row n list a b list' list'' f g =
      let e = refusal_same row n (length list) in
      let k = grammar_same sheet can.accepted can.no_rule (to m) (to_known m).0 (to_known m).1 in
      makes_coincide (λ q. q) sheet row n list a b list' list'' f (record { said = g.said ∙ rw (there, e, k); wrote = g.wrote ∙ rw (there, e, k) })
