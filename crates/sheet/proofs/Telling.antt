-- What is told of a fault, and what a call that writes reports, is what the paper says: every number that a call says is one that the code knows.
-- Assumes nothing.
use Prim.Native.Nat.{ℕ}
use mathlib.Core.Path.{◌≡◌, refl, sym, ap}
use mathlib.Core.Bool.{Bool, true, false}
use mathlib.Core.Logic.{◌⊎◌, inl, inr}
use mathlib.Core.List.{List}
use lib.Dec.{leb, ltb, eqb}
use lib.ListN.{length}
use borrow.Author.Tests.{eqb-true, eq-eqb, ne_eqb}
use Rattle.std.specs.Prelude.{Ok, Err}
use Rattle.paper.specs.Tests.{first_bad}
use Rattle.paper.specs.Rules.{no_rule}
use Rattle.paper.specs.Trailer.{limit, longest, count_of, rules_of, mark_ok, total_ok, count_ok, lengths_ok, offsets_ok, rules_ok}
use Rattle.paper.specs.Records.{bad_table, bad_term}
use Rattle.paper.specs.Sheet.{grammar_of}
use Rattle.paper.specs.Cuts.{cut_list}
use Rattle.paper.specs.Refusals as paper
use Rattle.paper.specs.Refusals.{no_fault, unless, or_else, Takes, latest, refusal, table_refusal, content_refusal}
use Rattle.paper.specs.Answers.{words, write_report, solver_refusal, maker_refusal}
use Rattle.paper.specs.Editions.{Move, from, to, in_edition, only, move_refusal}
use Rattle.paper.proofs.Tests.{true_or_false}
use Rattle.sheet.specs.declared.Fault.{Fault}
use Rattle.sheet.specs.declared.Fault.TheVariants as case
use Rattle.sheet.specs.Told.{worded, fault_of, told, told_worded, made, reported}

-- ---- a fault of the code, told

pub told_back : (f : Fault) → Err f ≡ told (worded f)
unfolding told fault_of
told_back case.Short = refl
told_back case.Long = refl
told_back case.Mark = refl
told_back case.Total = refl
told_back (case.Count t) = refl
told_back case.Lengths = refl
told_back case.Offsets = refl
told_back (case.Record t i) = refl
told_back (case.Term i) = refl
told_back case.Workspace = refl
told_back case.Output = refl
told_back case.Row = refl
told_back case.Length = refl
told_back case.List = refl
told_back case.Rule = refl
told_back case.Space = refl

-- ---- a fault of the paper that the code knows

-- what is told of it has its number, its table and its record
abbrev pub Known : paper.Fault → Type 0
Known x = told_worded (told x) ≡ x

pub none_known : Known no_fault
unfolding told
none_known = refl

pub worded_known : (f : Fault) → Known (worded f)
worded_known f = ap told_worded (sym (told_back f))

pub unless_known : (x : paper.Fault) (test : Bool) (later : paper.Fault) → Known x → Known later → Known (unless x test later)
unless_known x true later a b = b
unless_known x false later a b = a

pub or_else_known : (x later : paper.Fault) → Known x → Known later → Known (or_else x later)
or_else_known x later a b = unless_known x (eqb x.number 0) later a b

module _ (s : List ℕ) where
  -- each fault of a sheet is known
  pub refusal_known : (takes : Takes) → Known (refusal takes s)
  unfolding refusal table_refusal content_refusal
  refusal_known takes =
      unless_known _ (leb 32 (length s)) _ (worded_known case.Short)
      (unless_known _ (leb (length s) takes.bytes) _ (worded_known case.Long)
      (unless_known _ (mark_ok takes.first takes.last s) _ (worded_known case.Mark)
      (unless_known _ (total_ok s) _ (worded_known case.Total)
      (unless_known _ (eqb (first_bad (count_ok s) 5) 5) _ (worded_known (case.Count _))
      (unless_known _ (lengths_ok s) _ (worded_known case.Lengths)
      (unless_known _ (offsets_ok s) _ (worded_known case.Offsets)
      (unless_known _ (rules_ok s) _ (worded_known (case.Record _ _))
      (unless_known _ (eqb (bad_table s) 5) _ (worded_known (case.Record _ _))
      (unless_known _ (eqb (bad_term s) (count_of s 4)) _ (worded_known (case.Term _)) none_known)))))))))

  -- and each of a call
  pub solver_known : (work out : ℕ) → Known (solver_refusal s work out)
  unfolding solver_refusal
  solver_known work out =
      or_else_known (refusal latest s) _ (refusal_known latest)
      (unless_known _ (leb words work) _ (worded_known case.Workspace)
      (unless_known _ (leb (longest s) out) _ (worded_known case.Output) none_known))

  pub maker_known : (row n space : ℕ) → Known (maker_refusal s row n space)
  unfolding maker_refusal
  maker_known row n space =
      or_else_known (refusal latest s) _ (refusal_known latest)
      (unless_known _ (ltb row (count_of s 2)) _ (worded_known case.Row)
      (unless_known _ (leb n limit) _ (worded_known case.Length)
      (unless_known _ (leb (length (cut_list (grammar_of s) row n)) space) _ (worded_known case.List) none_known)))

  pub move_known : (m : Move) (space : ℕ) → Known (move_refusal m s space)
  unfolding move_refusal
  move_known m space =
      or_else_known (refusal (only (from m)) s) _ (refusal_known (only (from m)))
      (unless_known _ (no_rule (rules_of s)) _ (worded_known case.Rule)
      (unless_known _ (leb (length (in_edition (to m) s)) space) _ (worded_known case.Space) none_known))

-- ---- what an answer says of the paper's fault

module _ (x : paper.Fault) where
  -- a sheet accepted has no fault
  pub told_ok : Ok tt ≡ told x → x.number ≡ 0
  unfolding told
  told_ok e = go (true_or_false (eqb x.number 0))
    where
      go : (eqb x.number 0 ≡ true) ⊎ (eqb x.number 0 ≡ false) → x.number ≡ 0
      go (inl t) = eqb-true _ _ t
      go (inr t) = let h = rw t at e in cc

  -- a sheet refused has one
  pub told_err : {f : Fault} → Err f ≡ told x → x.number ≡ 0 → ⊥
  unfolding told
  told_err e z = let q = eq-eqb x.number 0 z in let h = rw q at e in cc

  -- it is the fault that is told
  pub told_fault : {f : Fault} → Err f ≡ told x → f ≡ fault_of x
  unfolding told
  told_fault e = let q = ne_eqb x.number 0 (told_err e) in let h = rw q at e in cc

  -- and means the paper's fault
  pub fault_known : Known x → (x.number ≡ 0 → ⊥) → worded (fault_of x) ≡ x
  unfolding told
  fault_known k n = let q = ne_eqb x.number 0 n in rw q at k

  -- a call that writes reports it
  pub made_err : {f : Fault} (bytes : List ℕ) → Err f ≡ told x → Err f ≡ made (write_report x bytes)
  made_err bytes e = rw (ne_eqb x.number 0 (told_err e), told_fault e)

-- an answer reports what is said
pub report_told : (x : paper.Fault) (bytes : List ℕ) → Known x → reported (made (write_report x bytes)) ≡ write_report x bytes
unfolding told
report_told x bytes k = go (true_or_false (eqb x.number 0))
  where
    go : (eqb x.number 0 ≡ true) ⊎ (eqb x.number 0 ≡ false) → reported (made (write_report x bytes)) ≡ write_report x bytes
    go (inl t) = let e = rw t at k in rw (← e)
    go (inr t) = let e = rw t at k in rw (t, e)
