-- Two results that the maker's promise allows coincide.
-- Assumes nothing.
use Prim.Native.Nat.{ℕ}
use mathlib.Core.Path.{◌≡◌}
use mathlib.Core.List.{List}
use Rattle.paper.specs.Sheet.{grammar_of}
use Rattle.paper.specs.Cuts.{cut_list}
use Rattle.paper.specs.Answers.{maker_refusal, maker_says}
use Rattle.paper.specs.Promises.{Makes}
use Rattle.paper.proofs.Coincide.{makes_coincide}
use Rattle.std.specs.Prelude.{Result}
use Rattle.sheet.specs.declared.Fault.{Fault}
use Rattle.sheet.specs.Told.{made, reported}
use Rattle.sheet.proofs.Telling.{report_told, maker_known}

pub coincide : (sheet : List ℕ) (row n : ℕ) (space : List ℕ) (r q : Result ℕ Fault) (space' space'' : List ℕ)
    → Makes made sheet row n space r space' → Makes made sheet row n space q space'' → (r ≡ q) × (space' ≡ space'')
coincide = makes_coincide made

-- an answer reports what is said
pub makes : (sheet : List ℕ) (row n space : ℕ) → reported (made (maker_says sheet row n space)) ≡ maker_says sheet row n space
unfolding maker_says
makes sheet row n space = report_told (maker_refusal sheet row n space) (cut_list (grammar_of sheet) row n) (maker_known sheet row n space)
