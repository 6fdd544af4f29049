-- A word's length, a list's length and a sheet's length fit the structs' 32 bits.
-- Assumes nothing.
use Prim.Native.Nat.{ℕ, ◌≤◌, ◌<◌}
use mathlib.Core.Path.{◌≡◌, refl}
use mathlib.Core.Bool.{Bool, true, false, cond}
use mathlib.Core.List.{List}
use native.Mathlib.Omega.{arith}
use borrow.Author.Tests.{ne_eqb, eqb-true}
use lib.Dec.{eqb}
use lib.ListN.{length}
use Rattle.paper.specs.Trailer.{count_of}
use Rattle.paper.specs.Refusals.{Fault, plain, latest, refusal}
use Rattle.paper.specs.Sheet.{grammar_of}
use Rattle.paper.specs.Cuts.{cut_list}
use Rattle.paper.specs.Answers.{report_of, maker_refusal, maker_says}
use Rattle.paper.specs.Editions.{Move, to, in_edition, move_refusal, move_says}
use Rattle.paper.specs.Promises.{says}
use Rattle.paper.proofs.Obeys.{list_most}
use Rattle.workspace.proofs.Spans.{lt_or_le}
use Rattle.sheet.proofs.Good.{good}
use Rattle.sheet.proofs.Soundness.{good_sound}
use Rattle.editions.proofs.Answers.{movable, moved_most}
use Rattle.solver.proofs.Short.{word_most}
use Rattle.maker.proofs.Answers.{refused_sheet, refused_row, refused_length}

-- ---- the word found

pub word_fits : (s : List ℕ) (budget : ℕ) (work out : List ℕ) → (report_of (says s budget work out)).length < 4294967296
word_fits s budget work out = omega (arith, word_most s budget work out)

-- ---- the list written

module _ (s : List ℕ) (row n space : ℕ) where
  -- a refusal reports no length
  refused_fits : (f : Fault) → maker_refusal s row n space ≡ f → 0 < f.number → (maker_says s row n space).length < 4294967296
  unfolding maker_says
  refused_fits f e h = rw (e, ne_eqb f.number 0 (λ z. omega arith)) (omega arith)

  written_fits : (refusal latest s).number ≡ 0 → row < count_of s 2 → n ≤ 60 → (maker_says s row n space).length < 4294967296
  unfolding maker_says
  written_fits a b c = go (eqb (maker_refusal s row n space).number 0)
    where
      go : (t : Bool) → cond t (length (cut_list (grammar_of s) row n)) 0 < 4294967296
      go true = list_most (grammar_of s) (good_sound s (good latest s (omega arith) a) (omega arith)) row n c
      go false = omega arith

  pub list_fits : (maker_says s row n space).length < 4294967296
  list_fits =
      lt_or_le 0 (refusal latest s).number (λ h. refused_fits (refusal latest s) (refused_sheet s row n space (λ z. omega arith)) h)
      (λ h.
      let a : (refusal latest s).number ≡ 0 = omega arith in
      lt_or_le row (count_of s 2)
      (λ b. lt_or_le 60 n (λ l. refused_fits (plain 21) (refused_length s row n space a b l) (omega arith)) (λ l. written_fits a b l))
      (λ b. refused_fits (plain 20) (refused_row s row n space a b) (omega arith)))

-- ---- the sheet moved

pub sheet_fits : (m : Move) (s : List ℕ) (space : ℕ) → (move_says m s space).length < 4294967296
unfolding move_says
sheet_fits m s space = go (eqb (move_refusal m s space).number 0) refl
  where
    go : (b : Bool) → eqb (move_refusal m s space).number 0 ≡ b → cond b (length (in_edition (to m) s)) 0 < 4294967296
    go true e = omega (arith, moved_most m s (movable m s space (eqb-true _ _ e)))
    go false e = omega arith
