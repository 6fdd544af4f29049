-- What a move says and leaves: each refusal, and the sheet written.
-- Assumes nothing.
use Prim.Native.Nat.{ℕ, ◌≤◌, ◌<◌}
use mathlib.Core.Path.{◌≡◌, refl, subst, ◌∙◌}
use mathlib.Core.Bool.{Bool, true, false, cond}
use mathlib.Core.List.{List}
use native.Mathlib.Omega.{arith}
use lib.Dec.{leb, eqb}
use lib.ListN.{length}
use borrow.Author.Tests.{eq-eqb, ne_eqb, le-leb, lt-leb, eqb-true, eqb-false, leb-true}
use Rattle.std.specs.Prelude.{Result, Ok, Err}
use Rattle.paper.specs.Rules.{no_rule}
use Rattle.paper.specs.Trailer.{rules_of}
use Rattle.paper.specs.Refusals as paper
use Rattle.paper.specs.Refusals.{plain, no_fault, or_else, latest, refusal}
use Rattle.paper.specs.Answers.{written}
use Rattle.paper.specs.Editions.{Move, ToSecond, ToFirst, from, to, in_edition, only, room_refusal, move_refusal, move_says, move_leaves}
use Rattle.paper.specs.Promises.{Moves}
use Rattle.sheet.specs.declared.Fault.{Fault}
use Rattle.sheet.specs.declared.Fault.TheVariants.{Rule, Space}
use Rattle.sheet.specs.Told.{told, made}
use Rattle.sheet.proofs.Good.{pass, heads}
use Rattle.sheet.proofs.Telling.{told_back, told_err, made_err}
use Rattle.editions.specs.Puts.{Puts}
use Rattle.editions.specs.Movable.{Movable}
use Rattle.editions.proofs.Moved.{moved_length}
use Rattle.editions.proofs.Same.{only_accepted, accepted_only, base_most}

-- ---- the sheet in edition e, or 41

module _ (e : ℕ) (s old : List ℕ) where
  pub puts_refused : length old < length (in_edition e s) → Puts e s old (Err Space) old
  puts_refused h = record { said = rw (lt-leb _ _ h) (made_err (plain 41) (in_edition e s) (told_back Space)); wrote = rw (lt-leb _ _ h) }

  pub puts_written : (k : ℕ) (now : List ℕ) → length (in_edition e s) ≤ length old → k ≡ length (in_edition e s) → now ≡ written (in_edition e s) old → Puts e s old (Ok k) now
  puts_written k now h n w = record { said = rw (le-leb _ _ h, n); wrote = rw (le-leb _ _ h) w }

-- ---- the numbers

pub from_known : (m : Move) → (1 ≤ from m) × (from m ≤ 2)
from_known ToSecond = (omega arith, omega arith)
from_known ToFirst = (omega arith, omega arith)

pub to_known : (m : Move) → (1 ≤ to m) × (to m ≤ 2)
to_known ToSecond = (omega arith, omega arith)
to_known ToFirst = (omega arith, omega arith)

module _ (m : Move) (s : List ℕ) (space : ℕ) where
  refused_sheet : ((refusal (only (from m)) s).number ≡ 0 → ⊥) → move_refusal m s space ≡ refusal (only (from m)) s
  unfolding move_refusal
  refused_sheet h = rw (ne_eqb (refusal (only (from m)) s).number 0 h)

  refused_rule : (refusal (only (from m)) s).number ≡ 0 → no_rule (rules_of s) ≡ false → move_refusal m s space ≡ plain 40
  unfolding move_refusal
  refused_rule a r = rw (eq-eqb (refusal (only (from m)) s).number 0 a, r)

  pub room_left : (refusal (only (from m)) s).number ≡ 0 → no_rule (rules_of s) ≡ true → move_refusal m s space ≡ room_refusal (to m) s space
  unfolding move_refusal
  room_left a r = rw (eq-eqb (refusal (only (from m)) s).number 0 a, r)

or_else_none : (f later : paper.Fault) → (or_else f later).number ≡ 0 → (f.number ≡ 0) × (later.number ≡ 0)
or_else_none f later e = go (eqb f.number 0) refl e
  where
    go : (b : Bool) → eqb f.number 0 ≡ b → (cond b later f).number ≡ 0 → (f.number ≡ 0) × (later.number ≡ 0)
    go true t e = (eqb-true _ _ t, e)
    go false t e = absurd (eqb-false _ _ t e)

-- none is given exactly where the sheet is moved
pub movable : (m : Move) (s : List ℕ) (space : ℕ) → (move_refusal m s space).number ≡ 0 → Movable m s space
unfolding move_refusal
movable m s space e =
    let a = or_else_none (refusal (only (from m)) s) _ e in
    let b = pass (plain 40) (no_rule (rules_of s)) _ (omega arith) a.1 in
    let c = pass (plain 41) (leb (length (in_edition (to m) s)) space) no_fault (omega arith) b.1 in
    let d = accepted_only (from m) (from_known m).0 (from_known m).1 s a.0 in
    record { accepted = d.0; given = d.1; no_rule = b.0; room = leb-true _ _ c.0 }

-- the sheet moved is as long as its tables and the trailer, so it is short
pub moved_most : (m : Move) (s : List ℕ) {space : ℕ} → Movable m s space → length (in_edition (to m) s) ≤ 3380
moved_most m s p =
    omega (arith, moved_length s (heads latest s p.accepted).trailed (to m) (to_known m).0 (to_known m).1, base_most s p.accepted p.no_rule, (to_known m).1)

pub movable_none : (m : Move) (s : List ℕ) (space : ℕ) → Movable m s space → move_refusal m s space ≡ no_fault
movable_none m s space p =
    room_left m s space (subst (λ (e : ℕ). (refusal (only e) s).number ≡ 0) p.given (only_accepted s p.accepted)) p.no_rule ∙ rw (le-leb _ _ p.room)

-- ---- what is said, and what is left

module _ (m : Move) (s old : List ℕ) where
  -- a refusal reports its number and changes nothing
  refuses : (x : paper.Fault) (f : Fault) → move_refusal m s (length old) ≡ x → Err f ≡ told x → Moves made m s old (Err f) old
  unfolding move_says move_leaves
  refuses x f e t = record { said = rw e (made_err x (in_edition (to m) s) t); wrote = rw (e, ne_eqb x.number 0 (told_err x t)) }

  pub refuses_sheet : (f : Fault) → Err f ≡ told (refusal (only (from m)) s) → Moves made m s old (Err f) old
  refuses_sheet f t = refuses (refusal (only (from m)) s) f (refused_sheet m s (length old) (told_err (refusal (only (from m)) s) t)) t

  pub refuses_rule : (refusal (only (from m)) s).number ≡ 0 → no_rule (rules_of s) ≡ false → Moves made m s old (Err Rule) old
  refuses_rule a r = refuses (plain 40) Rule (refused_rule m s (length old) a r) (told_back Rule)

  pub moves_put : (r : Result ℕ Fault) (now : List ℕ) → (refusal (only (from m)) s).number ≡ 0 → no_rule (rules_of s) ≡ true → Puts (to m) s old r now → Moves made m s old r now
  unfolding move_says move_leaves
  moves_put r now a n p = record { said = rw (room_left m s (length old) a n) p.said; wrote = rw (room_left m s (length old) a n) p.wrote }
