-- That a sheet is good is a fact: it has one proof at the most, so that a type may carry it.
use Rattle.std.specs.Prelude.{ℕ, List}
use Rattle.std.specs.Coded.{×_prop, Unit-prop, le_prop}
use Rattle.std.proofs.Props.{props}
use Rattle.paper.specs.Rows.{Row, Empty, Range, Text, Alt, Seq, Star}
use Rattle.paper.specs.Terms.{Part, Const, All, Cut}
use Rattle.paper.specs.Sheet.{Claim, Derived, Contains, Equals, ContainsTerm}
use Rattle.paper.proofs.Sound.{SoundRow, SoundPart, SoundClaim}
use Rattle.sheet.specs.Good.{Good}

row_once : (text rows : ℕ) (r : Row) → IsProp (SoundRow text rows r)
row_once text rows Empty = Unit-prop
row_once text rows (Range a b) = ×_prop le_prop le_prop
row_once text rows (Text a b) = le_prop
row_once text rows (Alt a b) = ×_prop le_prop le_prop
row_once text rows (Seq a b) = ×_prop le_prop le_prop
row_once text rows (Star a) = le_prop

part_once : (text : ℕ) (p : Part) → IsProp (SoundPart text p)
part_once text (Const a b) = le_prop
part_once text All = Unit-prop
part_once text (Cut a b) = Unit-prop

claim_once : (text rows parts : ℕ) (x : Claim) → IsProp (SoundClaim text rows parts x)
claim_once text rows parts (Derived r) = le_prop
claim_once text rows parts (Contains a b) = le_prop
claim_once text rows parts (Equals a b) = le_prop
claim_once text rows parts (ContainsTerm a b) = le_prop

pub good_once : (s : List ℕ) → IsProp (Good s)
good_once s = Prim.hlevel (props, row_once, part_once, claim_once)
