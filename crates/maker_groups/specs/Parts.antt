-- The bytes of an option, and the code's options as the paper's.
use Rattle.std.specs.Prelude.{ℕ, List, ◌∷◌, ◌++◌}
use Rattle.paper.specs.Bytes.{u16}
use Rattle.paper.specs.Cuts as paper
use Rattle.maker_groups.specs.declared.bytes.Opt.{Opt}
use Rattle.maker_groups.specs.declared.bytes.Opt.TheVariants.{Byte, Stretch, Split, Nil}

-- the bytes of an option with these fields
unfoldable pub field_bytes : (kind k a b : ℕ) → List ℕ
field_bytes kind k a b = kind ∷ k ∷ u16 a ++ u16 b ++ u16 0

abbrev pub as_opt : Opt → paper.Opt
as_opt (Byte a b) = paper.Byte a b
as_opt (Stretch a b) = paper.Stretch a b
as_opt (Split k a b) = paper.Split k a b
as_opt Nil = paper.Nil
