-- What the readers of a cut list hand on.
use Rattle.std.specs.Prelude.{ℕ, ◌+◌, ◌*◌, ◌<◌, ◌≤◌, ◌≡◌, ◌⊎◌, Bool, List, length, Option, None, Some}
use Rattle.paper.specs.Bytes.{u8_at, u16_at}
use Rattle.paper.specs.Cuts.{Opt, Byte, Stretch, Split, Nil}
use Rattle.paper.specs.Gate.{n_of, rows_of, root_of, trailer_of, option_ok}
use Rattle.list.specs.declared.fields.Trailer.{Trailer}
use Rattle.list.specs.declared.fields.Fields.{Fields}
use Rattle.list.specs.declared.fields.Opt as read
use Rattle.list.specs.declared.fields.Opt.TheVariants as case

-- the trailer of a list whose trailer is right, with its limits
pub record Trailed (l : List ℕ) (t : Trailer) : Type 0 where
  pub length_is : t.n ≡ n_of l
  pub rows_are : t.rows ≡ rows_of l
  pub root_is : t.root ≡ root_of l
  pub base_is : t.base ≡ trailer_of l
  pub room : t.base + (4 * t.n + 20) ≡ length l
  pub small : length l < 4294967296
  pub short : t.n ≤ 60
  pub some : 1 ≤ t.rows
  pub few : t.rows ≤ 256
  pub below : t.root < t.rows

-- the fields of the option at o
pub record Fielded (l : List ℕ) (o : ℕ) (f : Fields) : Type 0 where
  pub kind_is : f.kind ≡ u8_at l o
  pub k_is : f.k ≡ u8_at l (o + 1)
  pub a_is : f.a ≡ u16_at l (o + 2)
  pub b_is : f.b ≡ u16_at l (o + 4)
  pub a_small : f.a < 65536
  pub b_small : f.b < 65536

-- the option of the fields' kind, if there is one
abbrev pub OptionOf : Fields → Option read.Opt → Type 0
OptionOf f (Some (case.Byte lo hi)) = (f.kind ≡ 1) × (lo ≡ f.a) × (hi ≡ f.b)
OptionOf f (Some (case.Stretch off len)) = (f.kind ≡ 2) × (off ≡ f.a) × (len ≡ f.b)
OptionOf f (Some (case.Split k a b)) = (f.kind ≡ 3) × (k ≡ f.k) × (a ≡ f.a) × (b ≡ f.b)
OptionOf f (Some case.Nil) = f.kind ≡ 4
OptionOf f None = (f.kind ≡ 0) ⊎ (4 < f.kind)

-- the paper's option that an option read is
abbrev pub option_of : read.Opt → Opt
option_of (case.Byte lo hi) = Byte lo hi
option_of (case.Stretch off len) = Stretch off len
option_of (case.Split k a b) = Split k a b
option_of case.Nil = Nil

-- option j of those from o on obeys
abbrev pub option_from : List ℕ → (text m o j : ℕ) → Bool
option_from l text m o j = option_ok l text m (o + 8 * j)
