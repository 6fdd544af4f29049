-- Where record i of a table of an accepted sheet lies.
-- Assumes nothing.
use Prim.Native.Nat.{ℕ, ◌+◌, ◌*◌, ◌<◌, ◌≤◌}
use mathlib.Core.List.{List}
use lib.ListN.{length}
use Rattle.paper.specs.Trailer.{size, count_of}
use Rattle.sheet_trailer.specs.declared.Table.{Table}
use Rattle.sheet_trailer.specs.Tables.{TableOf}
use Rattle.sheet.specs.Good.{Good}

pub record_below : {s : List ℕ} {t i : ℕ} {x : Table} → TableOf s t x → i < x.count → i < count_of s t
record_below e h = rw e.counts at h

pub record_room : (s : List ℕ) (t : ℕ) → t < 5 → (x : Table) (i : ℕ) → Good s → TableOf s t x → i < x.count → x.at + size t * i + size t ≤ length s
record_room s t l x i g e h = rw e.begins (g.room t i l (record_below e h))
