-- What an accepted sheet gives to those who read it: they cite these fields and never the text of `refusal`.
use Rattle.std.specs.Prelude.{ℕ, ◌+◌, ◌<◌, ◌≤◌, ◌≡◌, true, List, length}
use Rattle.paper.specs.Bytes.{u8_at}
use Rattle.paper.specs.Trailer.{size, least, most, limit, shortest, longest, count_of, record_at}
use Rattle.paper.specs.Sheet.{row_at, part_at, assertion_at, second_run}
use Rattle.paper.specs.Records.{term_fits}
use Rattle.paper.proofs.Sound.{SoundRow, SoundPart, SoundAssertion}
use Rattle.sheet_trailer.specs.Placed.{Trailed, Placed}

pub record Good (s : List ℕ) : Type 0 where
  pub trailed : Trailed s
  pub small : length s < 65536
  pub pair : shortest s ≤ longest s
  pub short : longest s ≤ limit
  pub counts : (t : ℕ) → t < 5 → (least t ≤ count_of s t) × (count_of s t ≤ most t)
  pub placed : Placed s
  pub room : (t i : ℕ) → t < 5 → i < count_of s t → record_at s t i + size t ≤ length s
  pub letters : (i : ℕ) → i < count_of s 0 → u8_at s (record_at s 0 i) ≤ u8_at s (record_at s 0 i + 1)
  pub rows : (i : ℕ) → i < count_of s 2 → SoundRow (count_of s 1) (count_of s 2) (row_at s (record_at s 2 i))
  pub parts : (i : ℕ) → i < count_of s 3 → SoundPart (count_of s 1) (part_at s (record_at s 3 i))
  pub assertions : (i : ℕ) → i < count_of s 4 → SoundAssertion (count_of s 1) (count_of s 2) (count_of s 3) (assertion_at s (record_at s 4 i))
  pub terms : (i : ℕ) → i < count_of s 4
      → (term_fits s (assertion_at s (record_at s 4 i)).term ≡ true) × (term_fits s (second_run (assertion_at s (record_at s 4 i)).claim) ≡ true)
