-- A row spells a word where it derives it of its own bytes, nothing compared: a derived word is the same as a spelled one.
-- Assumes nothing.
use Prim.Native.Nat.{ℕ, ◌≤◌}
use mathlib.Core.Path.{◌≡◌}
use mathlib.Core.List.{List, [], ◌∷◌, ◌++◌}
use Rattle.paper.specs.Compare.{Same}
use Rattle.paper.specs.Rows.{Empty, Range, Text, Alt, Seq, Star, Grammar, row, stretch, Derives}
use Rattle.paper.proofs.Comparing.{same_refl, same_append, same_parts}

pub data Spells (g : Grammar) : ℕ → List ℕ → Type 0 where
  empty : {r : ℕ} → row g r ≡ Empty → Spells g r []
  range : {r lo hi b : ℕ} → row g r ≡ Range lo hi → lo ≤ b → b ≤ hi → Spells g r (b ∷ [])
  text : {r off len : ℕ} → row g r ≡ Text off len → Spells g r (stretch 0 g.text off len)
  alt_left : {r a b : ℕ} {w : List ℕ} → row g r ≡ Alt a b → Spells g a w → Spells g r w
  alt_right : {r a b : ℕ} {w : List ℕ} → row g r ≡ Alt a b → Spells g b w → Spells g r w
  seq : {r a b : ℕ} {u v : List ℕ} → row g r ≡ Seq a b → Spells g a u → Spells g b v → Spells g r (u ++ v)
  star_none : {r a : ℕ} → row g r ≡ Star a → Spells g r []
  star_more : {r a : ℕ} {u v : List ℕ} → row g r ≡ Star a → Spells g a u → Spells g r v → Spells g r (u ++ v)

-- a word spelled that is the same as w
pub record Spelled (g : Grammar) (r : ℕ) (w : List ℕ) : Type 0 where
  pub word : List ℕ
  pub spells : Spells g r word
  pub same : Same word w

module _ (g : Grammar) where
  pub spelled : {r : ℕ} {w : List ℕ} → Derives g r w → Spelled g r w
  spelled (Derives.empty e) = record { word = []; spells = Spells.empty e; same = tt }
  spelled (Derives.range {a = a} e l h s) = record { word = a ∷ []; spells = Spells.range e l h; same = (s, tt) }
  spelled (Derives.text e s) = record { word = stretch 0 g.text _ _; spells = Spells.text e; same = s }
  spelled (Derives.alt_left e d) = let x = spelled d in record { word = x.word; spells = Spells.alt_left e x.spells; same = x.same }
  spelled (Derives.alt_right e d) = let x = spelled d in record { word = x.word; spells = Spells.alt_right e x.spells; same = x.same }
  spelled (Derives.seq {u = u} {v = v} e c d) =
      let x = spelled c in
      let y = spelled d in
      record { word = x.word ++ y.word; spells = Spells.seq e x.spells y.spells; same = same_append x.word u y.word v x.same y.same }
  spelled (Derives.star_none e) = record { word = []; spells = Spells.star_none e; same = tt }
  spelled (Derives.star_more {u = u} {v = v} e c d) =
      let x = spelled c in
      let y = spelled d in
      record { word = x.word ++ y.word; spells = Spells.star_more e x.spells y.spells; same = same_append x.word u y.word v x.same y.same }

  pub spells_derives : {r : ℕ} {x : List ℕ} → Spells g r x → (w : List ℕ) → Same x w → Derives g r w
  spells_derives (Spells.empty e) [] s = Derives.empty e
  spells_derives (Spells.empty e) (c ∷ w) s = absurd s
  spells_derives (Spells.range e l h) [] s = absurd s
  spells_derives (Spells.range e l h) (c ∷ []) s = Derives.range e l h s.0
  spells_derives (Spells.range e l h) (c ∷ d ∷ w) s = absurd s.1
  spells_derives (Spells.text e) w s = Derives.text e s
  spells_derives (Spells.alt_left e d) w s = Derives.alt_left e (spells_derives d w s)
  spells_derives (Spells.alt_right e d) w s = Derives.alt_right e (spells_derives d w s)
  spells_derives (Spells.seq {r = r} {u = u} {v = v} e c d) w s =
      let p = same_parts u v w s in
      rw p.joined (Derives.seq e (spells_derives c p.first p.same_first) (spells_derives d p.second p.same_second))
  spells_derives (Spells.star_none e) [] s = Derives.star_none e
  spells_derives (Spells.star_none e) (c ∷ w) s = absurd s
  spells_derives (Spells.star_more {r = r} {u = u} {v = v} e c d) w s =
      let p = same_parts u v w s in
      rw p.joined (Derives.star_more e (spells_derives c p.first p.same_first) (spells_derives d p.second p.same_second))

  -- the spelled word itself
  pub spells_itself : {r : ℕ} {w : List ℕ} → Spells g r w → Derives g r w
  spells_itself {w = w} d = spells_derives d w (same_refl w)

  -- the empty word is the same as no other
  pub spells_nil : {r : ℕ} → Derives g r [] → Spells g r []
  spells_nil {r} d = go (spelled d)
    where
      go : Spelled g r [] → Spells g r []
      go x = nil x.word x.spells x.same
        where
          nil : (w : List ℕ) → Spells g r w → Same w [] → Spells g r []
          nil [] s h = s
          nil (b ∷ w) s h = absurd h
