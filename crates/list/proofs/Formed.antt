-- What the code that reads a well-formed list needs of it.
-- Assumes nothing.
use Prim.Native.Nat.{ℕ, ◌≤◌, ◌<◌}
use mathlib.Core.Path.{◌≡◌, sym, ap, ◌∙◌}
use mathlib.Core.Bool.{true}
use mathlib.Core.List.{List}
use native.Mathlib.Nat.{zero-add}
use native.Mathlib.Omega.{arith}
use lib.Dec.{leb}
use lib.ListN.{length, get_or}
use borrow.Author.Tests.{leb-true}
use Rattle.paper.specs.Cuts.{Opt, Byte, Stretch, Split, Nil}
use Rattle.paper.specs.Gate.{n_of, rows_of, group_at, group_begin, option_count, head_end, head_at, option_at, opt_of, opts_of, trailer_ok, well_formed}
use Rattle.paper.proofs.Tests.{and_left, and_right, every_at, table_length, table_at}
use Rattle.paper.proofs.Obeys.{Obeys}
use Rattle.paper.proofs.WellFormed.{Formed, formed, formed_obey}

-- an option that obeys with fewer rows obeys with more
pub obeys_more : (text R S m : ℕ) → R ≤ S → (x : Opt) → Obeys text R m x → Obeys text S m x
obeys_more text R S m h (Byte lo hi) o = o
obeys_more text R S m h (Stretch off len) o = o
obeys_more text R S m h (Split k a b) o = (o.0, o.1, omega (arith, o.2), omega (arith, o.3))
obeys_more text R S m h Nil o = o

module _ (l : List ℕ) (text : ℕ) (f : Formed l text) (m r : ℕ) (h : m ≤ n_of l) (u : r < rows_of l) where
  opt : ℕ → Opt
  opt j = opt_of l (option_at (head_at l m r) j)

  pub option_obeys : (j : ℕ) → j < option_count l (head_at l m r) → Obeys text (rows_of l) m (opt_of l (option_at (head_at l m r) j))
  unfolding opts_of opt
  option_obeys j z =
      let e : get_or (opts_of l m r) j Nil ≡ opt j = table_at 0 (option_count l (head_at l m r)) opt Nil j z ∙ ap opt (zero-add j) in
      let v : j < length (opts_of l m r) = rw (table_length 0 (option_count l (head_at l m r)) opt) z in
      rw e at (every_at (Obeys text (rows_of l) m) (opts_of l m r) Nil (formed_obey l text f m r h u) j v)

module _ (l : List ℕ) (text : ℕ) (w : well_formed l text ≡ true) where
  pub right_trailer : (20 ≤ length l) × (trailer_ok l ≡ true)
  unfolding well_formed
  right_trailer = (leb-true 20 (length l) (and_left (leb 20 (length l)) _ w), and_left (trailer_ok l) _ (and_right (leb 20 (length l)) _ w))

  pub begins : (m : ℕ) → m ≤ n_of l → group_begin l m ≡ group_at l m
  begins m h = sym ((formed l text w).begins m h)

  module _ (m r o : ℕ) (h : m ≤ n_of l) (u : r < rows_of l) (e : o ≡ head_at l m r) where
    pub head_inside : head_end l o ≤ length l
    head_inside = rw e (omega (arith, ((formed l text w).heads m r h u).within, (formed l text w).trailer.room))

    pub option_inside : (j : ℕ) → j < option_count l o → Obeys text 256 m (opt_of l (option_at o j))
    option_inside j z =
        obeys_more text (rows_of l) 256 m (formed l text w).trailer.few (opt_of l (option_at o j)) (rw e (option_obeys l text (formed l text w) m r h u j (rw e at z)))
