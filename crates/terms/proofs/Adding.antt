-- One part behind the places that are there, part by part.
use Prim.Native.Nat.{ℕ, ◌+◌, ◌≤◌}
use mathlib.Core.Path.{◌≡◌, refl, ap}
use mathlib.Core.List.{List, ◌++◌}
use native.Mathlib.Omega.{arith}
use lib.ListN.{length, take, drop}
use Rattle.std.specs.Prelude.{Option}
use Rattle.std.proofs.lemmas.List.{length-take, length-append}
use Rattle.paper.specs.Terms.{Known, Part, Const, All, Cut, piece, full_length}
use Rattle.workspace.specs.Places.{places_in}
use Rattle.terms.specs.declared.places.Places.{Places}
use Rattle.terms.specs.Shown.{placed, shown, known_places, Added}
use Rattle.terms.proofs.Showing.{places_append, placed_length, known_length, part_length, text_known, cut_of, cut_shown}

module _ (text : List ℕ) (p v r : Places) where
  -- the places m, which are the part x, behind p
  more : (x : Part) (m : List (Option ℕ)) → placed r ≡ placed p ++ m → places_in m ≡ piece Known text (shown v) x → length m ≤ full_length v.len x → Added text p v x r
  unfolding shown
  more x m e is n = record {
    same = rw (e, ← is) (places_append (placed p) m);
    len = omega (arith, placed_length p, placed_length r, ap length e, length-append (placed p) m);
  }

  pub add_const : (a b : ℕ) → a + b ≤ length text → placed r ≡ placed p ++ known_places (take b (drop a text)) → Added text p v (Const a b) r
  unfolding piece full_length
  add_const a b h e = more (Const a b) (known_places (take b (drop a text))) e (text_known text a b h) (omega (arith, known_length (take b (drop a text)), part_length text a b h))

  pub add_all : placed r ≡ placed p ++ placed v → Added text p v All r
  unfolding piece full_length shown
  add_all e = more All (placed v) e refl (omega (arith, placed_length v))

  pub add_cut : (a b : ℕ) → placed r ≡ placed p ++ take b (drop a (placed v)) → Added text p v (Cut a b) r
  unfolding piece full_length
  add_cut a b e = more (Cut a b) (cut_of a b v.len v.of) e (cut_shown v a b) (omega (arith, length-take b (drop a (placed v))))
