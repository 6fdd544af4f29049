use Prim.Native.Nat.{◌+◌, ◌<◌, ◌≤◌}
use mathlib.Core.Path.{◌≡◌, sym, ap, ◌∙◌}
use native.Mathlib.Omega.{arith}
use native.Mathlib.Nat.{zero-add}
use native.Mathlib.Numerals.{add-one}
use lib.ListN.{length, get_or, set, replicate}
use lib.Seq.{paste, paste-suc, take-length}
use Rattle.std.specs.Prelude.{ℕ, Option, Some, None, List}
use Rattle.std.proofs.lemmas.List.{get_or-map, drop-replicate}
use Rattle.terms.specs.Shown.{known_places}
use Rattle.terms.proofs.Showing.{known_length}
use Rattle.terms.proofs.known.Goals as goal

known_at : (s : List ℕ) (i : ℕ) → i < length s → get_or (known_places s) i None ≡ Some (get_or s i 0)
unfolding known_places
known_at s i h = get_or-map Some s i 0 None h

-- a turn: byte i is written
turn : (s : List ℕ) (i : ℕ) → i < length s → length s ≤ 60 → set (paste (replicate 60 None) 0 (known_places s) i) i (Some (get_or s i 0)) ≡ paste (replicate 60 None) 0 (known_places s) (i + 1)
turn s i h room =
    let l = known_length s in
    let z : i ≡ 0 + i = omega arith in
    let now : List (Option ℕ) = paste (replicate 60 None) 0 (known_places s) i in
    rw add-one
    (ap (λ (k : ℕ). set now k (Some (get_or s i 0))) z ∙ ap (λ (x : Option ℕ). set now (0 + i) x) (sym (known_at s i h))
    ∙ paste-suc (replicate 60 None) 0 (known_places s) i None (omega arith) (omega arith))

pub loop-i-preserved : goal.loop-i-preserved
loop-i-preserved c = ap (λ (of : List (Option ℕ)). set of c.loop-i.i (Some (get_or c.args.bytes.now c.loop-i.i 0))) c.loop-i.invariant ∙ turn c.args.bytes.now c.loop-i.i c.loop-i-test.true c.requires

pub returns : goal.returns
returns c =
    let s = c.args.bytes.now in
    let k = known_length s in
    let e : c.loop-i.i ≡ length s = omega arith in
    c.loop-i.invariant ∙ rw (e, ← k, take-length (known_places s), zero-add (length (known_places s)), drop-replicate {X = Option ℕ} (length (known_places s)) 60 None)
