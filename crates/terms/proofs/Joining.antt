-- A run of parts, a part at a time: cuts inside, and the places of the parts joined.
use Prim.Native.Nat.{ℕ, zero, suc, ◌+◌, ◌-◌, ◌*◌, ◌<◌, ◌≤◌}
use mathlib.Core.Path.{◌≡◌, refl, sym, ap, ◌∙◌}
use mathlib.Core.Bool.{Bool, true, false, true≢false}
use mathlib.Core.List.{List, [], ◌∷◌, ◌++◌, append-nil, append_assoc}
use native.Mathlib.Omega.{arith}
use native.Mathlib.Numerals.{add-one}
use borrow.Author.Tests.{le-leb, lt-leb, leb-true}
use lib.ListN.{length, get_or, take, drop, length-drop}
use lib.Seq.{get_or-take, get_or-drop, length-take-le, take-suc, take_all}
use Rattle.paper.specs.Tests.{all_of}
use Rattle.paper.specs.Trailer.{count_of, record_at}
use Rattle.paper.specs.Records.{part_len, term_len}
use Rattle.paper.specs.Rules.{Rules, shortens}
use Rattle.paper.specs.Terms.{Place, Known, Part, Const, All, Cut, piece, term, full_length, cut_inside}
use Rattle.paper.specs.Sheet.{Run, sheet_of, grammar_of, parts_of, text_of}
use Rattle.paper.specs.Open.{term_on}
use Rattle.paper.proofs.Tests.{or_right, or_false, all_of_at, at_all_of}
use Rattle.sheet.proofs.Contents.{parts_length, part_here}
use Rattle.workspace.specs.Places.{places_in}
use Rattle.terms.specs.declared.places.Places.{Places}
use Rattle.terms.specs.Shown.{shown, Added, Readable}

-- ---- tests in the code's words

pub one_fails : {A : Type 0} (f : A → Bool) (l : List A) (d : A) (i : ℕ) → i < length l → f (get_or l i d) ≡ false → false ≡ all_of f l
one_fails f l d i h e = go (all_of f l) refl
  where
    go : (b : Bool) → all_of f l ≡ b → false ≡ b
    go true q = absurd (true≢false (sym (all_of_at f l d q i h) ∙ e))
    go false q = refl

pub cut_fits : (r : Rules) (a b n : ℕ) → a + b ≤ n → cut_inside r n (Cut a b) ≡ true
unfolding cut_inside
cut_fits r a b n h = rw (le-leb (a + b) n h) (or_right (shortens r) true refl)

pub cut_over_rule : (r : Rules) (a b n : ℕ) → n < a + b → cut_inside r n (Cut a b) ≡ shortens r
unfolding cut_inside
cut_over_rule r a b n h = rw (lt-leb (a + b) n h) (or_false (shortens r))

-- ---- the parts of a run

-- no cut of the first i parts of a run reaches past n
abbrev pub InsideTo : List ℕ → (first n i : ℕ) → Type 0
InsideTo s first n i = (j : ℕ) → j < i → cut_inside (sheet_of s).rules n (get_or (sheet_of s).parts (first + j) All) ≡ true

module _ (s : List ℕ) (r : Run) (run : r.first + r.count ≤ count_of s 3) where
  pub run_length : length (parts_of (sheet_of s) r) ≡ r.count
  unfolding parts_of
  run_length =
      let l = parts_length s in
      length-take-le r.count (drop r.first (sheet_of s).parts) (rw length-drop (omega arith))

  pub run_at : (i : ℕ) → i < r.count → (d : Part) → get_or (parts_of (sheet_of s) r) i d ≡ get_or (sheet_of s).parts (r.first + i) d
  unfolding parts_of
  run_at i h d = get_or-take r.count (drop r.first (sheet_of s).parts) i d h ∙ get_or-drop r.first (sheet_of s).parts i d

  pub inside_all : (n : ℕ) → InsideTo s r.first n r.count → all_of (cut_inside (sheet_of s).rules n) (parts_of (sheet_of s) r) ≡ true
  inside_all n h =
      at_all_of (cut_inside (sheet_of s).rules n) (parts_of (sheet_of s) r) All
      (λ k l. let m : k < r.count = rw run_length at l in rw (run_at k m All) (h k m))

  pub one_past : (n i : ℕ) → i < r.count → cut_inside (sheet_of s).rules n (get_or (sheet_of s).parts (r.first + i) All) ≡ false → false ≡ all_of (cut_inside (sheet_of s).rules n) (parts_of (sheet_of s) r)
  one_past n i l e = one_fails (cut_inside (sheet_of s).rules n) (parts_of (sheet_of s) r) All i (rw run_length l) (ap (cut_inside (sheet_of s).rules n) (run_at i l All) ∙ e)

-- ---- the places, a part at a time

term_snoc : (text : List ℕ) (W : List Place) (ps : List Part) (x : Part) → term Known text W (ps ++ (x ∷ [])) ≡ term Known text W ps ++ piece Known text W x
unfolding term
term_snoc text W [] x = append-nil (piece Known text W x)
term_snoc text W (p ∷ ps) x = rw (term_snoc text W ps x) (sym (append_assoc (piece Known text W p) (term Known text W ps) (piece Known text W x)))

-- a part has at most as many bytes at a length as at a greater one
part_rises : (x : Part) (n m : ℕ) → n ≤ m → full_length n x ≤ full_length m x
unfolding full_length
part_rises (Const a b) n m h = omega arith
part_rises All n m h = h
part_rises (Cut a b) n m h = omega arith

term_rises : (s : List ℕ) (o k m : ℕ) → term_len s o m ≤ term_len s o (m + k)
unfolding term_len
term_rises s o zero m = let z : m + 0 ≡ m = omega arith in rw z (omega arith)
term_rises s o (suc k) m =
    let z : m + suc k ≡ suc (m + k) = omega arith in
    let h = term_rises s o k m in
    rw z (omega arith)

term_more : (s : List ℕ) (o i : ℕ) → term_len s o (suc i) ≡ term_len s o i + part_len s (o + 6 * i)
unfolding term_len
term_more s o i = refl

-- the first i parts of a run have been laid out
pub record Joined (s : List ℕ) (v : Places) (r : Run) (i : ℕ) (p : Places) : Type 0 where
  pub within : i ≤ r.count
  pub same : shown p ≡ term Known (text_of s) (shown v) (take i (parts_of (sheet_of s) r))
  pub low : p.len ≤ term_len s (record_at s 3 r.first) i

-- the part of a run that comes next
abbrev next_part : List ℕ → Run → ℕ → Part
next_part s r i = get_or (sheet_of s).parts (r.first + i) All

module _ (s : List ℕ) (v : Places) (r : Run) (c : Readable s v.len r) where
  next_len : (i : ℕ) → i < r.count → full_length v.len (next_part s r i) ≤ part_len s (record_at s 3 r.first + 6 * i)
  unfolding part_len
  next_len i h =
      let u = c.run in
      let z : record_at s 3 (r.first + i) ≡ record_at s 3 r.first + 6 * i = omega arith in
      rw (part_here s (r.first + i) All (omega arith), ← z) (part_rises _ _ _ c.short)

  pub next_room : (i : ℕ) (p : Places) → Joined s v r i p → i < r.count → p.len + full_length v.len (next_part s r i) ≤ 60
  next_room i p j h =
      let a = next_len i h in
      let l = j.low in
      let f = leb-true (term_len s (record_at s 3 r.first) r.count) _ c.fits in
      let z : suc i + (r.count - suc i) ≡ r.count = omega arith in
      let m = rw z at (term_rises s (record_at s 3 r.first) (r.count - suc i) (suc i)) in
      let e = term_more s (record_at s 3 r.first) i in
      omega arith

  pub join_more : (i : ℕ) (p q : Places) (x : Part) → Joined s v r i p → i < r.count → x ≡ next_part s r i → Added (text_of s) p v x q → Joined s v r (i + 1) q
  join_more i p q x j h e d =
      let u = run_length s r c.run in
      let t = take-suc (parts_of (sheet_of s) r) i All (omega arith) in
      let a = next_len i h in
      let b = j.low in
      let l = d.len in
      let m = term_more s (record_at s 3 r.first) i in
      let y : full_length v.len x ≡ full_length v.len (next_part s r i) = ap (full_length v.len) e in
      record {
        within = omega arith;
        same = d.same ∙ rw (add-one, t, term_snoc (text_of s) (shown v) (take i (parts_of (sheet_of s) r)), j.same, e, run_at s r c.run i h All);
        low = rw add-one (omega arith);
      }

  pub join_end : (i : ℕ) (p : Places) → Joined s v r i p → r.count ≤ i → shown p ≡ term_on (sheet_of s) (shown v) r
  unfolding term_on sheet_of grammar_of
  join_end i p j h =
      let u = run_length s r c.run in
      j.same ∙ ap (term Known (text_of s) (shown v)) (take_all i (parts_of (sheet_of s) r) (omega arith))

pub join_start : (s : List ℕ) (v : Places) (r : Run) (p : Places) → p.len ≡ 0 → Joined s v r 0 p
unfolding shown term places_in
join_start s v r p e = record { within = omega arith; same = rw e; low = rw e (omega arith) }
