-- What the judgement, the walk and the answer mean. The statements are complete; their proofs lie in the files cited.
-- Assumes nothing.
use Prim.Native.Nat.{ℕ, ◌+◌, ◌≤◌, ◌<◌}
use mathlib.Core.Path.{◌≡◌, refl, sym, ◌∙◌}
use mathlib.Core.Bool.{Bool, true, ◌&&◌}
use mathlib.Core.Logic.{◌↔◌, ◌⊎◌, inl, inr}
use mathlib.Core.List.{List, ◌++◌}
use native.Mathlib.Omega.{arith}
use lib.Dec.{leb}
use lib.ListN.{length}
use borrow.Author.Tests.{le-leb, lt-ltb}
use Rattle.paper.specs.Bytes.{u8_at}
use Rattle.paper.specs.Trailer.{count_of, record_at}
use Rattle.paper.specs.Records.{letter_ok}
use Rattle.paper.specs.Terms.{places_of}
use Rattle.paper.specs.Sheet.{Span, Sheet, letter, of_table, table_of, sheet_of, span_at}
use Rattle.paper.specs.Satisfy.{Letters, Satisfies}
use Rattle.paper.specs.Open.{term_on, Open}
use Rattle.paper.specs.Opens.{opens}
use Rattle.paper.specs.Walk.{Walked, found, none, count}
use Rattle.paper.specs.Order.{Before, FirstOf}
use Rattle.paper.specs.Answers.{Said, Found, None, Spent, Refused, whole, walk_of, under}
use Rattle.paper.proofs.Tests.{and_intro, any_intro, any_of_table}
use Rattle.paper.proofs.Filling.{letter_fills}
use Rattle.paper.proofs.Opening.{open_opens, opens_open, open_full, prefix_open}
use Rattle.paper.proofs.Walking.{walk_finds}
use Rattle.paper.proofs.Budget.{count_walk, under_above, under_within, under_spent, under_cases}

-- some byte is a letter, as on every accepted sheet
abbrev pub HasLetter : Sheet → Type 0
HasLetter s = (b : ℕ) × (letter s b ≡ true)

-- ---- the judgement of a prefix

-- the test decides "open" as the paper words it, each place filled separately; without a letter an unknown place has no filling, which the
-- test for a contained text does not look for
pub opens_right : (s : Sheet) → HasLetter s → (n : ℕ) (p : List ℕ) → (opens s n p ≡ true) ↔ Open s n p
opens_right s l n p = (opens_open s n p (λ r. letter_fills s l.0 l.1 (term_on s (places_of n p) r)), open_opens s n p)

-- an open prefix of n letters, n an allowed length, is exactly a key that satisfies
pub open_satisfies : (s : Sheet) (w : List ℕ) → Letters s w → s.shortest ≤ length w → length w ≤ s.longest → Open s (length w) w ↔ Satisfies s w
open_satisfies s w h a b = (λ o. record { letters = h; least = a; most = b; met = (open_full s w).0 o }, λ k. (open_full s w).1 k.met)

-- each prefix of a key that satisfies is open at the key's length
pub prefixes_open : (s : Sheet) (p v : List ℕ) → Satisfies s (p ++ v) → Open s (length (p ++ v)) p
prefixes_open = prefix_open

-- ---- the walk

-- the walk's outcome is the first key that satisfies, or none where there is none
pub walk_right : (s : Sheet) → FirstOf (Satisfies s) (walk_of s)
walk_right = walk_finds

-- none exactly where no key satisfies
pub none_right : (s : Sheet) → ((t : ℕ) × (walk_of s ≡ none t)) ↔ ((u : List ℕ) → Satisfies s u → ⊥)
none_right s = (λ e. rw e.1 at (walk_right s), λ h. go h (walk_of s) (walk_right s))
  where
    go : ((u : List ℕ) → Satisfies s u → ⊥) → (o : Walked) → FirstOf (Satisfies s) o → (t : ℕ) × (o ≡ none t)
    go h (found w t) r = absurd (h w r.0)
    go h (none t) r = (t, refl)

-- ---- the answer under a budget

-- spent exactly where the walk's full count is above the budget
pub spent_right : (s : Sheet) (b : ℕ) → (under b (walk_of s) ≡ Spent b) ↔ (b < count (walk_of s))
spent_right s b = under_spent b (walk_of s)

-- budget 0 is always spent
pub zero_spent : (s : Sheet) → s.shortest ≤ s.longest → under 0 (walk_of s) ≡ Spent 0
unfolding walk_of
zero_spent s h = under_above 0 (walk_of s) (count_walk (letter s) (opens s) s.shortest s.longest h)

-- a larger budget changes no answer but spent
pub larger_budget : (s : Sheet) (b c : ℕ) → b ≤ c → (under b (walk_of s) ≡ Spent b) ⊎ (under c (walk_of s) ≡ under b (walk_of s))
larger_budget s b c h = go (under_cases b (walk_of s))
  where
    go : ((b < count (walk_of s)) × (under b (walk_of s) ≡ Spent b)) ⊎ ((count (walk_of s) ≤ b) × (under b (walk_of s) ≡ whole (walk_of s)))
        → (under b (walk_of s) ≡ Spent b) ⊎ (under c (walk_of s) ≡ under b (walk_of s))
    go (inl e) = inl e.1
    go (inr e) = inr (under_within c (walk_of s) (omega (arith, e.0)) ∙ sym e.1)

-- the answer is right: found says the first key that satisfies, none that there is none, each within the budget, and spent gives the budget itself
abbrev pub Means : Sheet → ℕ → Said → Type 0
Means s b (Found w t) = Satisfies s w × ((u : List ℕ) → Satisfies s u → Before u w → ⊥) × (t ≤ b)
Means s b (None t) = ((u : List ℕ) → Satisfies s u → ⊥) × (t ≤ b)
Means s b (Spent t) = (t ≡ b) × (b < count (walk_of s))
Means s b (Refused n) = ⊥

pub answer_means : (s : Sheet) (b : ℕ) → Means s b (under b (walk_of s))
answer_means s b = go (walk_of s) refl (walk_right s) (under_cases b (walk_of s))
  where
    go : (o : Walked) → walk_of s ≡ o → FirstOf (Satisfies s) o → ((b < count (walk_of s)) × (under b (walk_of s) ≡ Spent b)) ⊎ ((count (walk_of s) ≤ b) × (under b (walk_of s) ≡ whole (walk_of s)))
        → Means s b (under b (walk_of s))
    go o p r (inl e) = rw e.1 (refl, e.0)
    go (found w t) p r (inr e) = rw (e.1, p) (r.0, r.1, rw p at e.0)
    go (none t) p r (inr e) = rw (e.1, p) (r, rw p at e.0)

-- ---- a sheet read from its bytes

-- the low byte of the first range is a letter
pub first_letter : (s : List ℕ) → 1 ≤ count_of s 0 → letter_ok s (record_at s 0 0) ≡ true → u8_at s (record_at s 0 0) < 256 → HasLetter (sheet_of s)
unfolding sheet_of table_of letter letter_ok span_at
first_letter s h e l =
    let b = u8_at s (record_at s 0 0) in
    let f : Span → Bool = λ r. leb r.low b && leb b r.high in
    let a = any_intro (count_of s 0) (λ k. f (of_table span_at s 0 (0 + k))) 0 h (and_intro (le-leb b b (omega arith)) e) in
    (b, and_intro (lt-ltb b 256 l) (any_of_table f 0 (count_of s 0) (of_table span_at s 0) ∙ a))
