-- Whether a prefix is open, decided.
use Rattle.std.specs.Prelude.{ℕ, suc, ◌+◌, ◌-◌, Bool, true, false, not, cond, ◌&&◌, ◌||◌, List, eqb, length, get_or}
use Rattle.paper.specs.Tests.{any_below, all_below, any_of, all_of}
use Rattle.paper.specs.Rows.{stretch}
use Rattle.paper.specs.Compare.{same_byte}
use Rattle.paper.specs.Decide.{Pattern, fits, accepts}
use Rattle.paper.specs.Terms.{Place, Known, Unknown, places_of}
use Rattle.paper.specs.Sheet.{Sheet, Claim, Derived, Contains, Equals, ContainsTerm, Assertion, second_run, letter, inside}
use Rattle.paper.specs.Open.{term_on}

-- the bytes that a place may hold: its own, or any letter
unfoldable pub allows : Sheet → Place → ℕ → Bool
allows s (Known x) b = same_byte b x
allows s Unknown b = letter s b

unfoldable pub pattern : Sheet → List Place → Pattern
pattern s T i b = allows s (get_or T i Unknown) b

-- two places can hold the same byte
unfoldable pub meet : Sheet → Place → Place → Bool
meet s (Known x) y = allows s y x
meet s Unknown (Known y) = letter s y
meet s Unknown Unknown = any_below 256 (letter s)

-- the places of U can hold the bytes that those of T hold from place i on
unfoldable pub meet_from : Sheet → List Place → ℕ → List Place → Bool
meet_from s T i U = all_below (length U) (λ j. meet s (get_or T (i + j) Unknown) (get_or U j Unknown))

-- the claim can be made to hold
unfoldable pub can_hold : Sheet → Claim → List Place → List Place → Bool
can_hold s (Derived r) T U = accepts s.grammar (pattern s T) (length T) 0 r
can_hold s (Contains a b) T U = any_below (suc (length T) - b) (λ i. fits (pattern s T) i (stretch 0 s.grammar.text a b))
can_hold s (Equals a b) T U = eqb (length T) (length U) && meet_from s T 0 U
can_hold s (ContainsTerm a b) T U = any_below (suc (length T) - length U) (λ i. meet_from s T i U)

unfoldable pub is_unknown : Place → Bool
is_unknown (Known x) = false
is_unknown Unknown = true

-- the claim can be made to fail
unfoldable pub can_fail : Sheet → Claim → List Place → List Place → Bool
can_fail s c T U = any_of is_unknown T || (any_of is_unknown U || not (can_hold s c T U))

-- an assertion is possible, on the places of its terms
unfoldable pub can : Sheet → Assertion → List Place → List Place → Bool
can s a T U = cond a.denied (can_fail s a.claim T U) (can_hold s a.claim T U)

-- an assertion is possible at n where v has the places W
unfoldable pub possible : Sheet → ℕ → List Place → Assertion → Bool
possible s n W a = inside s n a && can s a (term_on s W a.term) (term_on s W (second_run a.claim))

-- each assertion is
unfoldable pub opens_on : Sheet → ℕ → List Place → Bool
opens_on s n W = all_of (possible s n W) s.assertions

-- the prefix p is open at n
unfoldable pub opens : Sheet → ℕ → List ℕ → Bool
opens s n p = opens_on s n (places_of n p)
