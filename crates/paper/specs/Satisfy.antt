-- When an assertion is met by a word, and when a word satisfies a sheet: the meaning, with no procedure in it.
use Rattle.std.specs.Prelude.{ℕ, ◌≤◌, ◌≡◌, Bool, true, false, List, length}
use Rattle.paper.specs.Tests.{Every}
use Rattle.paper.specs.Compare.{Same, StandsIn}
use Rattle.paper.specs.Rows.{stretch, Derives}
use Rattle.paper.specs.Terms.{term}
use Rattle.paper.specs.Sheet.{Sheet, Claim, Derived, Contains, Equals, ContainsTerm, Assertion, Run, second_run, letter, parts_of, inside}

-- the word that a term comes to where v is w
unfoldable pub term_word : Sheet → List ℕ → Run → List ℕ
term_word s w r = term (λ b. b) s.grammar.text w (parts_of s r)

-- the claim holds of its term's word t and its second term's word u
abbrev pub Holds : Sheet → Claim → List ℕ → List ℕ → Type 0
Holds s (Derived r) t u = Derives s.grammar r t
Holds s (Contains a b) t u = StandsIn (stretch 0 s.grammar.text a b) t
Holds s (Equals a b) t u = Same t u
Holds s (ContainsTerm a b) t u = StandsIn u t

-- "sign 0 asserts, 1 denies"
abbrev pub Signed : Bool → Type 0 → Type 0
Signed false H = H
Signed true H = H → ⊥

-- "if a cut in any of its terms reaches past the end of v .., the assertion is not met, asserted or denied"
pub record Met (s : Sheet) (w : List ℕ) (a : Assertion) : Type 0 where
  pub within : inside s (length w) a ≡ true
  pub holds : Signed a.denied (Holds s a.claim (term_word s w a.term) (term_word s w (second_run a.claim)))

-- v is made only of letters
abbrev pub Letters : Sheet → List ℕ → Type 0
Letters s w = Every (λ b. letter s b ≡ true) w

-- a key that satisfies: of letters, of an allowed length, every assertion met ("with no assertions every word satisfies")
pub record Satisfies (s : Sheet) (w : List ℕ) : Type 0 where
  pub letters : Letters s w
  pub least : s.shortest ≤ length w
  pub most : length w ≤ s.longest
  pub met : Every (Met s w) s.assertions
