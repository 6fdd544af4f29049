-- Two results that a call's promise allows coincide, and so does all that is left.
-- Assumes nothing.
use Prim.Native.Nat.{ℕ}
use mathlib.Core.Path.{◌≡◌, sym, ap, ◌∙◌}
use mathlib.Core.List.{List}
use Rattle.paper.specs.Answers.{Said, WriteReport, gate_leaves}
use Rattle.paper.specs.Editions.{Move}
use Rattle.paper.specs.Promises.{Solves, Makes, Moves, Gates}

pub solves_coincide : {A : Type 0} (tell : Said → A) (sheet : List ℕ) (budget : ℕ) (work out : List ℕ) (r q : A) (work' work'' out' out'' : List ℕ)
    → Solves tell sheet budget work out r work' out' → Solves tell sheet budget work out q work'' out'' → (r ≡ q) × (work' ≡ work'') × (out' ≡ out'')
solves_coincide tell sheet budget work out r q work' work'' out' out'' a b = (a.said ∙ sym b.said, a.cleared ∙ sym b.cleared, a.wrote ∙ sym b.wrote)

pub makes_coincide : {A : Type 0} (tell : WriteReport → A) (sheet : List ℕ) (row n : ℕ) (space : List ℕ) (r q : A) (space' space'' : List ℕ)
    → Makes tell sheet row n space r space' → Makes tell sheet row n space q space'' → (r ≡ q) × (space' ≡ space'')
makes_coincide tell sheet row n space r q space' space'' a b = (a.said ∙ sym b.said, a.wrote ∙ sym b.wrote)

pub moves_coincide : {A : Type 0} (tell : WriteReport → A) (m : Move) (sheet space : List ℕ) (r q : A) (space' space'' : List ℕ)
    → Moves tell m sheet space r space' → Moves tell m sheet space q space'' → (r ≡ q) × (space' ≡ space'')
moves_coincide tell m sheet space r q space' space'' a b = (a.said ∙ sym b.said, a.wrote ∙ sym b.wrote)

-- the gate's number; where an answer is told by its number, the answer
pub gates_coincide : (list text word work : List ℕ) (k m : ℕ) (work' work'' : List ℕ)
    → Gates list text word work k work' → Gates list text word work m work'' → (k ≡ m) × (work' ≡ work'')
gates_coincide list text word work k m work' work'' a b =
    let e = a.said ∙ sym b.said in
    (e, a.left ∙ ap (λ n. gate_leaves n work) e ∙ sym b.left)

-- answers with the same number are the same where the number gives the answer back
pub told : {A B : Type 0} (number : A → B) (back : B → A) → ((r : A) → back (number r) ≡ r) → (r q : A) → number r ≡ number q → r ≡ q
told number back same r q e = sym (same r) ∙ ap back e ∙ same q
