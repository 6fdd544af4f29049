use borrow.Author.Rules.{rules}
use mathlib.Core.Path.{◌≡◌, refl, sym, ◌∙◌}
use mathlib.Core.Bool.{true≢false}
use lib.Pointwise.{bytes_decides}
use Rattle.workspace.specs.Bits.{four_at, words_at, joined}
use Rattle.workspace.proofs.Room.{both, merge_still, merge_new}
use Rattle.workspace.proofs.merge.Goals.{After-eq}
use Rattle.workspace.proofs.merge.Goals as goal

joins : (c : After-eq) → c.either-both.result ≡ both c.args.ws.now c.args.s c.args.q
joins c = c.either-both.ensures ∙ rw (c.four-old.ensures, c.four.ensures) refl

pub returns-then-eq : goal.returns-then-eq
returns-then-eq c =
    let a = c.args in
    let same = (bytes_decides _ _).0 (sym c.eq.ensures ∙ c.if-eq.true) in
    merge_still a.ws.now a.s a.q (sym (joins (goal.at.returns-then-eq c).After-eq) ∙ same ∙ c.four-old.ensures)

pub returns : goal.returns
unfolding joined four_at
returns c =
    let a = c.args in
    let b = joins (goal.at.returns c).After-eq in
    let e = rw b at c.put_four.ensures in
    let ne : both a.ws.now a.s a.q ≡ words_at a.ws.now a.s → ⊥ = λ h. true≢false (sym ((bytes_decides _ _).1 (b ∙ h ∙ sym c.four-old.ensures)) ∙ sym c.eq.ensures ∙ c.if-eq.false) in
    (e, rw e (merge_new a.ws.now a.s a.q ne c.requires.0 (λ i. search rules)))
