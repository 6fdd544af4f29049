use mathlib.Core.Path.{◌≡◌, ap, ◌∙◌}
use lib.ListN.{length, replicate}
use borrow.Author.Rules.{rules}
use Rattle.paper.specs.Answers.{words}
use Rattle.workspace.proofs.clear.Goals as goal

pub returns : goal.returns
unfolding words
returns c =
    let long : length c.args.ws.now ≡ 7564 = search rules in
    c.fill.ensures.after (λ y h. h) ∙ ap (λ n. replicate n 0) long
