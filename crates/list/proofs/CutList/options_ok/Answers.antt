use mathlib.Core.Path.{◌∙◌}
use borrow.Author.Rules.{rules}
use Rattle.std.proofs.Common.{tests}
use Rattle.std.proofs.Math.Nat.{sub-zero}
use Rattle.std.proofs.lemmas.Iterator.{YieldsList-from_range}
use Rattle.std.proofs.lemmas.Iterator.Search.{all_from_yields_List}
use Rattle.list.proofs.Each.{all_range}
use Rattle.list.specs.Read.{option_from}
use Rattle.list.proofs.CutList.options_ok.Goals as goal

pub returns : goal.returns
returns c =
    let a = c.args in
    let f = option_from a.self.now.bytes.now a.self.now.text a.m a.o in
    all_from_yields_List f _ _ c.all.result c.all.ensures.ran (YieldsList-from_range 0 a.count a.count (search rules) (sub-zero a.count)) (λ x b q k. search (rules, tests)) ∙ all_range f a.count
