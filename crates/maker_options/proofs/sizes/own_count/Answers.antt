use mathlib.Core.Logic.{inl, inr}
use lib.Dec.{eqb}
use Rattle.paper.specs.Cuts.{Byte, Stretch, own_opts}
use Rattle.maker_options.proofs.Options.{one_if, splits_length}
use Rattle.maker_options.proofs.sizes.own_count.Goals as goal

pub returns-in-Empty : goal.returns-in-Empty
unfolding own_opts
returns-in-Empty c = λ q. elim c.in-Empty.is [ inl e ↦ rw e | inr w ↦ rw w.2 ]

pub returns-in-Range : goal.returns-in-Range
unfolding own_opts
returns-in-Range c = λ q. rw (c.in-Range.is, c.from.ensures) (one_if (eqb c.args.m 1) (Byte _ _))

pub returns-in-Text : goal.returns-in-Text
unfolding own_opts
returns-in-Text c = λ q. rw (c.in-Text.is, c.from-in-Text.ensures) (one_if (eqb c.in-Text.len c.args.m) (Stretch _ _))

pub returns-in-Seq : goal.returns-in-Seq
unfolding own_opts
returns-in-Seq c = λ q. elim c.in-Seq.is [ inl w ↦ rw w.2 (splits_length c.args.m _ _) | inr w ↦ rw w.1 (splits_length c.args.m _ q) ]
