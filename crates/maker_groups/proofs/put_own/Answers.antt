use mathlib.Core.Logic.{inl, inr}
use native.Mathlib.Omega.{arith}
use borrow.Author.Rules.{rules}
use borrow.Author.Tests.{eq-eqb, ne_eqb}
use Rattle.paper.specs.Cuts.{Byte, Stretch, own_opts}
use Rattle.maker_options.proofs.Options.{splits_length}
use Rattle.maker_groups.proofs.Writing.{options_none, options_one}
use Rattle.maker_groups.proofs.put_own.Goals as goal

pub put_option-requires : goal.put_option-requires
unfolding own_opts
put_option-requires c = omega (arith, rw (c.in-Range.is, eq-eqb _ _ c.if-m-eq1.true) at c.requires.2)

pub returns-in-Range : goal.returns-in-Range
unfolding own_opts
returns-in-Range c = rw (c.in-Range.is, eq-eqb _ _ c.if-m-eq1.true) (options_one (Byte _ _) c.put_option.ensures)

pub put_option-requires-in-Text : goal.put_option-requires-in-Text
unfolding own_opts
put_option-requires-in-Text c = omega (arith, rw (c.in-Text.is, eq-eqb _ _ c.if-len-m.true) at c.requires.2)

pub returns-in-Text : goal.returns-in-Text
unfolding own_opts
returns-in-Text c = rw (c.in-Text.is, eq-eqb _ _ c.if-len-m.true) (options_one (Stretch _ _) c.put_option-in-Text.ensures)

pub put_splits-requires : goal.put_splits-requires
unfolding own_opts
put_splits-requires c = (search rules, search rules, rw (c.in-Seq.is, splits_length) at c.requires.2)

pub returns-in-Seq : goal.returns-in-Seq
unfolding own_opts
returns-in-Seq c = rw c.in-Seq.is c.put_splits.ensures

pub put_splits-requires-in-Star : goal.put_splits-requires-in-Star
unfolding own_opts
put_splits-requires-in-Star c = (search rules, search rules, rw (c.in-Star.is, splits_length) at c.requires.2)

pub returns-in-Star : goal.returns-in-Star
unfolding own_opts
returns-in-Star c = rw c.in-Star.is c.put_splits-in-Star.ensures

pub returns-in-Empty : goal.returns-in-Empty
unfolding own_opts
returns-in-Empty c = elim c.in-Empty.is [ inl e ↦ rw e (options_none _ _) | inr w ↦ rw w.2 (options_none _ _) ]

-- a range at another length than 1
pub returns-in-Range-2 : goal.returns-in-Range-2
unfolding own_opts
returns-in-Range-2 c = rw (c.in-Range.is, ne_eqb _ _ c.if-m-eq1.false) (options_none _ _)

-- a text of another length
pub returns-in-Range-2-2 : goal.returns-in-Range-2-2
unfolding own_opts
returns-in-Range-2-2 c = rw (c.in-Text.is, ne_eqb _ _ c.if-len-m.false) (options_none _ _)
