-- A plan's rows as the paper's.
use Rattle.paper.specs.Rows.{Grammar}
use Rattle.paper.specs.Sheet.{grammar_of}
use Rattle.maker_options.specs.declared.plan.Plan.{Plan}

-- the grammar that a plan's rows are
abbrev pub grammar : Plan → Grammar
grammar p = grammar_of p.sheet.now.bytes.now
