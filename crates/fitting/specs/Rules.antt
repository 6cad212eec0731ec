-- Both rules: what a record and a whole file give by each.
use Rattle.std.specs.Prelude.{ℕ, List}
use Rattle.table.specs.Fill.{Found}
use Rattle.indexer.specs.declared.Step.{Step}
use Rattle.indexer.specs.Rule.{SequenceRule, record_by, file_by, call_by}
use Rattle.indexer.specs.Index.{ported}
use Rattle.fitting.specs.declared.Rule.{Rule}
use Rattle.fitting.specs.declared.Rule.TheVariants.{Strict, Complete}
use Rattle.fitting.specs.Complete.{complete}

abbrev pub rule_of : Rule → SequenceRule
rule_of Strict = ported
rule_of Complete = complete

-- the record at an offset
abbrev pub step_by : Rule → List ℕ → ℕ → Step
step_by rule = record_by (rule_of rule)

-- the rows of a file from an offset on
abbrev pub rows_by : Rule → List ℕ → ℕ → Found
rows_by rule = file_by (rule_of rule)

-- the call, with a table of so many rows: the size limit first
abbrev pub rows_in : Rule → List ℕ → ℕ → Found
rows_in rule = call_by (rule_of rule)
