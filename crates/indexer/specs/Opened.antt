-- A place of a file where a record may begin, with its definition line read: what any rule goes on from.
use Rattle.std.specs.Prelude.{ℕ, ◌-◌, ◌≤◌, ◌<◌, ◌≡◌, List, length, Option, Some, None, Result, Ok, Err}
use Rattle.refusal.specs.declared.Refusal.{Refusal}
use Rattle.lines.specs.Lines.{seq_at}
use Rattle.definition.specs.declared.Definition.{Definition}
use Rattle.record.specs.declared.Record.{Record}
use Rattle.indexer.specs.declared.Step.{Step}
use Rattle.indexer.specs.Rule.{SequenceRule, sequence_by, record_by}

-- the step to what is found at an offset: a row, with the offset behind its record; no record; or a refusal. Without a row the place stays
abbrev pub step_of : ℕ → Result (Option (Record × ℕ)) Refusal → Step
step_of at (Ok (Some r)) = record { answer = Ok (Some r.0); next = record { at = r.1 } }
step_of at (Ok None) = record { answer = Ok None; next = record { at = at } }
step_of at (Err x) = record { answer = Err x; next = record { at = at } }

-- a definition line begins at an offset, ends at e and says d: what it says lies in it, and the record is what the lines behind it say, by any rule
pub record Opens (s : List ℕ) (at e : ℕ) (d : Definition) : Type 0 where
  pub begins : at < e
  pub ends : e ≤ length s
  pub name : d.name.start ≤ e - at
  pub description : d.description.start ≤ e - at
  pub by_rule : (rule : SequenceRule) → sequence_by rule at (e - at) d (seq_at s e) ≡ record_by rule s at

-- .. or no record begins there, or its definition line is refused: by any rule
abbrev pub OpenedAt : List ℕ → ℕ → Result (Option (ℕ × Definition)) Refusal → Type 0
OpenedAt s at (Ok (Some o)) = Opens s at o.0 o.1
OpenedAt s at (Ok None) = (rule : SequenceRule) → step_of at (Ok None) ≡ record_by rule s at
OpenedAt s at (Err x) = (rule : SequenceRule) → step_of at (Err x) ≡ record_by rule s at
