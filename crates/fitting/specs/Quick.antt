-- The fast way over a record: its row is told, by either rule, or nothing is.
use Rattle.std.specs.Prelude.{ℕ, ◌≡◌, refl, List, length, Option, Some, None, Result, Ok, Err, IfSome}
use Rattle.refusal.specs.declared.Refusal.{Refusal}
use Rattle.lines.specs.declared.Line.{Line}
use Rattle.lines.specs.Lines.{seq_at, first_line}
use Rattle.record.specs.declared.Record.{Record}
use Rattle.table.specs.Fill.{NextOf}
use Rattle.table.specs.Laws.{next_row, next-stop}
use Rattle.indexer.specs.declared.Good.{Good}
use Rattle.indexer.specs.Opened.{step_of}
use Rattle.indexer.specs.RuleLaws.{file-row, file-end, file-refused}
use Rattle.indexer.specs.Quick.{ToldBy}
use Rattle.fitting.specs.declared.Rule.{Rule}
use Rattle.fitting.specs.Complete.{complete}
use Rattle.fitting.specs.Rules.{rule_of, step_by, rows_by}
use Rattle.fitting.specs.EvenLaws.{EvenLinesAt, even-record}

-- ---- a sequence

abbrev pub GoodBy : Rule → List ℕ → ℕ → Option Good → Type 0
GoodBy rule s e r = IfSome r (ToldBy (rule_of rule) s e)

pub even-good : (s : List ℕ) (e : ℕ) (x : Line) → x ≡ first_line (seq_at s e) → (n j : ℕ) → EvenLinesAt s e (Some (n, j)) → ToldBy complete s e (record { first = x; bases = n; next = j })
even-good s e x hx n j v = record { row = λ at d le. even-record s at e d le x hx n j v }

-- ---- a record

abbrev pub QuickBy : Rule → List ℕ → ℕ → Option (Record × ℕ) → Type 0
QuickBy rule s at r = IfSome r (λ t. step_of at (Ok (Some t)) ≡ step_by rule s at)

-- ---- a row

-- what is found at a place of the file is what its rows from there on begin with
pub next-found : (rule : Rule) (s : List ℕ) (at : ℕ) (r : Result (Option (Record × ℕ)) Refusal) → step_of at r ≡ step_by rule s at → NextOf (rows_by rule s at) (rows_by rule s) at (length s) r
next-found rule s at (Ok (Some x)) e = next_row _ _ _ _ x.0 x.1 (file-row (rule_of rule) s at _ e x.0 refl)
next-found rule s at (Ok None) e = next-stop _ _ _ _ (Ok tt) (file-end (rule_of rule) s at _ e refl)
next-found rule s at (Err f) e = next-stop _ _ _ _ (Err f) (file-refused (rule_of rule) s at _ e f refl)
