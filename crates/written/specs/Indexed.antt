-- A written record with bases is indexed: the indexer gives the row worked out from their count and the width; then the end.
use Rattle.std.specs.Prelude.{ℕ, ◌+◌, ◌<◌, min, ◌≡◌, refl, Bool, true, false, cond, drop, Some, None, Ok}
use Rattle.std.proofs.Math.Path.{ap}
use Rattle.std.proofs.Common.{sym, ◌∙◌, length-append, arith, zero-add}
use mathlib.Core.List.{List, [], ◌++◌, append-nil}
use Rattle.std.proofs.Math.ListN.{length}
use Rattle.std.proofs.Math.Seq.{drop-length}
use Rattle.lines.specs.Lines.{lines, seq_of, sum_widths}
use Rattle.record.specs.Description.{described_at}
use Rattle.record.specs.Laws.{described-some}
use Rattle.record.specs.declared.Record.{Record}
use Rattle.indexer.specs.Rule.{sequence_by, record_by}
use Rattle.indexer.specs.Index.{record_at}
use Rattle.writer.specs.Text.{definition_text, contents_of, lines_text, sequence_text, record_text}
use Rattle.writer.specs.Contents.{good-contents, good-seq}
use Rattle.writer.specs.Reads.{Writable, definition_of, line-says, its-name, its-description, record-lines, no_more}
use Rattle.written.specs.ContentLines.{lines_of, widths-text, bases-count, first-is, judged-good}

-- the row of a record that is written at an offset
unfoldable pub row_worked : ℕ → List ℕ → Bool → List ℕ → List ℕ → ℕ → Record
row_worked at name t d bases w =
    record {
      name_start = at + 1;
      name_length = length name;
      length = length bases;
      position = record { 0 = at + length (definition_text name t d) };
      line_bases = min (length bases) w;
      line_width = min (length bases) w + 1;
      description_start = cond t (at + (length name + 2)) 0;
      description_length = cond t (length d) 0;
    }

pub text-long : (name : List ℕ) (t : Bool) (d bases : List ℕ) (w : ℕ) → length (record_text name t d bases w) ≡ length (definition_text name t d) + length (lines_text (contents_of w bases))
unfolding record_text sequence_text
text-long name t d bases w = length-append (definition_text name t d) (lines_text (contents_of w bases))

pub name-said : (name : List ℕ) (t : Bool) (d : List ℕ) → (definition_of name t d).name ≡ record { start = 1; length = length name }
name-said name true d = refl
name-said name false d = refl

pub description-said : (name : List ℕ) (t : Bool) (d : List ℕ) (at : ℕ) → (t ≡ true → 0 < length d)
    → (described_at (at + (definition_of name t d).description.start) (definition_of name t d).description.length ≡ cond t (at + (length name + 2)) 0)
    × ((definition_of name t d).description.length ≡ cond t (length d) 0)
description-said name true d at h = (sym (described-some (at + (length name + 2)) (length d) (λ z. omega (arith, h refl))), refl)
description-said name false d at h = (refl, refl)

-- behind the last byte there is no record
pub ends_at : (s : List ℕ) → record_at s (length s) ≡ record { answer = Ok None; next = record { at = length s } }
unfolding record_by lines
ends_at s = rw (drop-length s)

module _ (name : List ℕ) (t : Bool) (d bases : List ℕ) (w : ℕ) (x : Writable name t d bases w) (some : 0 < length bases) where
  abbrev text : List ℕ
  text = record_text name t d bases w

  -- a record that stands at an offset of a file, and behind which no sequence line follows
  pub indexed-at : (s : List ℕ) (at : ℕ) (rest : List ℕ) → drop at s ≡ record_text name t d bases w ++ rest → seq_of (lines rest) ≡ []
      → record_at s at ≡ record { answer = Ok (Some (row_worked at name t d bases w)); next = record { at = at + length (record_text name t d bases w) } }
  unfolding record_by sequence_by row_worked
  indexed-at s at rest e n =
      let ls : List (List ℕ) = lines_of (contents_of w bases) in
      let seq : seq_of (ls ++ lines rest) ≡ ls = good-seq (contents_of w bases) (good-contents w x.wide (length bases) bases x.based) (lines rest) ∙ ap (λ (k : List (List ℕ)). ls ++ k) n ∙ append-nil ls in
      let said = description-said name t d at (λ q. (its-description name t d bases w x q).some) in
      let behind : at + length (record_text name t d bases w) ≡ at + length (definition_text name t d) + sum_widths ls = omega (arith, text-long name t d bases w, widths-text (contents_of w bases)) in
      rw (e, record-lines name t d bases w x rest, line-says name t d (its-name name t d bases w x) (its-description name t d bases w x), seq, judged-good w x.wide bases some x.based (at + length (definition_text name t d)), behind, bases-count w x.wide bases x.based, first-is w x.wide bases some x.based, name-said name t d, said.0, said.1)

  -- the record by itself: one row, then the end
  pub written-indexed : (record_at text 0 ≡ record { answer = Ok (Some (row_worked 0 name t d bases w)); next = record { at = length text } }) × (record_at text (length text) ≡ record { answer = Ok None; next = record { at = length text } })
  written-indexed = (rw (zero-add (length text)) at (indexed-at text 0 [] (sym (append-nil text)) no_more), ends_at text)
