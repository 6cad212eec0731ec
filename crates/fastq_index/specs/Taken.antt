-- A record that the indexer of FASTQ takes, by its lines: what it found to give this row.
use Rattle.std.specs.Prelude.{ℕ, ◌+◌, ◌≤◌, ◌<◌, ◌≡◌, refl, List, [], ◌∷◌, map, Bool, true, false, cond, length, take, eqb, ltb, Some, None, Result, Ok, Err, ⊤}
use Rattle.std.proofs.Common.{ap, ◌∙◌, ltb-true, ltb-false, arith}
use Rattle.std.proofs.lemmas.Bool.{eqb-false}
use Rattle.refusal.specs.declared.Refusal.{Refusal}
use Rattle.definition.specs.declared.Fault.{Fault}
use Rattle.refusal.specs.declared.Refusal.TheVariants.{NoBases}
use Rattle.lines.specs.Lines.{part, line_end, content_of, bases_of, sum_widths}
use Rattle.lines.specs.Laws.{lines_at-cut}
use Rattle.lines.specs.declared.Span.{Span}
use Rattle.definition.specs.Definition.{marked_says}
use Rattle.definition.specs.declared.Definition.{Definition}
use Rattle.indexer.specs.Index.{line_of}
use Rattle.fastq.specs.Fastq.{lines_at, body_of, from_plus, rest_of, sequence_of, qualities_of, row_for, qualities_judged, sequence_judged, sequence_says, defined_says, record_at}
use Rattle.fastq.specs.RecordLaws.{record-end}
use Rattle.fastq.specs.declared.QualityRow.{QualityRow}
use Rattle.fastq.specs.declared.Step.{Step}

-- some lines are a good sequence: the first has a base, and those behind it are like it
pub record GoodBody (ls : List (List ℕ)) : Type 0 where
  pub line : List ℕ
  pub rest : List (List ℕ)
  pub is : ls ≡ line ∷ rest
  pub some : 1 ≤ length (bases_of line)
  pub even : rest_of (line_of line) rest ≡ Ok tt

-- the lines behind a definition line make a record, whose definition line begins at an offset and has n bytes
pub record GoodLines (at n : ℕ) (name : Span) (ls : List (List ℕ)) (x : QualityRow) (next : ℕ) : Type 0 where
  pub body : GoodBody (body_of ls)
  pub plus_line : List ℕ
  pub behind : List (List ℕ)
  pub plus : from_plus ls ≡ plus_line ∷ behind
  pub fit : qualities_of (map line_of (body_of ls)) behind ≡ Ok tt
  pub row : x ≡ row_for at n name (body_of ls) (length plus_line)
  pub on : next ≡ at + n + sum_widths (body_of ls) + length plus_line + sum_widths (take (length (body_of ls)) behind)

-- the definition line at an offset
abbrev pub def_at : List ℕ → ℕ → List ℕ
def_at s at = part s at (line_end s at)

-- the record at an offset of a file gives a row, and the next begins at another
pub record Taken (s : List ℕ) (at : ℕ) (x : QualityRow) (next : ℕ) : Type 0 where
  pub here : at < length s
  pub said : Definition
  pub defined : marked_says 64 (content_of (def_at s at)) ≡ Ok said
  pub good : GoodLines at (length (def_at s at)) said.name (lines_at s (line_end s at)) x next

-- ---- what is taken is so

good-body : (at : ℕ) (ls : List (List ℕ)) → sequence_of at ls ≡ Ok tt → GoodBody ls
unfolding sequence_of
good-body at [] e = let z : ◌≡◌ {A = ℕ} 0 1 = cc in absurd (omega arith)
good-body at (l ∷ ls) e = go (eqb (length (bases_of l)) 0) refl e
  where
    go : (t : Bool) → eqb (length (bases_of l)) 0 ≡ t → cond t (Err (NoBases (at + length l))) (rest_of (line_of l) ls) ≡ Ok tt → GoodBody (l ∷ ls)
    go true q k = let z : ◌≡◌ {A = ℕ} 0 1 = cc in absurd (omega arith)
    go false q k = record { line = l; rest = ls; is = refl; some = omega (arith, eqb-false (length (bases_of l)) 0 q); even = k }

good-lines : (at n : ℕ) (name : Span) (ls : List (List ℕ)) (x : QualityRow) → (sequence_says at n name ls).answer ≡ Ok (Some x) → GoodLines at n name ls x (sequence_says at n name ls).next
unfolding sequence_says
good-lines at n name ls x e = go (sequence_of (at + n) (body_of ls)) refl (from_plus ls) refl e
  where
    last : (b : GoodBody (body_of ls)) (p : List ℕ) (qs : List (List ℕ)) → from_plus ls ≡ p ∷ qs → (v : Result ⊤ Refusal) → qualities_of (map line_of (body_of ls)) qs ≡ v
        → (qualities_judged at n name (body_of ls) (length p) qs v).answer ≡ Ok (Some x) → GoodLines at n name ls x (qualities_judged at n name (body_of ls) (length p) qs v).next
    last b p qs h (Err y) q k = let z : ◌≡◌ {A = ℕ} 0 1 = cc in absurd (omega arith)
    last b p qs h (Ok tt) q k = record { body = b; plus_line = p; behind = qs; plus = h; fit = q; row = cc; on = refl }

    go : (v : Result ⊤ Refusal) → sequence_of (at + n) (body_of ls) ≡ v → (rest : List (List ℕ)) → from_plus ls ≡ rest
        → (sequence_judged at n name (body_of ls) rest v).answer ≡ Ok (Some x) → GoodLines at n name ls x (sequence_judged at n name (body_of ls) rest v).next
    go (Err y) q rest h k = let z : ◌≡◌ {A = ℕ} 0 1 = cc in absurd (omega arith)
    go (Ok tt) q [] h k = let z : ◌≡◌ {A = ℕ} 0 1 = cc in absurd (omega arith)
    go (Ok tt) q (p ∷ qs) h k = last (good-body (at + n) (body_of ls) q) p qs h (qualities_of (map line_of (body_of ls)) qs) refl k

taken_here : (s : List ℕ) (at : ℕ) (x : QualityRow) → at < length s → (record_at s at).answer ≡ Ok (Some x) → Taken s at x (record_at s at).next
unfolding record_at
taken_here s at x h e = rw (lines_at-cut s at h) (said (marked_says 64 (content_of (def_at s at))) refl (rw (lines_at-cut s at h) at e))
  where
    said : (p : Result Definition Fault) → marked_says 64 (content_of (def_at s at)) ≡ p → (defined_says at (length (def_at s at)) (lines_at s (line_end s at)) p).answer ≡ Ok (Some x)
        → Taken s at x (defined_says at (length (def_at s at)) (lines_at s (line_end s at)) p).next
    said (Ok d) q k = record { here = h; said = d; defined = q; good = good-lines at (length (def_at s at)) d.name (lines_at s (line_end s at)) x k }
    said (Err f) q k = let z : ◌≡◌ {A = ℕ} 0 1 = cc in absurd (omega arith)

pub record-taken : (s : List ℕ) (at : ℕ) (x : QualityRow) → (record_at s at).answer ≡ Ok (Some x) → Taken s at x (record_at s at).next
record-taken s at x e = go (ltb at (length s)) refl
  where
    go : (t : Bool) → ltb at (length s) ≡ t → Taken s at x (record_at s at).next
    go true h = taken_here s at x (ltb-true _ _ h) e
    go false h =
        let q : Ok None ≡ Ok (Some x) = ap (λ (r : Step). r.answer) (record-end s at (ltb-false _ _ h)) ∙ e in
        let z : ◌≡◌ {A = ℕ} 0 1 = cc in
        absurd (omega arith)
