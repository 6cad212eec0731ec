-- Laws of a line that reads as a name and n numbers, whatever n is: FASTA's index lines have four numbers, FASTQ's five.
use Rattle.std.specs.Prelude.{ℕ, ◌^◌, ◌≤◌, ◌<◌, ◌≡◌, refl, Bool, true, false, ◌&&◌, take, drop, eqb}
use Rattle.std.proofs.Common.{sym, ◌∙◌, true≢false, arith, length-append, length-take-le, take_at, take-take}
use Rattle.std.proofs.Math.Path.{ap}
use mathlib.Core.List.{List, [], ◌∷◌, ◌++◌, map, append_assoc}
use Rattle.std.proofs.Math.ListN.{length}
use Rattle.std.proofs.lemmas.Bool.{eqb-false}
use Rattle.lines.specs.Lines.{content_of}
use Rattle.lines.specs.Laws.{content-le, content-front}
use Rattle.record.specs.declared.Record.{Record}
use Rattle.columns.specs.Decimal.{decimal_of}
use Rattle.columns.specs.Fields.{cut_at, tabbed, text_of, numbers_from}
use Rattle.columns.specs.Reading.{field_len, field_len-le, behind, cut-first}
use Rattle.index_line.specs.Columns.{entry_read, content_says}
use Rattle.columns.specs.Numbers.{Reads, both, reads-allowed, reads-text}
use Rattle.columns.specs.Cut.{cut-text, cut_most}
use Rattle.index_line.specs.IndexLine.{record_of, plain_end}
use Rattle.index_line.specs.Ends.{plain-content}

-- ---- the content of a line, by its first field

pub content-says : {Entry : Type 0} (entry : ℕ → List ℕ → Bool → Entry) (n line : ℕ) (l : List ℕ) → (length l ≡ 0 → ⊥)
    → content_says entry n line l ≡ entry_read entry (field_len n l) (numbers_from line 2 n (behind n (drop (field_len n l) l)))
content-says entry n line [] h = absurd (h refl)
content-says entry n line (b ∷ l) h =
    rw (cut-first n (b ∷ l))
    (ap (λ (k : ℕ). entry_read entry k (numbers_from line 2 n (behind n (drop (field_len n (b ∷ l)) (b ∷ l))))) (length-take-le _ _ (field_len-le n (b ∷ l))))

-- ---- its numbers

-- a record whose numbers can stand in a line: they fit 64 bits, and line bases and line width are not 0
pub record Lined (x : Record) : Type 0 where
  pub some-bases : 1 ≤ x.line_bases
  pub some-width : 1 ≤ x.line_width
  pub fits-length : x.length < 2 ^ 64
  pub fits-position : x.position.0 < 2 ^ 64
  pub fits-bases : x.line_bases < 2 ^ 64
  pub fits_width : x.line_width < 2 ^ 64

not-zero : (v : ℕ) → (eqb v 0 && true) ≡ false → 1 ≤ v
not-zero v h = go (eqb v 0) refl h
  where
    go : (t : Bool) → eqb v 0 ≡ t → (t && true) ≡ false → 1 ≤ v
    go true e k = absurd (true≢false k)
    go false e k = omega (arith, eqb-false v 0 e)

-- the first four numbers that were read
pub numbers-lined : {n : ℕ} {fs : List (List ℕ)} {vs : List ℕ} {p : Bool} → Reads 2 n fs vs p → 4 ≤ n → (m : ℕ) → Lined (record_of m vs)
numbers-lined r h m =
    let a = reads-allowed r in
    record {
      some-bases = not-zero _ (a 2 (omega arith)).1;
      some-width = not-zero _ (a 3 (omega arith)).1;
      fits-length = (a 0 (omega arith)).0;
      fits-position = (a 1 (omega arith)).0;
      fits-bases = (a 2 (omega arith)).0;
      fits_width = (a 3 (omega arith)).0;
    }

module _ (n : ℕ) (l name : List ℕ) (fs : List (List ℕ)) (e : cut_at n (content_of l) ≡ name ∷ fs) where
  -- the name is the front of the line
  pub name-front : (take (length name) l ≡ name) × (length name ≤ length l)
  name-front =
      let c = cut-text n (content_of l) name fs e in
      let m : length name ≤ length (content_of l) = rw c (omega (arith, length-append name (tabbed fs))) in
      let t : take (length name) (content_of l) ≡ name = rw c (take_at name (tabbed fs) (length name) refl) in
      (sym (take-take (length name) (length (content_of l)) l m) ∙ ap (take (length name)) (content-front l) ∙ t, omega (arith, content-le l))

  -- a plain line is what is written of its name and its numbers
  pub plain-text : (vs : List ℕ) (p : Bool) → Reads 2 n fs vs p → (plain_end l && p) ≡ true → text_of name vs ≡ l
  unfolding text_of
  plain-text vs p r h =
      let t = both (plain_end l) p h in
      let few : length fs ≤ n = omega (arith, cut_most n (content_of l), ap length e) in
      let text : map decimal_of vs ≡ fs = reads-text r t.1 few in
      let whole : l ≡ name ++ (tabbed fs ++ (10 ∷ [])) = plain-content l t.0 ∙ rw (cut-text n (content_of l) name fs e, append_assoc) in
      rw text (sym whole)
