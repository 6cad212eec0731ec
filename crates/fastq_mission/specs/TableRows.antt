-- Rows put in a table of FASTQ's are read back, without their descriptions, which such a table does not hold.
use Rattle.std.specs.Prelude.{ℕ, ◌+◌, ◌*◌, ◌≤◌, ◌<◌, ◌≡◌, refl, List, ◌++◌, length, Ok}
use Rattle.std.proofs.Math.Path.{ap, sym}
use Rattle.std.proofs.Common.{◌∙◌, get_or-append-add, arith, zero-add, add_assoc}
use Rattle.table.specs.Rows.{bad_row, held_of}
use Rattle.table.specs.RowLaws.{sound-row}
use Rattle.fastq.specs.Parts.{part_of}
use Rattle.fastq.specs.declared.Part.{Part}
use Rattle.fastq.specs.declared.Part.TheVariants.{Bases, Qualities}
use Rattle.fastq.specs.declared.QualityRow.{QualityRow}
use Rattle.fastq_table.specs.Rows.{row_words, words_of, numbers_at, row_count, row_at, quality_rows, with_rows, used_at, qualities_at}
use Rattle.table.specs.KindLaws
use Rattle.table.specs.KindLaws.{row_count-rows}
use Rattle.fastq_table.specs.RowLaws.{used-row, used-unused, qualities-some}
use Rattle.fastq_checker.specs.Accepts.{record_at}

-- a row without its description
abbrev pub bare : QualityRow → QualityRow
bare x =
    record {
      «record» = record {
        name_start = x.«record».name_start;
        name_length = x.«record».name_length;
        length = x.«record».length;
        position = x.«record».position;
        line_bases = x.«record».line_bases;
        line_width = x.«record».line_width;
        description_start = 0;
        description_length = 0;
      };
      qualities = x.qualities;
    }

-- numbers in front move the others on
shift : (ws t : List ℕ) (i : ℕ) → numbers_at (ws ++ t) (length ws + i) ≡ numbers_at t i
shift ws t i = simp (add_assoc, get_or-append-add)

module _ (t : List ℕ) (xs : List QualityRow) (h : length xs ≤ row_count t) (k : ℕ) where
  pub rows-read : k < length xs → row_at (with_rows t 0 xs) k ≡ bare (record_at xs k)
  unfolding row_at words_of
  rows-read m =
      ap (λ (i : ℕ). numbers_at (with_rows t 0 xs) (i * row_words)) (sym (zero-add k)) ∙ KindLaws.rows-read quality_rows numbers_at bare shift (λ x rest. refl) t 0 _ xs k (omega arith) m

  -- so a row is in use, for its bases and for its qualities
  pub used-stored : k < length xs → (p : Part) → used_at (with_rows t 0 xs) (length xs) k p ≡ Ok (k, (part_of p (bare (record_at xs k))))
  used-stored m p =
      sym (used-row (with_rows t 0 xs) (length xs) k p (rw (row_count-rows quality_rows t 0 xs) h) m) ∙ ap (λ (x : QualityRow). Ok (k, (part_of p x))) (rows-read m)

  -- and holds a record, if line bases and line width are not 0
  pub held-stored : k < length xs → 1 ≤ (record_at xs k).«record».line_bases → 1 ≤ (record_at xs k).«record».line_width → (p : Part)
      → held_of (used_at (with_rows t 0 xs) (length xs) k p) ≡ Ok (part_of p (bare (record_at xs k)))
  unfolding held_of part_of
  held-stored m b w Bases = ap held_of (used-stored m Bases) ∙ sym (sound-row k (bare (record_at xs k)).«record» (λ e. omega arith) (λ e. omega arith))
  held-stored m b w Qualities = ap held_of (used-stored m Qualities) ∙ sym (sound-row k (part_of Qualities (bare (record_at xs k))) (λ e. omega arith) (λ e. omega arith))

  -- beyond them there is none
  pub held-beyond : length xs ≤ k → (p : Part) → held_of (used_at (with_rows t 0 xs) (length xs) k p) ≡ bad_row k
  unfolding held_of
  held-beyond m p = ap held_of (sym (used-unused (with_rows t 0 xs) (length xs) k p (rw (row_count-rows quality_rows t 0 xs) h) m))

  -- and where its qualities begin
  pub qualities-stored : k < length xs → qualities_at (with_rows t 0 xs) k ≡ (record_at xs k).qualities
  qualities-stored m =
      sym (qualities-some (with_rows t 0 xs) k (rw (row_count-rows quality_rows t 0 xs) (omega arith)) (record_at xs k).qualities (sym (ap (λ (x : QualityRow). x.qualities) (rows-read m))))
