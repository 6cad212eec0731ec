-- Mending a base of a FASTQ file (docs/RULES.md, R55), its first part: one byte of a file that is a base is replaced by a byte other than LF, CR and
-- '+'. The file has the same records, but for that base; every base and every quality stays where it was; and an index that was accepted is accepted
-- still: `mended-accepted`, `mended-checked`. To index the file again gives the same rows, and the same index: `mended-rows`, `mended-index`.
use Rattle.std.specs.Prelude.{ℕ, suc, ◌<◌, ◌≡◌, refl, List, [], ◌∷◌, ◌++◌, length, set, Ok}
use Rattle.std.proofs.Common.{ap, ◌∙◌, length-set, arith}
use Rattle.index_line.specs.IndexLine.{name_in}
use Rattle.fastq.specs.declared.QualityRow.{QualityRow}
use Rattle.fastq_line.specs.RoundTrip.{six_line_of}
use Rattle.fastq_table.specs.Fill.{Found}
use Rattle.fastq_index.specs.File.{file_in}
use Rattle.fastq_checker.specs.Check.{check_of}
use Rattle.fastq_checker.specs.Accepts.{records_of, record_at, Accepts}
use Rattle.fastq_mission.specs.Exactly.{accepted-if, accepted-only-if}
use Rattle.fastq_mission.specs.Written.{line_in, index_text}
use Rattle.fastq_mission.specs.Mend.{BaseAt, Plain}
use Rattle.fastq_mission.specs.MendedLaws.{found-same, records-same, name-same, matches-same}

-- the index lines of some rows, whose names have the same bytes in two files
same_text : (f g : List ℕ) (xs : List QualityRow) → ((r : ℕ) → r < length xs → name_in g (record_at xs r).«record» ≡ name_in f (record_at xs r).«record») → index_text g xs ≡ index_text f xs
unfolding index_text
same_text f g [] h = refl
same_text f g (x ∷ xs) h =
    ap (λ (name : List ℕ). six_line_of name x ++ index_text g xs) (h 0 (omega arith))
    ∙ ap (λ (t : List ℕ). line_in f x ++ t) (same_text f g xs (λ r m. h (suc r) (omega arith)))

module _ (f : List ℕ) (k j o b : ℕ) (x : BaseAt f k j o) (p : Plain b) where
  pub mended-accepted : (i : List ℕ) → Accepts f i → Accepts (set f o b) i
  mended-accepted i a =
      record {
        limits = record { fasta = rw (length-set f o b) a.limits.fasta; index = a.limits.index };
        taken = ap (λ (r : Found). r.stop) (found-same f k j o b x p) ∙ a.taken;
        count = rw (records-same f k j o b x p) a.count;
        each = rw (records-same f k j o b x p) (λ r h. matches-same f k j o b x p r h _ _ (a.each r h));
      }

  pub mended-checked : (i : List ℕ) → check_of f i ≡ Ok tt → check_of (set f o b) i ≡ Ok tt
  mended-checked i h = accepted-if (set f o b) i (mended-accepted i (accepted-only-if f i h))

  -- ---- indexed again

  pub mended-rows : (n : ℕ) → file_in (set f o b) n ≡ file_in f n
  unfolding file_in
  mended-rows n = rw (length-set f o b, found-same f k j o b x p)

  pub mended-index : index_text (set f o b) (records_of (set f o b)) ≡ index_text f (records_of f)
  mended-index = rw (records-same f k j o b x p) (same_text f (set f o b) (records_of f) (λ r h. name-same f k j o b x p r h))
