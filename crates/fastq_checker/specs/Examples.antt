-- Small files and indexes by hand, and what the checker answers. Each is computed.
use Rattle.std.specs.Prelude.{ℕ, ◌≡◌, refl, List, [], ◌∷◌, Ok, Err}
use Rattle.refusal.specs.declared.Refusal.TheVariants.{LineBases, LineAbsent, BytesLeft, NameDiffers, LengthDiffers, BaseElsewhere, ZeroField}
use Rattle.refusal.specs.Numbers.{over_limit}
use Rattle.lines.specs.Lines.{lines, chop, ends, content_of, sum_bases, sum_widths, bases_at, up_from}
use Rattle.lines.specs.Same.{same_bytes}
use Rattle.definition.specs.Definition.{is_space, run, keep, marked_says, fails_at, refusal_of}
use Rattle.record.specs.Place.{place_of}
use Rattle.columns.specs.Fields.{cut_at, numbers_from, field_says}
use Rattle.columns.specs.Decimal.{all_digits, value_from, number_from, digits_of, number_of, plain_number}
use Rattle.index_line.specs.IndexLine.{plain_end, name_in}
use Rattle.indexer.specs.Index.{fits_last}
use Rattle.walking.specs.Places.{first_elsewhere}
use Rattle.fastq.specs.Fastq.{body_of, from_plus, body_at, line_says, rest_of, sequence_of, fits_partner, qualities_of, sequence_says, record_at}
use Rattle.fastq.specs.Parts.{part_of}
use Rattle.fastq_line.specs.SixColumns.{fields_of, content_says, six_line_says, name_of}
use Rattle.fastq_index.specs.File.{rows_of, rows_at}
use Rattle.fastq_checker.specs.Check.{part_lines, offsets_of, entry_says, record_says, records_say, check_of}

-- @s\nAC\nG\n+\nII\nI\n: three bases from offset 3 on, in lines of 2 bases and 3 bytes; qualities from offset 10 on
abbrev file : List ℕ
file = 64 ∷ 115 ∷ 10 ∷ 65 ∷ 67 ∷ 10 ∷ 71 ∷ 10 ∷ 43 ∷ 10 ∷ 73 ∷ 73 ∷ 10 ∷ 73 ∷ 10 ∷ []

-- @s\nAC\nACG
abbrev longer : List ℕ
longer = 64 ∷ 115 ∷ 10 ∷ 65 ∷ 67 ∷ 10 ∷ 65 ∷ 67 ∷ 71 ∷ []

-- the line of a name of one byte and five numbers of one digit, the last of which stands behind a 1
abbrev line : ℕ → ℕ → ℕ → ℕ → ℕ → ℕ → List ℕ
line s n p b w q = s ∷ 9 ∷ n ∷ 9 ∷ p ∷ 9 ∷ b ∷ 9 ∷ w ∷ 9 ∷ 49 ∷ q ∷ 10 ∷ []

-- each index, in the order of the comments:
--   s 3 3 2 3 10      accepted
--   s 3 3 2 3 11      a quality is elsewhere
--   s 3 3 2 4 11      a base is elsewhere too: that is told, not the quality
--   s 3 3 9 9 10      lines of 9 bases, side by side
--   t 3 3 2 3 11      another name
--   s 2 3 2 3 11      another length
--   s 3 3 0 3 10      line bases are 0
--   nothing           no line
--   the first twice   a line is left
-- and of a file that the indexer refuses, what it refuses, whatever the index is
pub examples : (check_of file (line 115 51 51 50 51 48) ≡ Ok tt)
    × (check_of file (line 115 51 51 50 51 49) ≡ Err (BaseElsewhere 1 1))
    × (check_of file (line 115 51 51 50 52 49) ≡ Err (BaseElsewhere 1 3))
    × (check_of file (line 115 51 51 57 57 48) ≡ Err (BaseElsewhere 1 3))
    × (check_of file (line 116 51 51 50 51 49) ≡ Err (NameDiffers 1))
    × (check_of file (line 115 50 51 50 51 49) ≡ Err (LengthDiffers 1))
    × (check_of file (line 115 51 51 48 51 48) ≡ Err (ZeroField 1 4))
    × (check_of file [] ≡ Err (LineAbsent 1))
    × (check_of file (115 ∷ 9 ∷ 51 ∷ 9 ∷ 51 ∷ 9 ∷ 50 ∷ 9 ∷ 51 ∷ 9 ∷ 49 ∷ 48 ∷ 10 ∷ line 115 51 51 50 51 48) ≡ Err (BytesLeft 1))
    × (check_of longer [] ≡ Err (LineBases 3 2))
    × (check_of [] [] ≡ Ok tt)
unfolding check_of over_limit rows_at rows_of record_at sequence_says sequence_of rest_of line_says fits_last body_at body_of from_plus qualities_of fits_partner lines chop ends content_of sum_bases sum_widths bases_at up_from same_bytes marked_says is_space run keep fails_at refusal_of place_of cut_at numbers_from field_says all_digits value_from number_from digits_of number_of plain_number plain_end name_in first_elsewhere part_of fields_of content_says six_line_says name_of part_lines offsets_of entry_says record_says records_say
examples = (refl, refl, refl, refl, refl, refl, refl, refl, refl, refl, refl)
