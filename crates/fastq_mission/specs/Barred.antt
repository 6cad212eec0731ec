-- Why mending a base of a FASTQ file (docs/RULES.md, R55) bars three bytes: for each the smallest file and index that the checker accepts, and no longer
-- accepts once that byte stands for a base. A '>' and an '@' need no bar: they are bases like any other, at the front of a line too.
use Rattle.std.specs.Prelude.{◌≡◌, refl, List, [], ◌∷◌, Result, Ok, Err, ⊤}
use Rattle.std.proofs.Common.{arith}
use Rattle.refusal.specs.declared.Refusal.{Refusal}
use Rattle.ascii.specs.Text.{text}
use Rattle.refusal.specs.Numbers.{over_limit}
use Rattle.refusal.specs.declared.Refusal.TheVariants.{NoBases}
use Rattle.lines.specs.Lines.{lines, chop, ends, content_of, sum_bases, sum_widths, up_from, bases_at}
use Rattle.lines.specs.Same.{same_bytes}
use Rattle.definition.specs.Definition.{is_space, run, keep, marked_says, fails_at, refusal_of}
use Rattle.record.specs.Place.{place_of}
use Rattle.columns.specs.Bytes.{first_where}
use Rattle.columns.specs.Decimal.{all_digits, value_from, number_from, digits_of, number_of, plain_number, digits}
use Rattle.columns.specs.Fields.{cut_at, field_says, numbers_from}
use Rattle.index_line.specs.IndexLine.{plain_end, name_in}
use Rattle.indexer.specs.Index.{fits_last}
use Rattle.walking.specs.Places.{first_elsewhere}
use Rattle.fastq.specs.Fastq.{body_of, from_plus, body_at, line_says, rest_of, sequence_of, fits_partner, qualities_of, sequence_says}
use Rattle.fastq.specs.Fastq as fastq
use Rattle.fastq.specs.Parts.{part_of}
use Rattle.fastq_line.specs.SixColumns.{fields_of, content_says, six_line_says, name_of}
use Rattle.fastq_index.specs.File.{rows_of, rows_at}
use Rattle.fastq_checker.specs.Check.{part_lines, offsets_of, entry_says, record_says, records_say, check_of}
use Rattle.fastq_mission.specs.Mend.{BaseAt}

unfoldable pub asked : List (Result ⊤ Refusal)
asked =
    -- a base, and its index
    check_of (text "@s\nA\n+\nI\n") (text "s\t1\t3\t1\t2\t7\n")
    -- an LF
    ∷ check_of (text "@s\n\n\n+\nI\n") (text "s\t1\t3\t1\t2\t7\n")
    -- a CR at the end of a line; elsewhere it is a base like any other
    ∷ check_of (text "@s\n\r\n+\nI\n") (text "s\t1\t3\t1\t2\t7\n")
    ∷ check_of (text "@s\n\rC\n+\nII\n") (text "s\t2\t3\t2\t3\t8\n")
    -- a '+' at the front of a line; elsewhere it is a base like any other
    ∷ check_of (text "@s\n+\n+\nI\n") (text "s\t1\t3\t1\t2\t7\n")
    ∷ check_of (text "@s\nA+\n+\nII\n") (text "s\t2\t3\t2\t3\t8\n")
    -- an '@', and a '>', at the front of a line
    ∷ check_of (text "@s\n@\n+\nI\n") (text "s\t1\t3\t1\t2\t7\n")
    ∷ check_of (text "@s\n>\n+\nI\n") (text "s\t1\t3\t1\t2\t7\n")
    ∷ []

unfoldable pub answers : List (Result ⊤ Refusal)
answers = Ok tt ∷ Err (NoBases 4) ∷ Err (NoBases 5) ∷ Ok tt ∷ Err (NoBases 3) ∷ Ok tt ∷ Ok tt ∷ Ok tt ∷ []

pub barred : asked ≡ answers
unfolding asked answers over_limit lines chop ends content_of sum_bases sum_widths up_from bases_at same_bytes is_space run keep marked_says fails_at refusal_of place_of first_where all_digits value_from number_from digits_of number_of plain_number digits cut_at field_says numbers_from plain_end name_in fits_last first_elsewhere body_of from_plus body_at line_says rest_of sequence_of fits_partner qualities_of sequence_says fastq.record_at part_of fields_of content_says six_line_says name_of rows_of rows_at part_lines offsets_of entry_says record_says records_say check_of
barred = refl

-- there are bases to mend: the A of the first
pub base-example : BaseAt (text "@s\nA\n+\nI\n") 0 0 3
unfolding lines chop ends content_of sum_bases sum_widths up_from bases_at is_space run keep marked_says fits_last body_of from_plus body_at line_says rest_of sequence_of fits_partner qualities_of sequence_says fastq.record_at part_of rows_of rows_at part_lines offsets_of
base-example = record { record' = omega arith; base = omega arith; place = refl }
