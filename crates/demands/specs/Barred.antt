-- Why mending a base (docs/RULES.md, R55) bars three bytes: for each there is a smallest file and index that the checker accepts, and no longer accepts
-- once that byte replaces a base. Each question goes to wakeluri_check's own definition, as in Marked.antt.
use Rattle.std.specs.Prelude.{◌≡◌, refl, List, [], ◌∷◌}
use Rattle.refusal.specs.Numbers.{numbers_of, over_limit}
use Rattle.output.specs.Outcome.{Outcome}
use Rattle.lines.specs.Lines.{lines, chop, ends, content_of, seq_of, sum_bases, sum_widths, up_from, bases_at}
use Rattle.lines.specs.Groups.{groups}
use Rattle.lines.specs.Same.{same_bytes}
use Rattle.definition.specs.Definition.{is_space, run, keep, refusal_of}
use Rattle.definition.specs.Definition as definition
use Rattle.record.specs.Place.{place_of, places_from, offset_of, has_place, address_of}
use Rattle.columns.specs.Bytes.{first_where}
use Rattle.columns.specs.Decimal.{all_digits, value_from, number_from, digits_of, number_of, plain_number, digits}
use Rattle.columns.specs.Fields.{cut_at, field_says, numbers_from}
use Rattle.index_line.specs.IndexLine.{fields_of, plain_end, name_of}
use Rattle.index_line.specs.IndexLine as index
use Rattle.walking.specs.Places.{first_elsewhere}
use Rattle.checker.specs.Check as checker
use Rattle.checker.specs.Check.{entry_says, against_lines, record_says, records_say, check_of}
use Rattle.wakeluri.specs.declared.answer.Answer.{Answer}
use Rattle.wakeluri.specs.Answer.{verdict_answer}
use Rattle.demands.specs.Marked.{fine_with, refused_with, checked}

unfoldable pub asked : List (Outcome Answer)
asked =
    -- two bases, and their index
    checked ">s\nAC\n" "s\t2\t3\t2\t3\n"
    -- an LF: for the first base, and for the last
    ∷ checked ">s\n\nC\n" "s\t2\t3\t2\t3\n"
    ∷ checked ">s\nA\n\n" "s\t2\t3\t2\t3\n"
    -- a CR at the end of a line; elsewhere it is a base like any other
    ∷ checked ">s\nA\r\n" "s\t2\t3\t2\t3\n"
    ∷ checked ">s\n\rC\n" "s\t2\t3\t2\t3\n"
    -- a '>' at the front of a line; elsewhere it is a base like any other
    ∷ checked ">s\n>C\n" "s\t2\t3\t2\t3\n"
    ∷ checked ">s\nA>\n" "s\t2\t3\t2\t3\n"
    ∷ []

unfoldable pub answers : List (Outcome Answer)
answers =
    fine_with 0 ""
    ∷ refused_with 22 1 0 ""
    ∷ refused_with 22 1 0 ""
    ∷ refused_with 22 1 0 ""
    ∷ fine_with 0 ""
    ∷ refused_with 22 1 0 ""
    ∷ fine_with 0 ""
    ∷ []

pub barred : asked ≡ answers
unfolding asked answers numbers_of over_limit lines chop ends content_of seq_of sum_bases sum_widths up_from bases_at groups same_bytes is_space run keep refusal_of definition.content_says definition.definition_says place_of places_from offset_of has_place address_of first_where all_digits value_from number_from digits_of number_of plain_number digits cut_at field_says numbers_from fields_of plain_end name_of index.content_says index.index_line_says first_elsewhere checker.sequence_says entry_says against_lines record_says records_say check_of verdict_answer
barred = refl
