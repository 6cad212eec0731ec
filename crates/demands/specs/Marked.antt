-- The marked examples M1 to M13 (docs/RULES.md, R46): one table, one proof. Each asks an entry point's own definition for what a host gets and
-- for the bytes that it finds afterwards.
use Rattle.std.specs.Prelude.{ℕ, zero, suc, ◌*◌, ◌≡◌, refl, List, [], ◌∷◌}
use Prim.Native.String.{String}
use Rattle.ascii.specs.Text.{text}
use Rattle.refusal.specs.Numbers.{numbers_of, over_limit}
use Rattle.lines.specs.Lines.{lines, chop, ends, content_of, seq_of, sum_bases, sum_widths, up_from, bases_at}
use Rattle.lines.specs.Groups.{groups}
use Rattle.lines.specs.Same.{same_bytes}
use Rattle.letters.specs.Letters.{partner}
use Rattle.complement.specs.Complement.{first_or, faults, reverse_complement_of, sized, poured, complement_written}
use Rattle.definition.specs.Definition.{is_space, run, keep, refusal_of}
use Rattle.definition.specs.Definition as definition
use Rattle.record.specs.Place.{place_of, places_from, offset_of, has_place, address_of}
use Rattle.table.specs.Rows.{words_of, words, row_count, row_at, used_at, sound_row, held_of, held_at, named_in, named_of, named_at}
use Rattle.sequence.specs.Scan.{ends_line, skipped, scan_from, scan_at, scan_all}
use Rattle.table.specs.Fill.{held_in}
use Rattle.columns.specs.Bytes.{first_where}
use Rattle.columns.specs.Decimal.{all_digits, value_from, number_from, digits_of, number_of, plain_number, digits, width_from, width, decimal_of}
use Rattle.output.specs.Outcome.{Outcome, leaves, pours}
use Rattle.columns.specs.Fields.{cut_at, field_says, numbers_from, tabbed, text_of, text_written}
use Rattle.index_line.specs.IndexLine.{fields_of, plain_end, name_of, name_in, line_written, written_as}
use Rattle.index_line.specs.IndexLine as index
use Rattle.indexer.specs.Rule.{sequence_by, groups_by, file_by, call_by}
use Rattle.indexer.specs.Index.{fits_last, rest_of, judge}
use Rattle.indexer.specs.File.{file_in}
use Rattle.region.specs.Region.{is_zero, crossed, bad_bounds, bounded_row, start_of, end_of}
use Rattle.region.specs.Exact.{in_file, past_length, bytes_at, bases_from, region_of, exact_in, exact_of, exact_held, exact_read}
use Rattle.region.specs.Raw.{scan_to, raw_at, raw_in, raw_of, raw_held, raw_read}
use Rattle.walking.specs.Places.{first_elsewhere}
use Rattle.checker.specs.Check as checker
use Rattle.checker.specs.Check.{entry_says, against_lines, record_says, records_say, check_of}
use Rattle.table.specs.Numbers.{from_bytes, to_bytes, first_numbers, numbers_in, rest_of as rest, bytes_of, with_numbers}
use Rattle.wakeluri.specs.declared.answer.Answer.{Answer}
use Rattle.wakeluri.specs.Answer.{fine, answer_of, bound_of, written_answer, filled_answer, verdict_answer}
use Rattle.wakeluri.specs.Told.{written_told, filled_told}
use Rattle.demands.specs.Host.{row_bytes, joined}

-- ---- answers

-- so many bytes or rows, and the bytes afterwards; a refusal by its three numbers, and the bytes afterwards
abbrev pub fine_with : ℕ → String → Outcome Answer
fine_with n bytes = leaves (answer_of fine n 0) (text bytes)

abbrev pub refused_with : ℕ → ℕ → ℕ → String → Outcome Answer
refused_with x a b bytes = leaves (answer_of (record { refusal = x; first = a; second = b }) 0 0) (text bytes)

-- ---- questions

-- a table of two rows, lent with zeros in it
abbrev zeros : ℕ → List ℕ
zeros zero = []
zeros (suc n) = 0 ∷ zeros n

abbrev pub table : List ℕ
table = zeros (2 * row_bytes)

-- wakeluri_index_file of a file, into such a table
abbrev pub filled : String → Outcome Answer
filled s = filled_told (file_in (text s) (row_count (numbers_in table))) table

-- wakeluri_write_index_line of a row of it, and the index lines of its rows, one after another
abbrev pub written : String → ℕ → Outcome Answer
written s row = written_told (written_as (text s) (numbers_in (filled s).output) (filled s).answer.count row (zeros 20))

abbrev pub indexed : String → Outcome Answer
indexed s = leaves (filled s).answer (joined (λ row. (written s row).answer) (λ row. (written s row).output) 0 (filled s).answer.count)

-- wakeluri_read_exact and wakeluri_read_raw of its first row, with an output of some text
abbrev pub exact : String → ℕ → ℕ → String → Outcome Answer
exact s a e out = written_told (exact_read (text s) (numbers_in (filled s).output) (filled s).answer.count 0 (bound_of 1 a) (bound_of 1 e) (text out))

abbrev pub raw : String → ℕ → ℕ → String → Outcome Answer
raw s a e out = written_told (raw_read (text s) (numbers_in (filled s).output) (filled s).answer.count 0 (bound_of 1 a) (bound_of 1 e) (text out))

-- wakeluri_check, which leaves no bytes
abbrev pub checked : String → String → Outcome Answer
checked file index = leaves (verdict_answer (check_of (text file) (text index))) []

-- wakeluri_reverse_complement
abbrev pub reversed : String → String → Outcome Answer
reversed s out = written_told (complement_written (text s) (reverse_complement_of (text s)) (text out))

-- ---- the table

unfoldable pub asked : List (Outcome Answer)
asked =
    -- M1 to M8
    indexed ">sq0\nACGT\n>sq1\nNNNN\nNNNN\nNN\n"
    ∷ indexed ">s\nACGT\n\n"
    ∷ indexed ">s\nACGT\n\n\n"
    ∷ indexed ">s\nACGT\nACGT\r\n"
    ∷ indexed ">s\n\nACGT\n"
    ∷ indexed ">s\nACGT\r\nACGTA"
    ∷ indexed ">s"
    ∷ indexed ">s\nACGT\r"
    -- M9
    ∷ indexed ">s\nACGT\nAC\n"
    ∷ exact ">s\nACGT\nAC\n" 4 5 "...."
    ∷ exact ">s\nACGT\nAC\n" 5 7 "...."
    -- M10, M11
    ∷ checked ">s\nACGT\nAC\n" "s\t6\t3\t4\t6\n"
    ∷ checked ">s\nACGT\n" "s\t4\t3\t60\t61\n"
    -- M12
    ∷ exact ">s\nAC>GT\n" 3 4 "...."
    ∷ raw ">s\nAC>GT\n" 3 4 "...."
    -- M13
    ∷ reversed "ACGU" "....."
    ∷ []

unfoldable pub answers : List (Outcome Answer)
answers =
    fine_with 2 "sq0\t4\t5\t4\t5\nsq1\t10\t15\t4\t5\n"
    ∷ fine_with 1 "s\t4\t3\t4\t5\n"
    ∷ refused_with 6 0 4 ""
    ∷ refused_with 7 6 5 ""
    ∷ refused_with 5 4 0 ""
    ∷ refused_with 6 5 4 ""
    ∷ refused_with 5 2 0 ""
    ∷ fine_with 1 "s\t4\t3\t4\t5\n"
    ∷ fine_with 1 "s\t6\t3\t4\t5\n"
    ∷ fine_with 2 "TA.."
    ∷ refused_with 17 6 0 "...."
    ∷ refused_with 23 1 5 ""
    ∷ fine_with 0 ""
    ∷ fine_with 2 ">G.."
    ∷ fine_with 0 "...."
    ∷ fine_with 4 "ACGT."
    ∷ []

pub marked : asked ≡ answers
unfolding asked answers joined numbers_of over_limit lines chop ends content_of seq_of sum_bases sum_widths up_from bases_at groups same_bytes partner first_or faults reverse_complement_of sized poured complement_written is_space run keep refusal_of definition.content_says definition.definition_says place_of places_from offset_of has_place address_of words_of words row_count row_at used_at sound_row held_of held_at named_in named_of named_at ends_line skipped scan_from scan_at scan_all held_in first_where all_digits value_from number_from digits_of number_of plain_number digits width_from width decimal_of cut_at field_says numbers_from tabbed text_of pours text_written fields_of plain_end name_of name_in written_as line_written index.content_says index.index_line_says fits_last rest_of judge sequence_by groups_by file_by call_by is_zero crossed bad_bounds bounded_row start_of end_of in_file past_length bytes_at bases_from region_of exact_in exact_of exact_read exact_held scan_to raw_at raw_in raw_of raw_read raw_held first_elsewhere checker.sequence_says entry_says against_lines record_says records_say check_of from_bytes to_bytes first_numbers numbers_in rest bytes_of with_numbers bound_of written_answer filled_answer verdict_answer written_told filled_told
marked = refl
