-- Small files by hand: what their first record gives. Each is computed.
use Rattle.std.specs.Prelude.{ℕ, ◌≡◌, refl, [], ◌∷◌, Option, Some, Result, Ok, Err}
use Rattle.refusal.specs.declared.Refusal.{Refusal}
use Rattle.fastq.specs.declared.QualityRow.{QualityRow}
use Rattle.refusal.specs.declared.Refusal.TheVariants.{NoPrefix, NoName, NoBases, LineBases, NoPlusLine, QualityLine}
use Rattle.lines.specs.Lines.{lines, chop, ends, content_of, sum_bases, sum_widths}
use Rattle.definition.specs.Definition.{is_space, run, keep, marked_says, fails_at, refusal_of}
use Rattle.indexer.specs.Index.{fits_last}
use Rattle.fastq.specs.Fastq.{body_of, from_plus, line_says, rest_of, sequence_of, fits_partner, qualities_of, sequence_says, record_at}

-- the row of a name of one byte, by its other numbers
abbrev row_of : ℕ → ℕ → ℕ → ℕ → ℕ → Result (Option QualityRow) Refusal
row_of n p b w q =
    Ok (Some (record {
      «record» = record {
        name_start = 1;
        name_length = 1;
        length = n;
        position = record { 0 = p };
        line_bases = b;
        line_width = w;
        description_start = 0;
        description_length = 0;
      };
      qualities = record { 0 = q };
    }))

-- each file, in the order of the comments:
--   @s\nAC\nG\n+s\n@+\n+    qualities begin with '@' and '+', and the last line has no end
--   @s\nAC\nACG            6 comes before 38
--   @s\nAC\n\n+\n          a blank line is 6, with no bases found
--   @s\nAC\nAC             no '+' line
--   @s\nAC\n+\n            no quality line
--   @s\nAC\n+\nII\r\n      the right bases, another width
--   @s\nAC\n+\nII\r        of a last line without its end the bases are enough
--   @s\n+\n               no sequence line
--   @s\n\nA\n              a blank first line
--   @\nA\n                no name
--   >s\nA\n               a FASTA file
pub examples : ((record_at (64 ∷ 115 ∷ 10 ∷ 65 ∷ 67 ∷ 10 ∷ 71 ∷ 10 ∷ 43 ∷ 115 ∷ 10 ∷ 64 ∷ 43 ∷ 10 ∷ 43 ∷ []) 0).answer ≡ row_of 3 3 2 3 11)
    × ((record_at (64 ∷ 115 ∷ 10 ∷ 65 ∷ 67 ∷ 10 ∷ 65 ∷ 67 ∷ 71 ∷ []) 0).answer ≡ Err (LineBases 3 2))
    × ((record_at (64 ∷ 115 ∷ 10 ∷ 65 ∷ 67 ∷ 10 ∷ 10 ∷ 43 ∷ 10 ∷ []) 0).answer ≡ Err (LineBases 0 2))
    × ((record_at (64 ∷ 115 ∷ 10 ∷ 65 ∷ 67 ∷ 10 ∷ 65 ∷ 67 ∷ []) 0).answer ≡ Err NoPlusLine)
    × ((record_at (64 ∷ 115 ∷ 10 ∷ 65 ∷ 67 ∷ 10 ∷ 43 ∷ 10 ∷ []) 0).answer ≡ Err (QualityLine 0 2))
    × ((record_at (64 ∷ 115 ∷ 10 ∷ 65 ∷ 67 ∷ 10 ∷ 43 ∷ 10 ∷ 73 ∷ 73 ∷ 13 ∷ 10 ∷ []) 0).answer ≡ Err (QualityLine 2 2))
    × ((record_at (64 ∷ 115 ∷ 10 ∷ 65 ∷ 67 ∷ 10 ∷ 43 ∷ 10 ∷ 73 ∷ 73 ∷ 13 ∷ []) 0).answer ≡ row_of 2 3 2 3 8)
    × ((record_at (64 ∷ 115 ∷ 10 ∷ 43 ∷ 10 ∷ []) 0).answer ≡ Err (NoBases 3))
    × ((record_at (64 ∷ 115 ∷ 10 ∷ 10 ∷ 65 ∷ 10 ∷ []) 0).answer ≡ Err (NoBases 4))
    × ((record_at (64 ∷ 10 ∷ 65 ∷ 10 ∷ []) 0).answer ≡ Err (NoName 1 0))
    × ((record_at (62 ∷ 115 ∷ 10 ∷ 65 ∷ 10 ∷ []) 0).answer ≡ Err (NoPrefix 0 0))
unfolding record_at sequence_says sequence_of rest_of line_says fits_last body_of from_plus qualities_of fits_partner lines chop ends content_of sum_bases sum_widths marked_says is_space run keep fails_at refusal_of
examples = (refl, refl, refl, refl, refl, refl, refl, refl, refl, refl, refl)
