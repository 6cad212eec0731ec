-- Lines at the front of those from an offset of a file on: their bases lie in the file, and the bytes there are those bases. A FASTQ record's sequence
-- lines are such lines, and so are its quality lines; both may begin with '>', so FASTA's law of a sequence does not serve.
use Rattle.std.specs.Prelude.{ℕ, ◌+◌, ◌≤◌, ◌<◌, ◌≡◌, List, [], ◌∷◌, ◌++◌, map, length, take, drop, get_or}
use Rattle.std.proofs.Common.{ap, ◌∙◌, length-drop, arith}
use Rattle.lines.specs.Lines.{lines, all_bases, sum_bases, sum_widths, bases_at}
use Rattle.lines.specs.Sums.{widths-lines}
use Rattle.record.specs.Bases.{byte_at, front_bytes}
use Rattle.record.specs.EvenLines.{length-bases_at}
use Rattle.mission.specs.ReadsLaws.{taken-same, map-part, bases-below}

-- some lines are the first of those from an offset on, and others follow
pub record Front (f : List ℕ) (at : ℕ) (ls : List (List ℕ)) : Type 0 where
  pub others : List (List ℕ)
  pub here : lines (drop at f) ≡ ls ++ others
  pub inside : at ≤ length f

widths-append : (ls ms : List (List ℕ)) → sum_widths (ls ++ ms) ≡ sum_widths ls + sum_widths ms
unfolding sum_widths
widths-append [] ms = omega arith
widths-append (l ∷ ls) ms = omega (arith, widths-append ls ms)

-- they end in the file
pub front-within : (f : List ℕ) (at : ℕ) (ls : List (List ℕ)) → Front f at ls → at + sum_widths ls ≤ length f
front-within f at ls h = omega (arith, h.inside, length-drop at f, widths-lines (drop at f), ap sum_widths h.here, widths-append ls h.others)

module _ (f : List ℕ) (at : ℕ) (ls : List (List ℕ)) (h : Front f at ls) where
  -- each of their bases lies in the file
  pub base-inside : (j : ℕ) → j < sum_bases ls → get_or (bases_at at ls) j 0 < length f
  base-inside j m = omega (arith, bases-below ls at j (omega (arith, length-bases_at at ls)), front-within f at ls h)

  pub bytes-are : map (byte_at f) (bases_at at ls) ≡ all_bases ls
  bytes-are = front_bytes f ls at h.others h.here (front-within f at ls h)

  -- the bytes at some offsets that are those of bases in a row
  pub bases-part : (os : List ℕ) (i n : ℕ) → i + n ≤ sum_bases ls → length os ≡ n → ((k : ℕ) → k < n → get_or os k 0 ≡ get_or (bases_at at ls) (i + k) 0)
      → map (byte_at f) os ≡ take n (drop i (all_bases ls))
  bases-part os i n m l e =
      ap (map (byte_at f)) (taken-same os (bases_at at ls) i n (omega (arith, length-bases_at at ls)) l e)
      ∙ map-part (byte_at f) i n (bases_at at ls)
      ∙ ap (λ (xs : List ℕ). take n (drop i xs)) bytes-are
