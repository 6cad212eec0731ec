-- What a feeder keeps of a line that waits: the numbers of the indexer's sum of a line (LineSums), without those of a definition if the line
-- does not begin with '>'. So a sequence line is only measured.
use Rattle.std.specs.Prelude.{ℕ, List, false, cond}
use Rattle.indexer.specs.LineSums.{Sum, sum_of, grow}
use Rattle.feeder.specs.declared.Waiting.{Waiting}

-- a kept line as a sum, and a sum as a kept line
abbrev pub unpack : Waiting → Sum
unpack t = record { line = record { width = t.width; bases = t.bases }; whole = t.whole; starts = t.starts; name = t.name; text = t.text; kept = t.kept }

abbrev pub slim : Sum → Waiting
slim s = record {
  width = s.line.width;
  bases = s.line.bases;
  whole = s.whole;
  starts = s.starts;
  name = cond s.starts s.name 0;
  text = cond s.starts s.text 0;
  kept = cond s.starts s.kept 0;
}

-- no bytes
abbrev pub no_line : Waiting
no_line = record { width = 0; bases = 0; whole = false; starts = false; name = 0; text = 0; kept = 0 }

-- some bytes of one line
unfoldable pub waiting_of : List ℕ → Waiting
waiting_of l = slim (sum_of l)

-- an open line with further bytes
unfoldable pub grow_by : Waiting → List ℕ → Waiting
grow_by t l = slim (grow (unpack t) l)
