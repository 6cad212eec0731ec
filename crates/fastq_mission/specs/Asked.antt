-- What a read of a FASTQ record asks for: bases, or qualities, by bounds that may be absent.
use Rattle.std.specs.Prelude.{ℕ, ◌-◌, ◌≤◌, ◌<◌, ◌≡◌, List, ◌++◌, false, length, take, drop, Option, Result, Ok}
use Rattle.refusal.specs.declared.Refusal.{Refusal}
use Rattle.record.specs.declared.Position.{Position}
use Rattle.lines.specs.Lines.{all_bases}
use Rattle.output.specs.Outcome.{Outcome, leaves}
use Rattle.region.specs.Region.{bad_bounds, start_of, end_of, bases_to}
use Rattle.fastq.specs.declared.Part.{Part}
use Rattle.fastq_mission.specs.TableOf.{record_count, lines_in, base_count}

-- the last position that is asked for: the record's last where the end is absent
abbrev pub last_of : List ℕ → ℕ → Part → Option Position → ℕ
last_of f r p e = end_of (base_count f r p) e

-- how many bases, or qualities, are asked for
abbrev pub asked_count : List ℕ → ℕ → Part → Option Position → Option Position → ℕ
asked_count f r p a e = bases_to (start_of a) (last_of f r p e)

-- the bases, or the qualities, from position a to position e of record r of a file
unfoldable pub bytes_between : List ℕ → ℕ → Part → ℕ → ℕ → List ℕ
bytes_between f r p a e = take (bases_to a e) (drop (a - 1) (all_bases (lines_in f r p)))

-- those that are asked for
abbrev pub asked_bytes : List ℕ → ℕ → Part → Option Position → Option Position → List ℕ
asked_bytes f r p a e = bytes_between f r p (start_of a) (last_of f r p e)

-- there is a record r, the bounds are inside it, and an output has room for what is between them
pub record Asked (f : List ℕ) (r : ℕ) (p : Part) (a e : Option Position) (out : List ℕ) : Type 0 where
  pub record' : r < record_count f
  pub bounds : bad_bounds a e ≡ false
  pub start : start_of a ≤ base_count f r p
  pub end : last_of f r p e ≤ base_count f r p
  pub room : asked_count f r p a e ≤ length out

-- just those: how many they are, and they at the front of the output, what was behind them as it was
abbrev pub gives_asked : List ℕ → ℕ → Part → Option Position → Option Position → List ℕ → Outcome (Result ℕ Refusal)
gives_asked f r p a e out = leaves (Ok (asked_count f r p a e)) (asked_bytes f r p a e ++ drop (asked_count f r p a e) out)
