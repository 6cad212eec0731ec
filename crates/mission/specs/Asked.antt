-- What a read asks for: bases of a record, by bounds that may be absent.
use Rattle.std.specs.Prelude.{ℕ, ◌-◌, ◌≤◌, ◌<◌, ◌≡◌, List, ◌++◌, false, length, take, drop, Option, Result, Ok}
use Rattle.refusal.specs.declared.Refusal.{Refusal}
use Rattle.record.specs.declared.Position.{Position}
use Rattle.lines.specs.Lines.{lines, all_bases}
use Rattle.lines.specs.Groups.{groups}
use Rattle.output.specs.Outcome.{Outcome, leaves}
use Rattle.region.specs.Region.{bad_bounds, start_of, end_of, bases_to}
use Rattle.checker.specs.Accepts.{record_at}
use Rattle.mission.specs.TableOf.{record_count, base_count}

-- the last base position that is asked for: the record's last if the end is absent
abbrev pub last_of : List ℕ → ℕ → Option Position → ℕ
last_of f r e = end_of (base_count f r) e

-- how many bases are asked for
abbrev pub asked_count : List ℕ → ℕ → Option Position → Option Position → ℕ
asked_count f r a e = bases_to (start_of a) (last_of f r e)

-- the bases from base position a to base position e of record r of a file
unfoldable pub bases_between : List ℕ → ℕ → ℕ → ℕ → List ℕ
bases_between f r a e = take (bases_to a e) (drop (a - 1) (all_bases (record_at (groups (lines f)) r).seq))

-- those that are asked for
abbrev pub asked_bases : List ℕ → ℕ → Option Position → Option Position → List ℕ
asked_bases f r a e = bases_between f r (start_of a) (last_of f r e)

-- there is a record r, the bounds are inside it, and an output has room for the bases between them
pub record Asked (f : List ℕ) (r : ℕ) (a e : Option Position) (out : List ℕ) : Type 0 where
  pub record' : r < record_count f
  pub bounds : bad_bounds a e ≡ false
  pub start : start_of a ≤ base_count f r
  pub end : last_of f r e ≤ base_count f r
  pub room : asked_count f r a e ≤ length out

-- just those bases: their count, and the bases at the front of the output; the bytes behind them stay
abbrev pub gives_asked : List ℕ → ℕ → Option Position → Option Position → List ℕ → Outcome (Result ℕ Refusal)
gives_asked f r a e out = leaves (Ok (asked_count f r a e)) (asked_bases f r a e ++ drop (asked_count f r a e) out)
