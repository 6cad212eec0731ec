-- What every read of a region has in common: its bounds, and the refusals of the bounds.
use Rattle.std.specs.Prelude.{ℕ, ◌+◌, ◌-◌, Bool, false, cond, ◌||◌, eqb, ltb, Option, Some, None, Result, Err}
use Rattle.refusal.specs.declared.Refusal.{Refusal}
use Rattle.record.specs.declared.Record.{Record}
use Rattle.record.specs.declared.Position.{Position}
use Rattle.refusal.specs.declared.Refusal.TheVariants.{BadBounds}

-- is a bound given, and 0
unfoldable pub is_zero : Option Position → Bool
is_zero (Some p) = eqb p.0 0
is_zero None = false

-- are both bounds given, and the start past the end
unfoldable pub crossed : Option Position → Option Position → Bool
crossed (Some a) (Some e) = ltb e.0 a.0
crossed (Some a) None = false
crossed None e = false

-- does 16 refuse the bounds: it judges given ones only
unfoldable pub bad_bounds : Option Position → Option Position → Bool
bad_bounds a e = is_zero a || (is_zero e || crossed a e)

-- the row that a region is read from: 16 for its bounds comes before what the table holds
unfoldable pub bounded_row : Option Position → Option Position → Result Record Refusal → Result Record Refusal
bounded_row a e h = cond (bad_bounds a e) (Err BadBounds) h

-- the first base position of a region: 1 if the start is absent
unfoldable pub start_of : Option Position → ℕ
start_of (Some p) = p.0
start_of None = 1

-- the last base position of a region of a record of so many bases: the record's last if the end is absent
unfoldable pub end_of : ℕ → Option Position → ℕ
end_of bases (Some p) = p.0
end_of bases None = bases

-- how many bases there are from one base position to another, both counted
abbrev pub bases_to : ℕ → ℕ → ℕ
bases_to a e = e - a + 1
