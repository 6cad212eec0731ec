-- A part of a check, for several cores (docs/RULES.md, R92): the records from an offset of the file on that begin before another, against the lines from
-- a place of the index on, up to the first record that is not accepted. Where a record begins, and where its line does, is known only from those before. So
-- a part tells where it stopped in both, and what is behind it goes on from there. It counts records from its own start.
use Rattle.std.specs.Prelude.{ℕ, zero, suc, ◌-◌, List, cond, length, ltb, Result, Ok, Err}
use Rattle.refusal.specs.declared.Refusal.{Refusal}
use Rattle.fastq_checker.specs.declared.Stopped.{Stopped}
use Rattle.refusal.specs.Numbers.{over_limit}
use Rattle.refusal.specs.declared.Refusal.TheVariants.{TooLong}
use Rattle.fastq_checker.specs.Steps.{step_of}
use Rattle.fastq_checker.specs.declared.Place.{Place}
use Rattle.fastq_checker.specs.declared.Step.{Step}
use Rattle.fastq_checker.specs.declared.Step.TheVariants as step

-- the place behind a record that is accepted; else the place itself
abbrev pub on_from : Place → Step → Place
on_from w (step.Next n) = n
on_from w step.End = w
on_from w (step.Stopped y) = w
on_from w (step.Refused x) = w

-- one record on, if it begins before the part's end
unfoldable pub on_before : List ℕ → List ℕ → ℕ → Place → Place
on_before f i to w = cond (ltb w.fastq to) (on_from w (step_of f i w)) w

-- at most k records on
unfoldable pub walked_by : ℕ → List ℕ → List ℕ → ℕ → Place → Place
walked_by zero f i to w = w
walked_by (suc k) f i to w = walked_by k f i to (on_before f i to w)

-- as far as records are accepted: a file has no more records than bytes
unfoldable pub walked : List ℕ → List ℕ → ℕ → Place → Place
walked f i to w = walked_by (length f - w.fastq) f i to w

abbrev pub reached_at : Place → Result Stopped Refusal
reached_at w = Ok (record { fastq = w.fastq; index = w.index })

-- the call: the size limit of both first
unfoldable pub part_checked : List ℕ → ℕ → ℕ → List ℕ → ℕ → Result Stopped Refusal
part_checked f from to i first =
    cond (over_limit (length f)) (Err TooLong)
    (cond (over_limit (length i)) (Err TooLong) (reached_at (walked f i to (record { fastq = from; index = first; records = 0 }))))
