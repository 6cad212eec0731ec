-- `walking::quick::even_end` meets its contract: behind the strides there is one line, which has no more bases, and then none has any.
use Rattle.std.proofs.Common.{ℕ, List, ◌+◌, ◌*◌, ◌≤◌, ◌<◌, Option, None, Some, arith, length}
use Rattle.std.specs.Option.{IfSome, unwrap_or}
use Rattle.lines.specs.Lines.{seq_at}
use Rattle.lines.specs.Laws.{first-within, bases-le}
use Rattle.walking.specs.Even.{BlankTo, even-told}
use Rattle.walking.proofs.quick.even_end.Goals as goal
use Rattle.walking.proofs.quick.even_end.Goals.{After-sequence_line-last}

-- the line behind the strides ends in the file, and has no more bases than bytes
last : (c : After-sequence_line-last) → let a = c.args in
    (a.at + c.strides_before-strides.result * a.width + c.sequence_line-last.result.width ≤ length a.s.now) × (c.sequence_line-last.result.bases ≤ c.sequence_line-last.result.width)
last c =
    let a = c.args in
    rw c.sequence_line-last.ensures (first-within _ _ c.strides_before-strides.ensures.within, bases-le (seq_at a.s.now (a.at + c.strides_before-strides.result * a.width)))

pub overflow_mul-strides : goal.overflow_mul-strides
overflow_mul-strides c =
    omega (arith, last (goal.at.overflow_mul-strides c).After-sequence_line-last, c.strides_before-strides.ensures.onward.fewer)

pub overflow_add-strides : goal.overflow_add-strides
overflow_add-strides c =
    omega (arith, last (goal.at.overflow_add-strides c).After-sequence_line-last, c.strides_before-strides.ensures.onward.fewer)

pub overflow_add-i-2 : goal.overflow_add-i-2
overflow_add-i-2 c = omega (arith, last (goal.at.overflow_add-i-2 c).After-sequence_line-last)

pub blank_end-requires : goal.blank_end-requires
blank_end-requires c = (last (goal.at.blank_end-requires c).After-sequence_line-last).0

-- an end that is not 0 is one that was told
told : (s : List ℕ) (at : ℕ) (r : Option ℕ) → IfSome r (BlankTo s at) → 0 < unwrap_or r 0 → BlankTo s at (unwrap_or r 0)
told s at None k h = absurd (omega arith)
told s at (Some e) k h = k

pub returns : goal.returns
returns c = λ h.
    rw (c.unwrap_or.ensures, ← c.if-strides-bases.false)
    (even-told _ _ _ _ (omega arith) c.if-width-bases.false (omega arith) _ _ c.strides_before-strides.ensures.within c.strides_before-strides.ensures.onward _ c.sequence_line-last.ensures
    c.if-last-eq0.false c.if-bases-last.false _ (told _ _ c.blank_end.result c.blank_end.ensures (rw c.unwrap_or.ensures at h)))
