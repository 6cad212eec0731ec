-- `fastq::index_rest` meets its contract: the lines passed, at once or one by one, and what those from here on say, together are what all say.
use Rattle.std.proofs.Common.{◌≡◌, refl, ap, rules, Ok, Err, sym, ◌∙◌, false, ◌≤◌, ◌<◌, ◌+◌, ◌*◌, arith, length}
use Rattle.lines.specs.declared.Line.{Line}
use Rattle.lines.specs.Lines.{none}
use Rattle.fastq.specs.declared.Body.{Body}
use Rattle.fastq.specs.Fastq.{lines_at, body_at}
use Rattle.fastq.specs.Laws.{rest-ends, rest-on, rest-stops, some-here, line-within, bases-most}
use Rattle.fastq.specs.Passing.{rest-passed, passed-room, passed-few}
use Rattle.fastq.proofs.index_rest.Goals as goal
use Rattle.fastq.proofs.index_rest.Goals.{After-line_at-last, After-lines_like_first-passed}

-- the lines like the first end in the file, have no more bases than bytes, and are no more than bytes
room : (c : After-lines_like_first-passed)
    → (c.args.at + c.lines_like_first-passed.result * c.args.first.width ≤ length c.args.s.now)
    × (c.lines_like_first-passed.result * c.args.first.bases ≤ c.lines_like_first-passed.result * c.args.first.width)
    × (c.lines_like_first-passed.result ≤ c.lines_like_first-passed.result * c.args.first.width)
room c =
    let a = c.args in
    let p = c.requires in
    let r = passed-room a.s.now a.first 43 (length a.s.now) a.at c.lines_like_first-passed.result p.0 p.2 c.lines_like_first-passed.ensures in
    (r.0, r.1, passed-few c.lines_like_first-passed.result a.first.width (omega arith))

pub overflow_add-body : goal.overflow_add-body
overflow_add-body c = omega (arith, room (goal.at.overflow_add-body c).After-lines_like_first-passed)

pub overflow_mul-body : goal.overflow_mul-body
overflow_mul-body c = omega (arith, room (goal.at.overflow_mul-body c).After-lines_like_first-passed)

pub overflow_add-body-2 : goal.overflow_add-body-2
overflow_add-body-2 c = omega (arith, room (goal.at.overflow_add-body-2 c).After-lines_like_first-passed)

pub overflow_mul-body-2 : goal.overflow_mul-body-2
overflow_mul-body-2 c = omega (arith, room (goal.at.overflow_mul-body-2 c).After-lines_like_first-passed)

pub overflow_add-body-3 : goal.overflow_add-body-3
overflow_add-body-3 c = omega (arith, room (goal.at.overflow_add-body-3 c).After-lines_like_first-passed)

pub loop-first-init : goal.loop-first-init
loop-first-init c =
    let a = c.args in
    let p = c.requires in
    let r = room (goal.at.loop-first-init c).After-lines_like_first-passed in (
      refl,
      r.0,
      omega (arith, r),
      omega (arith, r),
      rest-passed a.s.now a.first (λ z. omega arith) a.at (length a.s.now) c.lines_like_first-passed.result p.0 c.lines_like_first-passed.ensures,
    )

-- there is a line at i
some : (c : After-line_at-last) → none (body_at c.args.s.now c.loop-first.body.next) ≡ false
some c = sym c.body_ends.ensures ∙ c.loop-first-test.true

within : (c : After-line_at-last)
    → (c.loop-first.body.next < c.loop-first.body.next + c.line_at-last.result.width)
    × (c.loop-first.body.next + c.line_at-last.result.width ≤ length c.args.s.now)
    × (c.line_at-last.result.bases ≤ c.line_at-last.result.width)
within c =
    let s = c.args.s.now in
    let w = line-within s c.loop-first.body.next (some-here s c.loop-first.body.next (some c)) in
    rw c.line_at-last.ensures (w.0, w.1, bases-most (lines_at s c.loop-first.body.next))

pub overflow_add-next : goal.overflow_add-next
overflow_add-next c = omega (arith, within (goal.at.overflow_add-next c).After-line_at-last)

pub returns-in_err-judge_line : goal.returns-in_err-judge_line
returns-in_err-judge_line c =
    let e : c.from_residual.result ≡ Err c.in_err-judge_line.field-0.0 = search rules in
    e
    ∙ rest-stops _ _ _ _ _ _ _ (some (goal.at.returns-in_err-judge_line c).After-line_at-last) c.line_at-last.ensures _
    (rw (← c.body_ends-in-loop-first.ensures) (sym c.judge_line.ensures ∙ c.in_err-judge_line.was))
    ∙ c.loop-first.invariant.4

pub overflow_add-body-in-loop-first-2 : goal.overflow_add-body-in-loop-first-2
overflow_add-body-in-loop-first-2 c = omega (arith, within (goal.at.overflow_add-body-in-loop-first-2 c).After-line_at-last)

pub loop-first-smaller : goal.loop-first-smaller
loop-first-smaller c = omega (arith, within (goal.at.loop-first-smaller c).After-line_at-last)

pub loop-first-preserved : goal.loop-first-preserved
loop-first-preserved c =
    let w = within (goal.at.loop-first-preserved c).After-line_at-last in (
      refl,
      w.1,
      omega (arith, w),
      omega (arith, w),
      rest-on _ _ _ _ _ _ _ (some (goal.at.loop-first-preserved c).After-line_at-last) c.line_at-last.ensures (rw (← c.body_ends-in-loop-first.ensures) (sym c.judge_line.ensures ∙ c.in_ok-judge_line.was))
          ∙ c.loop-first.invariant.4,
    )

pub returns : goal.returns
returns c =
    let b = c.loop-first.body in
    let is : ◌≡◌ {A = Body} b (record { first = c.args.first; last = b.last; count = b.count; bases = b.bases; next = b.next }) =
    ap (λ (f : Line). record { first = f; last = b.last; count = b.count; bases = b.bases; next = b.next }) c.loop-first.invariant.0 in
    ap Ok is ∙ rest-ends _ _ _ _ _ _ (sym c.body_ends.ensures ∙ c.loop-first-test.false) ∙ c.loop-first.invariant.4
