-- `parts::record_start` meets its contract: behind the lines that are passed the sequence lines end where they ended before.
use Rattle.std.proofs.Common.{sym, ◌∙◌, arith}
use Rattle.lines.specs.Laws.{line_end-gt}
use Rattle.parts.specs.Laws.{record-first, record-line, behind-start, behind-past, behind-line}
use Rattle.parts.proofs.record_start.Goals as goal

pub returns-then-n-eq0 : goal.returns-then-n-eq0
returns-then-n-eq0 c = record-first _ _ c.if-n-eq0.true

pub loop-i-init : goal.loop-i-init
loop-i-init c = rw c.line_start-i.ensures (record-line _ _ c.if-n-eq0.false)

pub returns-then-s-i-eq62 : goal.returns-then-s-i-eq62
returns-then-s-i-eq62 c = sym (behind-start _ _ c.loop-i-test.true c.if-s-i-eq62.true) ∙ c.loop-i.invariant

pub loop-i-smaller : goal.loop-i-smaller
loop-i-smaller c =
    let s = c.args.s.now in
    rw c.line_end-i.ensures (omega (arith, line_end-gt s c.loop-i.i c.loop-i-test.true))

pub loop-i-preserved : goal.loop-i-preserved
loop-i-preserved c =
    rw c.line_end-i.ensures (behind-line _ _ c.loop-i-test.true c.if-s-i-eq62.false ∙ c.loop-i.invariant)

pub returns : goal.returns
returns c = sym (behind-past _ _ c.loop-i-test.false) ∙ c.loop-i.invariant
