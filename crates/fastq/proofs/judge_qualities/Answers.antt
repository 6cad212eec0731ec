-- `fastq::judge_qualities` meets its contract: what the lines and partners behind those passed say is what all say.
use Rattle.std.proofs.Common.{◌≡◌, sym, ◌∙◌, ◌≤◌, ◌<◌, ◌+◌, ◌*◌, ◌-◌, arith, length}
use Rattle.lines.specs.Lines.{part, line_end}
use Rattle.lines.specs.Laws.{line_end-gt, line_end-le}
use Rattle.fastq.specs.Fastq.{fits_partner}
use Rattle.fastq.specs.Steps.{partner_of}
use Rattle.fastq.specs.Laws.{qualities-done, qualities-none, qualities-bad, qualities-on}
use Rattle.lines.specs.UpTo.{whole-within}
use Rattle.fastq.specs.Passing.{qualities-passed}
use Rattle.fastq.proofs.judge_qualities.Goals as goal
use Rattle.fastq.proofs.judge_qualities.Goals.{After-fits_partner, After-line_end-e, After-lines_like_up_to-passed}

-- the lines passed end in the file
room : (c : After-lines_like_up_to-passed)
    → c.args.at + c.lines_like_up_to-passed.result * c.args.body.first.width ≤ length c.args.s.now
room c =
    let a = c.args in
    rw c.lines_like_up_to-passed.ensures (whole-within a.s.now a.body.first 10 c.partners_like_first-most.result a.at c.requires)

pub overflow_mul-i : goal.overflow_mul-i
overflow_mul-i c = omega (arith, room (goal.at.overflow_mul-i c).After-lines_like_up_to-passed)

pub overflow_add-i : goal.overflow_add-i
overflow_add-i c = omega (arith, room (goal.at.overflow_add-i c).After-lines_like_up_to-passed)

pub loop-k-init : goal.loop-k-init
loop-k-init c =
    let a = c.args in
    qualities-passed a.s.now a.body.count a.body.first a.body.last _ c.partners_like_first-most.ensures a.at _ c.requires c.lines_like_up_to-passed.ensures

pub returns-then-s-i : goal.returns-then-s-i
returns-then-s-i c =
    let a = c.args in
    rw c.partner-p.ensures (qualities-none a.s.now c.loop-k.i (a.body.count - c.loop-k.k) a.body.first a.body.last (omega (arith, c.loop-k-test.true)) c.if-s-i.true)
    ∙ c.loop-k.invariant

-- the line ends in the file
within : (c : After-line_end-e) → (c.loop-k.i < c.line_end-e.result) × (c.line_end-e.result ≤ length c.args.s.now)
within c =
    let s = c.args.s.now in
    rw c.line_end-e.ensures (line_end-gt s c.loop-k.i c.if-s-i.false, line_end-le s c.loop-k.i (omega arith))

pub slice_bounds-line-end : goal.slice_bounds-line-end
slice_bounds-line-end c = omega (arith, within (goal.at.slice_bounds-line-end c).After-line_end-e)

-- does the line fit its partner
said : (c : After-fits_partner)
    → (let a = c.args in
    c.fits_partner.result ≡ fits_partner (partner_of (a.body.count - c.loop-k.k) a.body.first a.body.last) (part a.s.now c.loop-k.i (line_end a.s.now c.loop-k.i)))
said c = rw (← c.partner-p.ensures, ← c.line_end-e.ensures) c.fits_partner.ensures

pub returns-then-not-fits_partner : goal.returns-then-not-fits_partner
returns-then-not-fits_partner c =
    let a = c.args in
    rw (c.base_count-found.ensures, c.partner-p.ensures, c.line_end-e.ensures)
    (qualities-bad a.s.now c.loop-k.i (a.body.count - c.loop-k.k) a.body.first a.body.last (omega (arith, c.loop-k-test.true)) c.if-s-i.false (sym (said (goal.at.returns-then-not-fits_partner c).After-fits_partner) ∙ c.if-not-fits_partner.true))
    ∙ c.loop-k.invariant

pub loop-k-smaller : goal.loop-k-smaller
loop-k-smaller c = omega arith

pub loop-k-preserved : goal.loop-k-preserved
loop-k-preserved c =
    let a = c.args in
    let one : a.body.count - c.loop-k.k - 1 ≡ a.body.count - (c.loop-k.k + 1) = omega arith in
    rw (c.line_end-e.ensures, ← one)
    (qualities-on a.s.now c.loop-k.i (a.body.count - c.loop-k.k) a.body.first a.body.last (omega (arith, c.loop-k-test.true)) c.if-s-i.false (sym (said (goal.at.loop-k-preserved c).After-fits_partner) ∙ c.if-not-fits_partner.false))
    ∙ c.loop-k.invariant

pub returns : goal.returns
returns c =
    let a = c.args in
    qualities-done a.s.now c.loop-k.i (a.body.count - c.loop-k.k) a.body.first a.body.last (omega arith) ∙ c.loop-k.invariant
