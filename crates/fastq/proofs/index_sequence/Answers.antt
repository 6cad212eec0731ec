-- `fastq::index_sequence` meets its contract, by a law for each way.
use Rattle.std.proofs.Common.{◌≡◌, Err, rules, sym, ◌∙◌, ◌≤◌, ◌+◌, arith, length}
use Rattle.fastq.specs.Fastq.{lines_at}
use Rattle.fastq.specs.Laws.{some-here, line-within, bases-most}
use Rattle.fastq.specs.RecordLaws.{sequence-none, sequence-blank, sequence-bad, sequence-body}
use Rattle.fastq.proofs.index_sequence.Goals as goal
use Rattle.fastq.proofs.index_sequence.Goals.{After-line_at-first}

pub returns-then-body_ends : goal.returns-then-body_ends
returns-then-body_ends c = sequence-none _ _ _ _ c.requires.0 c.requires.1 (sym c.body_ends.ensures ∙ c.if-body_ends.true)

-- the first line lies in the file
within : (c : After-line_at-first)
    → (c.args.e + c.line_at-first.result.width ≤ length c.args.s.now) × (1 ≤ c.args.e + c.line_at-first.result.width)
    × (c.line_at-first.result.bases ≤ c.line_at-first.result.width)
within c =
    let a = c.args in
    let w = line-within a.s.now a.e (some-here a.s.now a.e (sym c.body_ends.ensures ∙ c.if-body_ends.false)) in
    rw c.line_at-first.ensures (w.1, omega (arith, w), bases-most (lines_at a.s.now a.e))

pub overflow_add-next : goal.overflow_add-next
overflow_add-next c = omega (arith, within (goal.at.overflow_add-next c).After-line_at-first)

pub returns-then-first-eq0 : goal.returns-then-first-eq0
returns-then-first-eq0 c =
    sequence-blank _ _ _ _ c.requires.0 c.requires.1 _ (sym c.body_ends.ensures ∙ c.if-body_ends.false) c.line_at-first.ensures c.if-first-eq0.true

pub index_rest-requires : goal.index_rest-requires
index_rest-requires c = let w = within (goal.at.index_rest-requires c).After-line_at-first in (w.0, omega (arith, w), w.2, omega (arith, w))

pub index_qualities-requires : goal.index_qualities-requires
index_qualities-requires c =
    sequence-body _ _ _ _ c.requires.0 c.requires.1 _ (sym c.body_ends.ensures ∙ c.if-body_ends.false) c.line_at-first.ensures c.if-first-eq0.false _ c.requires.2 (sym c.index_rest.ensures ∙ c.in_ok-body.was)

pub returns-in_err-body : goal.returns-in_err-body
returns-in_err-body c =
    let e : c.from_residual.result ≡ Err c.in_err-body.field-0.0 = search rules in
    rw e (sequence-bad _ _ _ _ c.requires.0 c.requires.1 _ (sym c.body_ends.ensures ∙ c.if-body_ends.false) c.line_at-first.ensures c.if-first-eq0.false _ (sym c.index_rest.ensures ∙ c.in_err-body.was))
