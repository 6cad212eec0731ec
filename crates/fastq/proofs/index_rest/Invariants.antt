-- `fastq::index_rest` meets its contract: the lines passed, at once or one by one, and what those from here on say, together are what all say.
use Rattle.std.proofs.Common.{◌≡◌, ◌≤◌, ◌-◌, length}
use Rattle.fastq.specs.Fastq.{body_at}
use Rattle.fastq.specs.Steps.{rest_says}
use Rattle.fastq.proofs.index_rest.Given as goal

abbrev pub invariant-loop-first : goal.invariant-loop-first
invariant-loop-first l =
    (l.body.first ≡ l.first) × (l.body.next ≤ length l.s) × (l.body.count ≤ l.body.next) × (l.body.bases ≤ l.body.next)
    × (rest_says l.first l.body.count l.body.bases l.body.last l.body.next (body_at l.s l.body.next) ≡ rest_says l.first 1 l.first.bases l.first l.at (body_at l.s l.at))

abbrev pub decreases-loop-first : goal.decreases-loop-first
decreases-loop-first l = length l.s - l.body.next
