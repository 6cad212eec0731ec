-- `fastq::judge_qualities` meets its contract: what the lines and partners behind those passed say is what all say.
use Rattle.std.proofs.Common.{◌≡◌, ◌-◌}
use Rattle.fastq.specs.Fastq.{lines_at}
use Rattle.fastq.specs.Steps.{partners_of, qualities_say}
use Rattle.fastq.proofs.judge_qualities.Given as goal

abbrev pub invariant-loop-k : goal.invariant-loop-k
invariant-loop-k l =
    qualities_say l.i (partners_of (l.body.count - l.k) l.body.first l.body.last) (lines_at l.s l.i)
    ≡ qualities_say l.at (partners_of l.body.count l.body.first l.body.last) (lines_at l.s l.at)
