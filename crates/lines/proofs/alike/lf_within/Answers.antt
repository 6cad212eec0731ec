-- `lines::alike::lf_within` meets its contract: the first block and the last are all of the bytes.
use Rattle.std.proofs.Common.{◌≡◌, ◌+◌, ◌-◌, ◌∙◌, arith}
use Rattle.lines.specs.Blocks.{either-all}
use Rattle.lines.proofs.alike.lf_within.Goals as goal

pub returns-then-n-le32 : goal.returns-then-n-le32
returns-then-n-le32 c =
    let a = c.args in
    c.lf_in_either.ensures ∙ either-all a.s.now a.at 16 a.n (omega arith) (omega arith)

pub returns-then-n-le64 : goal.returns-then-n-le64
returns-then-n-le64 c =
    let a = c.args in
    c.lf_in_either-then-n-le64.ensures ∙ either-all a.s.now a.at 32 a.n (omega arith) (omega arith)

pub returns-then-n-le128 : goal.returns-then-n-le128
returns-then-n-le128 c =
    let a = c.args in
    c.lf_in_either-then-n-le128.ensures ∙ either-all a.s.now a.at 64 a.n (omega arith) (omega arith)
