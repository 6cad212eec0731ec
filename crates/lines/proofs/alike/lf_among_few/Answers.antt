-- `lines::alike::lf_among_few` meets its contract: the first block and the last are all of the bytes.
use Rattle.std.proofs.Common.{◌≡◌, refl, ◌∙◌, arith}
use Rattle.lines.specs.Clear.{has_lf}
use Rattle.lines.specs.Blocks.{either-all}
use Rattle.lines.proofs.alike.lf_among_few.Goals as goal

pub returns-then-n-eq0 : goal.returns-then-n-eq0
unfolding has_lf
returns-then-n-eq0 c =
    let q : c.args.n ≡ 0 = omega arith in
    rw q refl

pub returns-then-n-le2 : goal.returns-then-n-le2
returns-then-n-le2 c =
    let a = c.args in
    c.lf_in_either.ensures ∙ either-all a.s.now a.at 1 a.n (omega arith) (omega arith)

pub returns-then-n-le4 : goal.returns-then-n-le4
returns-then-n-le4 c =
    let a = c.args in
    c.lf_in_either-then-n-le4.ensures ∙ either-all a.s.now a.at 2 a.n (omega arith) (omega arith)

pub returns-then-n-le8 : goal.returns-then-n-le8
returns-then-n-le8 c =
    let a = c.args in
    c.lf_in_either-then-n-le8.ensures ∙ either-all a.s.now a.at 4 a.n (omega arith) (omega arith)

pub returns : goal.returns
returns c =
    let a = c.args in
    c.lf_in_either-2.ensures ∙ either-all a.s.now a.at 8 a.n (omega arith) (omega arith)
