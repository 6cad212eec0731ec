-- `index_line::reading::parse_at` meets its contract: a line as it is written says its own numbers, and any other is read by its end.
use Rattle.std.proofs.Common.{ℕ, ◌≡◌, arith, length}
use Rattle.std.proofs.lemmas.List.{length-replicate}
use Rattle.index_line.specs.Standing.{line-standing}
use Rattle.index_line.proofs.reading.parse_at.Goals as goal

pub whole_as_slice-line_at : goal.whole_as_slice-line_at
whole_as_slice-line_at g c = omega (arith, g.met.E.Line.few)

pub of-requires : goal.of-requires
of-requires g c = omega (arith, g.met.E.Line.few)

pub returns : goal.returns
returns g c =
    let a = c.args in
    let e : length c.line_at.new.numbers ≡ g.row.N = omega (arith, length-replicate {A = ℕ} g.row.N 0, c.line_at.auto.numbers) in
    let h = line-standing g.E.Line.entry g.E.Line.only g.met.E.Line.both a.text.now a.at _ _ _ c.in-Some.ensures a.line (omega (arith, e, g.met.E.Line.some)) in
    rw c.of.ensures (rw e at h)
