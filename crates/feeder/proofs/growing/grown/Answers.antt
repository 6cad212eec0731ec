-- `feeder::growing::grown` meets its contract: case by case.
use Rattle.std.proofs.Common.{sym, ◌∙◌}
use Rattle.feeder.specs.CodeLaws.{grown-yes, grown-no}
use Rattle.feeder.proofs.growing.grown.Goals as goal

pub returns-then-grown_starts : goal.returns-then-grown_starts
returns-then-grown_starts c = grown-yes _ _ _ _ c.grown_bases-bases.ensures c.ends_line-whole.ensures _ _ _ (sym c.if-grown_starts.true ∙ c.grown_starts.ensures) c.grown_name-name.ensures c.grown_text-text.ensures c.grown_kept-kept.ensures

pub returns : goal.returns
returns c = grown-no _ _ _ _ c.grown_bases-bases.ensures c.ends_line-whole.ensures (sym c.if-grown_starts.false ∙ c.grown_starts.ensures)
