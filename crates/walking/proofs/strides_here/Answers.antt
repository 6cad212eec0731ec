-- `walking::strides_here` meets its contract: no line is a stride where the two tests say so, and elsewhere those like a stride are.
use Rattle.std.proofs.Common.{◌∙◌, arith}
use Rattle.walking.specs.Strides.{strides-elsewhere, strides-joined, strides-like}
use Rattle.walking.proofs.strides_here.Goals as goal

pub returns-then-layout-at : goal.returns-then-layout-at
returns-then-layout-at c = strides-elsewhere _ _ _ _ _ (λ e. omega arith)

pub returns-then-layout : goal.returns-then-layout
returns-then-layout c = strides-joined _ _ _ _ _ (omega arith)

pub returns : goal.returns
returns c = c.lines_like.ensures ∙ strides-like _ _ _ _ _ (omega arith) (omega arith)
