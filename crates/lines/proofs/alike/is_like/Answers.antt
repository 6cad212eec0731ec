-- `lines::alike::is_like` meets its contract: each test is one that a line like the other passes, and together they are enough.
use Rattle.std.proofs.Common.{sym, ◌∙◌, true≢false, arith}
use Rattle.lines.specs.Clear.{like-by, like-fits, like-clear, like-last-byte, not-true}
use Rattle.lines.proofs.alike.is_like.Goals as goal

pub returns-then-s-at : goal.returns-then-s-at
returns-then-s-at c = not-true _ (λ t. omega (arith, like-fits _ _ _ c.requires.0 c.requires.1 t))

pub returns-then-lf_within : goal.returns-then-lf_within
returns-then-lf_within c = not-true _ (λ t. true≢false (sym c.if-lf_within.true ∙ c.lf_within.ensures ∙ like-clear _ _ _ c.requires.0 c.requires.1 t))

pub returns-then-s-last-ne10 : goal.returns-then-s-last-ne10
returns-then-s-last-ne10 c = not-true _ (λ t. c.if-s-last-ne10.true (like-last-byte _ _ _ c.requires.0 c.requires.1 t))

pub returns : goal.returns
returns c =
    let p = c.requires in
    rw c.chopped.ensures (like-by _ _ _ p.0 p.1 (omega arith) (sym c.lf_within.ensures ∙ c.if-lf_within.false) c.if-s-last-ne10.false)
