-- `definition::parse_content` meets its contract: the places that it finds are the ends of the name, of the whitespace behind it, and of what is kept.
use Rattle.std.proofs.Common.{rules, arith, ◌≡◌, ◌-◌, Ok}
use borrow.Author.Tests.{tests}
use Rattle.lines.specs.declared.Span.{Span}
use Rattle.definition.specs.Definition.{described, marked_says}
use Rattle.definition.specs.Laws.{says-empty, says-prefix, says-no-name, says-named, described-none, described-some}
use Rattle.definition.proofs.parse_content.Goals as goal
use Rattle.definition.proofs.parse_content.Goals.{After-kept_end-k}

pub returns-then-is_empty : goal.returns-then-is_empty
returns-then-is_empty c = says-empty _ _ (search (rules, tests))

pub returns-then-content-mark : goal.returns-then-content-mark
returns-then-content-mark c = says-prefix _ _ (search (rules, tests)) c.if-content-mark.true

pub returns-then-n-eq1 : goal.returns-then-n-eq1
returns-then-n-eq1 c =
    says-no-name _ _ (search (rules, tests)) c.if-content-mark.false _ c.run_end-n.ensures c.if-n-eq1.true

-- the answer, by the places found
named : (c : After-kept_end-k) → (r : Span) → described c.run_end-d.result (c.kept_end-k.result - c.run_end-d.result) ≡ r
    → Ok (record { name = record { start = 1; length = c.run_end-n.result - 1 }; description = r }) ≡ marked_says c.args.mark c.args.content.now
named c r e =
    rw (← e) (says-named _ _ (search (rules, tests)) c.if-content-mark.false _ c.run_end-n.ensures _ _ c.if-n-eq1.false c.run_end-d.ensures c.kept_end-k.ensures)

pub returns-then-k-d : goal.returns-then-k-d
returns-then-k-d c = named (goal.at.returns-then-k-d c).After-kept_end-k _ (described-none c.run_end-d.result (c.kept_end-k.result - c.run_end-d.result) (omega arith))

pub returns : goal.returns
returns c = named (goal.at.returns c).After-kept_end-k _ (described-some c.run_end-d.result (c.kept_end-k.result - c.run_end-d.result) (omega (arith, c.kept_end-k.ensures)))
