-- `feeder::growing::grown_kept` meets its contract: case by case.
use Rattle.std.proofs.Common.{eq-eqb, ne_eqb, arith, ◌≡◌, sym, ◌∙◌}
use Rattle.definition.specs.Laws.{keep-le}
use Rattle.definition.specs.Definition.{is_space, keep}
use Rattle.indexer.specs.LineSums.{grow}
use Rattle.feeder.proofs.growing.grown_kept.Goals as goal

pub returns-then-k-eq0 : goal.returns-then-k-eq0
unfolding grow
returns-then-k-eq0 c =
    let k : c.kept_end-k.result ≡ keep is_space c.args.l.now = omega (arith, c.kept_end-k.ensures) in
    rw (eq-eqb _ _ (sym k ∙ c.if-k-eq0.true))

pub overflow_add-result : goal.overflow_add-result
overflow_add-result c = omega (arith, c.requires, c.kept_end-k.ensures, keep-le is_space c.args.l.now)

pub returns : goal.returns
unfolding grow
returns c =
    let k : c.kept_end-k.result ≡ keep is_space c.args.l.now = omega (arith, c.kept_end-k.ensures) in
    rw (ne_eqb _ _ (λ e. c.if-k-eq0.false (k ∙ e)), k)
