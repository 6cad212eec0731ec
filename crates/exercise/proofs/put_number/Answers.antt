-- `exercise::put_number` meets its contract: the eight bytes behind tag and length are copied.
use Rattle.std.proofs.Common.{ap, ◌∙◌, List, ℕ}
use Rattle.copying.specs.Copied.{after_copy}
use Rattle.exercise.specs.Numbers.{bytes-eight}
use Rattle.exercise.specs.Writing.{number-field}
use Rattle.exercise.proofs.put_number.Goals as goal

pub returns : goal.returns
returns c =
    let a = c.args in
    c.copy_run.ensures ∙ ap (λ (l : List ℕ). after_copy a.out.now a.at l 11) (number-field a.tag a.number _ (c.to_be_bytes.ensures ∙ bytes-eight a.number))
