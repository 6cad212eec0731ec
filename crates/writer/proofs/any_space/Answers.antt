-- `writer::any_space` meets its contract: the library's search is the definition's.
use Rattle.std.proofs.Common.{◌∙◌, rules}
use Rattle.std.proofs.lemmas.Iterator.{YieldsList-from_slice}
use Rattle.std.proofs.lemmas.Iterator.Search.{any_from_yields_List}
use borrow.Author.Tests.{tests}
use Rattle.definition.specs.Definition.{is_space}
use Rattle.writer.specs.Laws.{any-list}
use Rattle.writer.proofs.any_space.Goals as goal

pub returns : goal.returns
returns c =
    any_from_yields_List is_space _ _ _ c.any.ensures.ran (YieldsList-from_slice c.args.s.now cc) (λ x b q k. search (rules, tests)) ∙ any-list is_space c.args.s.now
