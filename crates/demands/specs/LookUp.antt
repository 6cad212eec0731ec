-- Looking up once, and reading often (request K8), where a host meets it: at the entry points, over the bytes that it lends. A host that has a
-- name calls wakeluri_find, and then wakeluri_read_exact or wakeluri_read_raw of the row in `count`, as often as it likes.
--
-- `split-equals-exact`, `split-equals-raw`: for lent bytes within the limit, the two calls together answer and leave what the one call by name
-- did (`exactNamed`, `rawNamed`, which are kept for this): 25 or 15 from the first, with the output as it was, and all else from the second.
use Rattle.std.specs.Prelude.{ℕ, List}
use Rattle.region.specs.ByName.{exact_named, raw_named, Small}
use Rattle.region.specs.Split as calls
use Rattle.table.specs.Numbers.{numbers_in}
use Rattle.wakeluri.specs.declared.answer.Answer.{Answer}
use Rattle.wakeluri.specs.Answer.{bound_of}
use Rattle.wakeluri.specs.Told.{written_told}
use Rattle.demands.specs.Calls.{Find, ReadExact, ReadRaw}
use Rattle.demands.specs.LookUpTells.{Split}
use Rattle.demands.specs.LookUpLaws.{split}

module _ (file names table : List ℕ) (in_use : ℕ) (name : List ℕ) (first : Answer) (small : Small file names name) (find : Find names table in_use name first)
    (has-start start has_end end : ℕ) (out : List ℕ) where
  pub split-equals-exact : Split (written_told (exact_named file names (numbers_in table) in_use name (bound_of has-start start) (bound_of has_end end) out)) first
      (λ row a out'. ReadExact file table in_use row has-start start has_end end out a out') out
  split-equals-exact = split _ _ _ out first find (calls.split-equals-exact file names (numbers_in table) in_use name (bound_of has-start start) (bound_of has_end end) out small)

  pub split-equals-raw : Split (written_told (raw_named file names (numbers_in table) in_use name (bound_of has-start start) (bound_of has_end end) out)) first
      (λ row a out'. ReadRaw file table in_use row has-start start has_end end out a out') out
  split-equals-raw = split _ _ _ out first find (calls.split-equals-raw file names (numbers_in table) in_use name (bound_of has-start start) (bound_of has_end end) out small)
