-- A table holds what a rule gives in one way.
use Rattle.std.specs.Prelude.{ℕ, List}
use Rattle.std.proofs.Props.{props}
use Rattle.letters.specs.Table.{IsTable}

pub table-prop : (f : ℕ → ℕ) (t : List ℕ) → IsProp (IsTable f t)
unfolding IsTable
table-prop f t = Prim.hlevel props
