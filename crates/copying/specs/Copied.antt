-- What a copy leaves in an output.
use Rattle.std.specs.Prelude.{ℕ, ◌-◌, min, List, length}
use Rattle.std.proofs.Math.Seq.{paste}

-- an output, with the bytes from a place on replaced by the first n of some others: by as many as these are, and as have room
unfoldable pub after_copy : List ℕ → ℕ → List ℕ → ℕ → List ℕ
after_copy out to s n = paste out to s (min n (min (length s) (length out - to)))
