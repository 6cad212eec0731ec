-- `complement::both_of` meets its contract: before each turn the bytes that are left decide in both runs, and a block that has another byte
-- ends it.
use Rattle.std.proofs.Common.{◌≡◌, length}
use Rattle.std.specs.Iterator.Adapters.{zip_first, zip_second}
use Rattle.std.specs.Slice.Iter.{chunks_rest, chunks_size}
use Rattle.complement.specs.Kinds.{all_of}
use Rattle.complement.proofs.both_of.Given as goal

abbrev pub invariant-loop-x : goal.invariant-loop-x
invariant-loop-x g l =
    (chunks_size (zip_first l.x-iterator) ≡ chunks_size (zip_second l.x-iterator))
    × (length (chunks_rest (zip_first l.x-iterator)) ≡ length (chunks_rest (zip_second l.x-iterator)))
    × (all_of g.K.Kind.plain (chunks_rest (zip_first l.x-iterator)) ≡ all_of g.K.Kind.plain l.a)
    × (all_of g.K.Kind.plain (chunks_rest (zip_second l.x-iterator)) ≡ all_of g.K.Kind.plain l.b)
