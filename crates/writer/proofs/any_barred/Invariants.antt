-- `writer::any_barred` meets its contract: before each turn the bytes behind some whole blocks decide, and a block that has a barred byte ends it.
use Rattle.std.proofs.Common.{ℕ, ◌+◌, ◌*◌, ◌≡◌, length, drop}
use Rattle.std.specs.Slice.Iter.{chunks_exact_rest, chunks_exact_size}
use Rattle.writer.specs.Text.{any_of, barred}
use Rattle.writer.proofs.any_barred.Given as goal

abbrev pub invariant-loop-block : goal.invariant-loop-block
invariant-loop-block l =
    let rest = chunks_exact_rest l.block-iterator in
    (chunks_exact_size l.block-iterator ≡ 1024) × (any_of barred rest ≡ any_of barred l.s)
    × ((m : ℕ) × (length l.s ≡ 1024 * m + length rest) × (rest ≡ drop (1024 * m) l.s))
