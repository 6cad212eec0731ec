-- `writer::any_barred` meets its contract: before each turn the bytes behind some whole blocks decide, and a block that has a barred byte ends it.
use Rattle.std.proofs.Common.{ℕ, ◌+◌, ◌-◌, ◌*◌, ◌%◌, ◌≡◌, List, sym, ap, ◌∙◌, arith, length, length-append, drop, drop_at, drop-drop}
use Rattle.std.specs.Slice.Iter.{chunks_exact_rest}
use Rattle.writer.specs.Text.{any_of, barred}
use Rattle.writer.specs.Laws.{block-hit, block_none}
use Rattle.writer.proofs.any_barred.Goals as goal

pub loop-block-init : goal.loop-block-init
loop-block-init c =
    let i = c.into_iter-block-iterator.ensures.into_iter_gives in
    let e = c.chunks_exact-blocks.ensures in
    (rw i e.size, rw i (ap (any_of barred) e.rest), (0, rw (i, e.rest) (omega arith), rw i e.rest))

pub returns-then-block_barred : goal.returns-then-block_barred
returns-then-block_barred c =
    sym (block-hit barred _ _ _ c.in-Some.ensures.steps.1.0 (sym c.block_barred.ensures ∙ c.if-block_barred.true)) ∙ c.loop-block.invariant.1

pub loop-block-preserved : goal.loop-block-preserved
loop-block-preserved c =
    let s = c.in-Some.ensures.steps in
    let v = c.loop-block.invariant in
    let all : List ℕ = c.args.s.now in
    let block : List ℕ = c.in-Some.block.now in
    let rest : List ℕ = chunks_exact_rest c.next.new.self in
    let m : ℕ = v.2.0 in
    let k : 1024 * m + 1024 ≡ 1024 * (m + 1) = omega arith in
    let d : rest ≡ drop (1024 * m + 1024) all = sym (drop_at block rest 1024 (s.1.1 ∙ v.0)) ∙ ap (drop 1024) (sym s.1.0 ∙ v.2.2) ∙ drop-drop 1024 (1024 * m) all in (
      s.0 ∙ v.0,
      sym (block_none barred _ _ _ s.1.0 (sym c.block_barred.ensures ∙ c.if-block_barred.false)) ∙ v.1,
      (m + 1, omega (arith, v.2.1, ap length s.1.0, length-append block rest, s.1.1, v.0), d ∙ ap (λ (x : ℕ). drop x all) k),
    )

pub returns : goal.returns
returns c =
    let v = c.loop-block.invariant in
    let all : List ℕ = c.args.s.now in
    let k : length all - length all % 1024 ≡ 1024 * v.2.0 = omega (arith, v.2.1, v.0, c.in-None.ensures.steps.1.0) in
    c.block_barred-2.ensures ∙ ap (any_of barred) (c.remainder-rest.ensures ∙ c.chunks_exact-blocks.ensures.remainder ∙ ap (λ (x : ℕ). drop x all) k ∙ sym v.2.2) ∙ v.1
