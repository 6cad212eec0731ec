-- `copying::copy_blocks` meets its contract: before each block the bytes up to it are copied, and the last one brings the rest.
use Rattle.std.proofs.Common.{rules, arith, ◌≡◌, ◌+◌, ◌-◌, ◌≤◌, ◌++◌, ◌∙◌, sym, ap, List, ℕ, length, take, drop, append_assoc, take-add, take-take, take_all, length-take-le, length-drop}
use Rattle.std.proofs.lemmas.List.{take_at}
use borrow.Rule.Slice.PartMut.{put_mid, post_of}
use Rattle.copying.proofs.copy_blocks.Goals as goal
use Rattle.copying.proofs.copy_blocks.Goals.{else-loop-k-test, then-loop-k-test+else-last-k-gt32}

-- m bytes from the k-th on, where those before are copied
grown : (from out new : List ℕ) (k m : ℕ) → k + m ≤ length from → length out ≡ length from → take k out ≡ take k from
    → new ≡ take m (take (length from - k) (drop k from)) ++ drop m (take (length out - k) (drop k out)) → take (k + m) (put_mid k (length out - k) out new) ≡ take (k + m) from
grown from out new k m h e f g =
    let a : take (length from - k) (drop k from) ≡ drop k from = take_all _ _ (omega (arith, length-drop k from)) in
    let rest = drop m (take (length out - k) (drop k out)) in
    let post = post_of k (length out - k) out in
    rw (rw a at g, f, append_assoc (take m (drop k from)) rest post, ← append_assoc (take k from) (take m (drop k from)) (rest ++ post), ← take-add k m from)
    (take_at (take (k + m) from) (rest ++ post) (k + m) (length-take-le (k + m) from h))

-- the last block, which begins among the bytes that are copied
whole : (from out new : List ℕ) (j k m : ℕ) → k + m ≡ length from → k ≤ j → length out ≡ length from → take j out ≡ take j from
    → new ≡ take m (take (length from - k) (drop k from)) ++ drop m (take (length out - k) (drop k out)) → length (put_mid k (length out - k) out new) ≡ length from → put_mid k (length out - k) out new ≡ from
whole from out new j k m h a e f g l =
    let t : take k out ≡ take k from = sym (take-take k j out a) ∙ ap (take k) f ∙ take-take k j from a in
    sym (take_all (k + m) _ (omega (arith, l))) ∙ grown from out new k m (omega arith) e t g ∙ take_all (k + m) from (omega arith)

pub loop-k-preserved : goal.loop-k-preserved
loop-k-preserved c =
    (omega arith, search rules, grown _ _ _ _ _ (omega arith) c.loop-k.invariant.1 c.loop-k.invariant.2 c.put.ensures)

pub returns : goal.returns
returns c =
    elim c.loop-k-test.branch [
      | else-loop-k-test w ↦ whole _ _ _ c.loop-k.k _ 32 (omega arith) (omega arith) (omega arith) (rw (w.out-is) c.loop-k.invariant.2) c.put-2.ensures (search rules)
      | then-loop-k-test+else-last-k-gt32 w ↦ whole _ _ _ (c.loop-k.k + 32) _ 32 (omega arith) (omega arith) (omega arith)
          (rw (w.out-is) (grown _ _ _ _ _ (omega arith) c.loop-k.invariant.1 c.loop-k.invariant.2 w.put.ensures)) c.put-2.ensures (search rules)
    ]
