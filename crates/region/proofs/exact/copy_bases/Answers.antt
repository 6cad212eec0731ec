-- `region::exact::copy_bases` meets its contract: line by line, the output with the bases that are still to be copied is the one
-- that was promised, and the next line begins where the rule says. The code does not keep the first base, so promise and invariant are
-- for every base with which a copy can begin there; there is one.
use Rattle.std.proofs.Common.{◌+◌, ◌≤◌, ◌≡◌, ◌∙◌, length, drop, arith}
use lib.Seq.{paste}
use Rattle.copying.specs.Copied.{after_copy}
use Rattle.copying.specs.Laws.{copy-whole}
use Rattle.region.specs.Inside.{turn-less}
use Rattle.region.specs.Copy.{Lined, lined-start, lined-inside, lined-next, lined-fits, lined-end}
use Rattle.region.proofs.exact.copy_bases.Goals as goal
use Rattle.region.proofs.exact.copy_bases.Goals.{At-loop-run}

pub loop-run-init : goal.loop-run-init
loop-run-init c = λ f a t. lined-start _ _ _ _ _ _ _ _ t

-- where it is
here : (c : At-loop-run) → Lined c.requires.begins.front c.args.file.now c.args.x c.requires.begins.base c.args.bases.count c.args.out.now c.loop-run.k c.loop-run.at c.loop-run.run c.loop-run.out
here c = c.loop-run.invariant _ _ c.requires.begins.starts

-- its line is in the file, and has room
inside : (c : At-loop-run) → (c.loop-run.at + c.loop-run.run ≤ length c.args.file.now) × (c.loop-run.k + c.loop-run.run ≤ length c.loop-run.out)
inside c = lined-inside _ _ _ _ _ _ c.requires.begins.starts.bases c.requires.begins.starts.inside c.requires.n_in_bounds _ _ _ _ (here c)

-- and is copied whole
whole : (c : At-loop-run)
    → let s = drop c.loop-run.at c.args.file.now in
    after_copy c.loop-run.out c.loop-run.k s c.loop-run.run ≡ paste c.loop-run.out c.loop-run.k s c.loop-run.run
whole c = copy-whole _ _ _ _ _ (inside c).0 (inside c).1

pub overflow_sub-n : goal.overflow_sub-n
overflow_sub-n c = let l = here (goal.at.overflow_sub-n c).At-loop-run in omega arith

pub overflow_add-k : goal.overflow_add-k
overflow_add-k c = omega (arith, inside (goal.at.overflow_add-k c).At-loop-run)

pub overflow_add-at : goal.overflow_add-at
overflow_add-at c = omega (arith, inside (goal.at.overflow_add-at c).At-loop-run)

pub next_line-at-requires : goal.next_line-at-requires
next_line-at-requires c =
    omega (arith, lined-fits _ c.args.file.now _ _ _ _ c.requires.begins.starts.bases c.requires.begins.starts.inside c.requires.n_in_bounds _ _ _ _ (here (goal.at.next_line-at-requires c).At-loop-run) c.loop-run-test.true)

pub overflow_sub-n-in-loop-run : goal.overflow_sub-n-in-loop-run
overflow_sub-n-in-loop-run c = let l = here (goal.at.overflow_sub-n-in-loop-run c).At-loop-run in omega arith

pub loop-run-smaller : goal.loop-run-smaller
loop-run-smaller c = turn-less _ _ _ _ _ (here (goal.at.loop-run-smaller c).At-loop-run).turning

pub loop-run-preserved : goal.loop-run-preserved
loop-run-preserved c =
    λ f a t. rw (c.copy_run.ensures ∙ whole (goal.at.loop-run-preserved c).At-loop-run)
    (lined-next _ _ _ _ _ _ t.bases t.inside c.requires.n_in_bounds _ _ _ _ (c.loop-run.invariant f a t) c.loop-run-test.true _ _ c.next_line-at.ensures c.shorter-run.ensures)

pub shape_of-out : goal.shape_of-out
shape_of-out c = let l = here (goal.at.shape_of-out c).At-loop-run in omega arith

pub returns : goal.returns
returns c =
    record {
      from = λ f a t.
          c.copy_run-2.ensures
          ∙ whole (goal.at.returns c).At-loop-run
          ∙ lined-end _ _ _ _ _ _ t.bases t.inside c.requires.n_in_bounds _ _ _ _ (c.loop-run.invariant f a t) c.loop-run-test.false;
    }
