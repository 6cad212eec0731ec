-- `checker::quick::defined_so` meets its contract: by its tests. The line has no LF in its name, nor behind it up to its end.
use Rattle.std.proofs.Common.{ℕ, List, length, take, drop, length-drop, length-take-le, ◌+◌, ◌-◌, ◌≡◌, sym, ◌∙◌, arith}
use Rattle.checker.specs.Quick.{WordAt, defined-end, word-of-parts}
use Rattle.checker.proofs.quick.defined_so.Goals as goal

pub returns : goal.returns
returns c = λ h.
    let start = c.args.start in
    let q : start - 1 + 1 ≡ start = omega arith in
    let f : List ℕ = c.args.fasta.now in
    let from : ℕ = c.args.at + 1 in
    let n : ℕ = c.args.n in
    let x : from + n - from ≡ n = omega arith in
    let y : c.args.line + n - c.args.line ≡ n = omega arith in
    let z : length (take n (drop from f)) ≡ n = length-take-le n (drop from f) (omega (arith, length-drop from f)) in
    let word : WordAt f from c.args.index.now c.args.line n = word-of-parts f from c.args.index.now c.args.line n (rw z at (rw (x, y) at (c.same_word.ensures h))) in
    record {
      here = omega arith;
      end = rw q at (defined-end _ _ (start - 1) _ _ _ (omega arith) (omega arith) c.if-fasta-at-ne62.false word (c.clear_to.ensures c.if-not-clear_to.false) c.if-fasta-last-ne10.false);
      inside = omega arith;
      some = omega arith;
      prefix = c.if-fasta-at-ne62.false;
      space = sym c.is_space.ensures ∙ c.if-not-is_space.false;
      word = word;
    }
