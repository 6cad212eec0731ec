-- What a feeder keeps of a line is enough to judge it, and follows from what it keeps of an open line and further bytes. So splitting a file
-- anywhere changes nothing.
use Rattle.std.specs.Prelude.{ℕ, ◌<◌, List, [], ◌∷◌, ◌++◌, Bool, true, false, length, take, drop, eqb}
use Rattle.std.proofs.Math.Path.{◌≡◌, refl}
use Rattle.std.proofs.Common.{ap, sym, ◌∙◌, length-take-le, arith}
use Rattle.std.proofs.Math.Dec.{eqb-suc-zero}
use Rattle.lines.specs.Lines.{lines, line_len, chop, ends}
use Rattle.lines.specs.Laws.{lines_cut, line_len-le, line_len-pos}
use Rattle.definition.specs.Definition.{run, keep}
use Rattle.indexer.specs.LineSums.{Sum, sum_of, grow, sums-law}
use Rattle.feeder.specs.Waiting.{unpack, slim, no_line, waiting_of, grow_by}

-- no line of some bytes is empty
pub lines-some : (s l : List ℕ) (ls : List (List ℕ)) → lines s ≡ l ∷ ls → 0 < length l
lines-some [] l ls h = unfold lines in let z : ◌≡◌ {A = ℕ} 0 1 = cc in absurd (omega arith)
lines-some (b ∷ s) l ls h =
    let c : take (line_len (b ∷ s)) (b ∷ s) ∷ lines (drop (line_len (b ∷ s)) (b ∷ s)) ≡ l ∷ ls = sym (lines_cut (b ∷ s) (omega arith)) ∙ h in
    let p : l ≡ take (line_len (b ∷ s)) (b ∷ s) = cc in
    omega (arith, ap length p ∙ length-take-le (line_len (b ∷ s)) (b ∷ s) (line_len-le (b ∷ s)), line_len-pos (b ∷ s) (omega arith))

sum-grows : (q l : List ℕ) → ends 10 q ≡ false → 0 < length l → sum_of (q ++ l) ≡ grow (sum_of q) l
sum-grows q l e h = (sums-law 0).grows q l e h

-- nobody needs what a sequence line does not keep
some-slim : (s : Sum) (l : List ℕ) → eqb s.line.width 0 ≡ false → slim (grow s l) ≡ slim (grow (unpack (slim s)) l)
unfolding grow
some-slim s l h = go s.starts refl
  where
    go : (t : Bool) → s.starts ≡ t → slim (grow s l) ≡ slim (grow (unpack (slim s)) l)
    go true e = rw (h, e)
    go false e = rw (h, e)

same-slim : (q l : List ℕ) → slim (grow (sum_of q) l) ≡ slim (grow (unpack (slim (sum_of q))) l)
same-slim [] l = unfold grow sum_of chop ends run keep in refl
same-slim (b ∷ q) l = some-slim (sum_of (b ∷ q)) l (unfold sum_of in eqb-suc-zero (length q))

pub waiting-grows : (q l : List ℕ) → ends 10 q ≡ false → 0 < length l → waiting_of (q ++ l) ≡ grow_by (waiting_of q) l
unfolding waiting_of grow_by
waiting-grows q l e h = ap slim (sum-grows q l e h) ∙ same-slim q l

pub new_line : (l : List ℕ) → 0 < length l → waiting_of l ≡ grow_by no_line l
unfolding waiting_of grow_by
new_line l h = ap slim (sum-grows [] l (unfold ends in refl) h) ∙ (unfold grow sum_of chop ends run keep in refl)
