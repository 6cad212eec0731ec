-- The contents of the lines that bases are written in, and the lines that they are read as.
use Rattle.std.specs.Prelude.{ℕ, zero, suc, ◌≤◌, ◌<◌, ◌≡◌, List, [], ◌∷◌, ◌++◌, map, Bool, true, false, ◌||◌, length, take, drop, get_or, eqb}
use Rattle.std.proofs.Math.Path.{refl}
use Rattle.std.proofs.Common.{ap, sym, ◌∙◌, append_assoc, length-drop, length-take, take-append-drop, eq-eqb, arith}
use Rattle.std.proofs.Math.Bool.{true≢false}
use Rattle.lines.specs.Lines.{lines, line_byte, chop, bases_of, begins, seq_of, all_bases}
use Rattle.lines.specs.Laws.{chop-hit, chop-keep}
use Rattle.columns.specs.Bytes.{is}
use Rattle.writer.specs.Text.{contents_up_to, line_of, lines_text, any_of, barred}
use Rattle.writer.specs.Laws.{any_append}

-- ---- tests that no byte passes

pub either-false : (a b : Bool) → (a || b) ≡ false → (a ≡ false) × (b ≡ false)
either-false true b e = absurd (true≢false e)
either-false false b e = (refl, e)

pub none_of : (p : ℕ → Bool) (a b : List ℕ) → any_of p (a ++ b) ≡ false → (any_of p a ≡ false) × (any_of p b ≡ false)
none_of p a b e = either-false (any_of p a) (any_of p b) (sym (any_append p a b) ∙ e)

pub none_both : (p : ℕ → Bool) (a b : List ℕ) → any_of p a ≡ false → any_of p b ≡ false → any_of p (a ++ b) ≡ false
none_both p a b e f = any_append p a b ∙ rw (e, f)

pub none-at : (p : ℕ → Bool) (s : List ℕ) (i : ℕ) → any_of p s ≡ false → i < length s → p (get_or s i 0) ≡ false
unfolding any_of
none-at p [] i e h = absurd (omega arith)
none-at p (b ∷ s) zero e h = (either-false (p b) (any_of p s) e).0
none-at p (b ∷ s) (suc i) e h = none-at p s i (either-false (p b) (any_of p s) e).1 (omega arith)

pub none-less : (p q : ℕ → Bool) → ((b : ℕ) → p b ≡ false → q b ≡ false) → (s : List ℕ) → any_of p s ≡ false → any_of q s ≡ false
unfolding any_of
none-less p q f [] e = refl
none-less p q f (b ∷ s) e = let x = either-false (p b) (any_of p s) e in rw (f b x.0) (none-less p q f s x.1)

-- what is a base is no LF, no CR and no '>'
pub base-no-lf : (b : ℕ) → barred b ≡ false → eqb b 10 ≡ false
unfolding barred
base-no-lf b e = (either-false (eqb b 10) (eqb b 13) (either-false (eqb b 10 || eqb b 13) (eqb b 62) e).0).0

pub base-no-cr : (b : ℕ) → barred b ≡ false → eqb b 13 ≡ false
unfolding barred
base-no-cr b e = (either-false (eqb b 10) (eqb b 13) (either-false (eqb b 10 || eqb b 13) (eqb b 62) e).0).1

pub base-no-prefix : (b : ℕ) → barred b ≡ false → eqb b 62 ≡ false
unfolding barred
base-no-prefix b e = (either-false (eqb b 10 || eqb b 13) (eqb b 62) e).1

-- ---- a line

-- bytes without LF, and an LF, are the first line of what they begin
pub lines-line : (l rest : List ℕ) → any_of (is 10) l ≡ false → lines (line_of l ++ rest) ≡ line_of l ∷ lines rest
unfolding lines any_of
lines-line [] rest e = refl
lines-line (b ∷ l) rest e =
    let x = either-false (eqb b 10) (any_of (is 10) l) e in
    ap (line_byte b) (lines-line l rest x.1) ∙ rw x.0

-- the bases of a line are its content, which does not end in CR
pub bases-line : (r : List ℕ) → any_of barred r ≡ false → bases_of (line_of r) ≡ r
bases-line r e = ap (chop 13) (chop-hit 10 r 10 refl) ∙ go r e
  where
    go : (r : List ℕ) → any_of barred r ≡ false → chop 13 r ≡ r
    go [] e = unfold chop in refl
    go (b ∷ r) e = chop-keep 13 (b ∷ r) (length r) (omega arith) (λ q. true≢false (sym (eq-eqb _ _ q) ∙ base-no-cr _ (none-at barred (b ∷ r) (length r) e (omega arith))))

-- ---- contents

-- some contents: none is empty, and all bytes are bases
pub data Good : List (List ℕ) → Type 0 where
  no-content : Good []
  a-content : {r : List ℕ} {rs : List (List ℕ)} → 0 < length r → any_of barred r ≡ false → Good rs → Good (r ∷ rs)

pub good-contents : (w : ℕ) → 0 < w → (n : ℕ) (s : List ℕ) → any_of barred s ≡ false → Good (contents_up_to n w s)
unfolding contents_up_to
good-contents w z zero s e = no-content
good-contents w z (suc n) [] e = no-content
good-contents w z (suc n) (b ∷ s) e =
    let x = none_of barred (take w (b ∷ s)) (drop w (b ∷ s)) (rw (take-append-drop w (b ∷ s)) e) in
    let l : 0 < length (take w (b ∷ s)) = omega (arith, length-take w (b ∷ s)) in
    a-content l x.0 (good-contents w z n (drop w (b ∷ s)) x.1)

-- the contents joined are the bases
unfoldable pub joined : List (List ℕ) → List ℕ
joined [] = []
joined (r ∷ rs) = r ++ joined rs

pub contents-joined : (w : ℕ) → 0 < w → (n : ℕ) (s : List ℕ) → length s ≤ n → joined (contents_up_to n w s) ≡ s
unfolding contents_up_to joined
contents-joined w z zero [] h = refl
contents-joined w z zero (b ∷ s) h = absurd (omega arith)
contents-joined w z (suc n) [] h = refl
contents-joined w z (suc n) (b ∷ s) h =
    ap (λ (l : List ℕ). take w (b ∷ s) ++ l) (contents-joined w z n (drop w (b ∷ s)) (omega (arith, length-drop w (b ∷ s)))) ∙ take-append-drop w (b ∷ s)

-- their text is read as their lines
pub good-lines : (rs : List (List ℕ)) → Good rs → (rest : List ℕ) → lines (lines_text rs ++ rest) ≡ map line_of rs ++ lines rest
unfolding lines_text
good-lines [] g rest = refl
good-lines (r ∷ rs) (a-content h e g) rest =
    ap lines (append_assoc (line_of r) (lines_text rs) rest)
    ∙ lines-line r (lines_text rs ++ rest) (none-less barred (is 10) base-no-lf r e)
    ∙ ap (λ (ls : List (List ℕ)). line_of r ∷ ls) (good-lines rs g rest)

begins-content : (r : List ℕ) → 0 < length r → any_of barred r ≡ false → begins (line_of r) ≡ false
begins-content [] h e = absurd (omega arith)
begins-content (b ∷ r) h e = base-no-prefix b (none-at barred (b ∷ r) 0 e (omega arith))

-- these are all sequence lines
pub good-seq : (rs : List (List ℕ)) → Good rs → (ls : List (List ℕ)) → seq_of (map line_of rs ++ ls) ≡ map line_of rs ++ seq_of ls
unfolding seq_of
good-seq [] g ls = refl
good-seq (r ∷ rs) (a-content h e g) ls = rw (begins-content r h e) (ap (λ (k : List (List ℕ)). line_of r ∷ k) (good-seq rs g ls))

-- and their bases are the contents'
pub good-bases : (rs : List (List ℕ)) → Good rs → all_bases (map line_of rs) ≡ joined rs
unfolding all_bases joined
good-bases [] g = refl
good-bases (r ∷ rs) (a-content h e g) = rw (bases-line r e, good-bases rs g)
