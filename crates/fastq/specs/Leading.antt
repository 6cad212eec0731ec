-- The numbers of a FASTQ record's row lead to every base and to every quality: both have even lines, and even lines are where the addressing
-- rule says (`even-places` of the crate `record`, which FASTA's rows go by too).
use Rattle.std.specs.Prelude.{ℕ, ◌≤◌, ◌<◌, ◌≡◌, refl, List, [], ◌∷◌, map, Bool, true, false, cond, not, ◌&&◌, ◌||◌, length, take, drop, eqb, leb, Result, Ok, Err, ⊤}
use Rattle.refusal.specs.declared.Refusal.{Refusal}
use Rattle.std.proofs.Common.{ap, sym, ◌∙◌, true≢false, drop_of_length-le, eqb-true, leb-true, arith}
use Rattle.refusal.specs.declared.Refusal.TheVariants.{LineBases, LineWidth, QualityLine}
use Rattle.lines.specs.declared.Line.{Line}
use Rattle.lines.specs.Lines as text
use Rattle.lines.specs.Lines.{lines, line_len, ends, bases_of, sum_bases, sum_widths, bases_at}
use Rattle.lines.specs.Laws.{lines_cut}
use Rattle.lines.specs.Alike.{open-last}
use Rattle.lines.specs.GroupLaws.{lines-behind}
use Rattle.record.specs.Place.{places_from}
use Rattle.record.specs.EvenLines.{EvenLines, even-places}
use Rattle.record.specs.EvenLines.EvenLines.{none, last, more}
use Rattle.indexer.specs.Index.{line_of, fits_last}
use Rattle.fastq.specs.Fastq.{line_says, rest_of, fits_partner, qualities_of}
use Rattle.fastq.specs.Laws.{good-same, then-good}

-- ---- the sequence lines

and_left : (a b : Bool) → (a && b) ≡ true → a ≡ true
and_left true b e = refl
and_left false b e = e

and_right : (a b : Bool) → (a && b) ≡ true → b ≡ true
and_right true b e = e
and_right false b e = absurd (true≢false (sym e))

-- a good last line has no more bases than the first
good-last : (first l : Line) → line_says first true l ≡ Ok tt → l.bases ≤ first.bases
unfolding line_says fits_last
good-last first l e = blank (eqb l.bases 0) e
  where
    bases : (t : Bool) → eqb l.bases first.bases ≡ t
        → ◌≡◌ {A = Result ⊤ Refusal} (cond t (cond (eqb l.width first.width) (Ok tt) (Err (LineWidth l.width first.width))) (Err (LineBases l.bases first.bases))) (Ok tt)
        → l.bases ≤ first.bases
    bases true b q = omega (arith, eqb-true l.bases first.bases b)
    bases false b q = absurd cc

    fits : (t : Bool) → (leb l.width first.width && leb l.bases first.bases) ≡ t
        → ◌≡◌ {A = Result ⊤ Refusal} (cond t (Ok tt) (cond (eqb l.bases first.bases) (cond (eqb l.width first.width) (Ok tt) (Err (LineWidth l.width first.width))) (Err (LineBases l.bases first.bases)))) (Ok tt)
        → l.bases ≤ first.bases
    fits true f q = leb-true l.bases first.bases (and_right (leb l.width first.width) _ f)
    fits false f q = bases (eqb l.bases first.bases) refl q

    blank : (t : Bool) → ◌≡◌ {A = Result ⊤ Refusal} (cond t (Err (LineBases 0 first.bases))
        (cond (leb l.width first.width && leb l.bases first.bases) (Ok tt) (cond (eqb l.bases first.bases) (cond (eqb l.width first.width) (Ok tt) (Err (LineWidth l.width first.width))) (Err (LineBases l.bases first.bases))))) (Ok tt)
        → l.bases ≤ first.bases
    blank true q = absurd cc
    blank false q = fits (leb l.width first.width && leb l.bases first.bases) refl q

-- good lines behind one are even with it: it is like the first where lines follow, and has no more bases where none does
even-from : (first : Line) (l : List ℕ) (ls : List (List ℕ)) → (text.none ls ≡ false → line_of l ≡ first) → (line_of l).bases ≤ first.bases → rest_of first ls ≡ Ok tt
    → EvenLines first.bases first.width (l ∷ ls)
unfolding rest_of sum_bases
even-from first l [] same few e = last few refl
even-from first l (m ∷ ms) same few e =
    let t = then-good (line_says first (text.none ms) (line_of m)) (rest_of first ms) e in
    let like : text.none ms ≡ false → line_of m ≡ first = λ n. good-same first (line_of m) (rw n at t.0) in
    more (ap (λ (x : Line). x.bases) (same refl)) (ap (λ (x : Line). x.width) (same refl)) (even-from first m ms like (fewer (text.none ms) refl t.0 like) t.1)
  where
    fewer : (b : Bool) → text.none ms ≡ b → line_says first (text.none ms) (line_of m) ≡ Ok tt → (text.none ms ≡ false → line_of m ≡ first) → (line_of m).bases ≤ first.bases
    fewer true n q like = good-last first (line_of m) (rw n at q)
    fewer false n q like = omega (arith, ap (λ (x : Line). x.bases) (like n))

-- the sequence lines of a record are even
pub even_body : (l : List ℕ) (ls : List (List ℕ)) → rest_of (line_of l) ls ≡ Ok tt → EvenLines (line_of l).bases (line_of l).width (l ∷ ls)
even_body l ls e = even-from (line_of l) l ls (λ n. refl) (omega arith) e

-- so the row's numbers lead to every base
pub bases-lead : (p : ℕ) (l : List ℕ) (ls : List (List ℕ)) → rest_of (line_of l) ls ≡ Ok tt → 0 < (line_of l).bases
    → bases_at p (l ∷ ls) ≡ places_from p (line_of l).bases (line_of l).width 0 (sum_bases (l ∷ ls))
bases-lead p l ls e z = even-places (line_of l).bases (line_of l).width z p (l ∷ ls) (even_body l ls e)

-- ---- the quality lines

parted : (x y : List ℕ) (xs ys : List (List ℕ)) → x ∷ xs ≡ y ∷ ys → (x ≡ y) × (xs ≡ ys)
parted x y xs ys e = (cc, cc)

-- a line of a file that others follow has its end
line-ended : (s q m : List ℕ) (ls : List (List ℕ)) → lines s ≡ q ∷ m ∷ ls → ends 10 q ≡ true
unfolding lines
line-ended [] q m ls h = absurd cc
line-ended (b ∷ s) q m ls h = go (ends 10 q) refl
  where
    cut : take (line_len (b ∷ s)) (b ∷ s) ∷ lines (drop (line_len (b ∷ s)) (b ∷ s)) ≡ q ∷ m ∷ ls
    cut = sym (lines_cut (b ∷ s) (omega arith)) ∙ h

    go : (t : Bool) → ends 10 q ≡ t → ends 10 q ≡ true
    go true e = e
    go false e =
        let all : line_len (b ∷ s) ≡ length (b ∷ s) = open-last (b ∷ s) (ap (ends 10) (parted _ _ _ _ cut).0 ∙ e) in
        let nothing : [] ≡ m ∷ ls = rw (drop_of_length-le (b ∷ s) {i = line_len (b ∷ s)} (omega arith)) at (parted _ _ _ _ cut).1 in
        let z : ◌≡◌ {A = ℕ} 0 1 = cc in
        absurd (omega arith)

or_left : (a : Bool) → (a || not true) ≡ true → a ≡ true
or_left true e = refl
or_left false e = absurd (true≢false (sym e))

-- a quality line that fits has as many bases, and where it has its end the width
fits-bases : (p : Line) (q : List ℕ) → fits_partner p q ≡ true → length (bases_of q) ≡ p.bases
unfolding fits_partner
fits-bases p q e = eqb-true _ _ (and_left (eqb (length (bases_of q)) p.bases) _ e)

fits_width : (p : Line) (q : List ℕ) → fits_partner p q ≡ true → ends 10 q ≡ true → length q ≡ p.width
unfolding fits_partner
fits_width p q e n = eqb-true _ _ (or_left (eqb (length q) p.width) (rw n at (and_right (eqb (length (bases_of q)) p.bases) _ e)))

-- good quality lines, by the first
pub record GoodQualities (p : Line) (ps : List Line) (qs : List (List ℕ)) : Type 0 where
  pub line : List ℕ
  pub rest : List (List ℕ)
  pub is : qs ≡ line ∷ rest
  pub fits : fits_partner p line ≡ true
  pub good : qualities_of ps rest ≡ Ok tt

good-qualities : (p : Line) (ps : List Line) (qs : List (List ℕ)) → qualities_of (p ∷ ps) qs ≡ Ok tt → GoodQualities p ps qs
unfolding qualities_of
good-qualities p ps [] e = absurd cc
good-qualities p ps (q ∷ qs) e = go (fits_partner p q) refl e
  where
    go : (t : Bool) → fits_partner p q ≡ t → cond t (qualities_of ps qs) (Err (QualityLine (length (bases_of q)) p.bases)) ≡ Ok tt → GoodQualities p ps (q ∷ qs)
    go true f k = record { line = q; rest = qs; is = refl; fits = f; good = k }
    go false f k = absurd cc

-- good quality lines have as many bases as their partners
pub same-bases : (ls qs : List (List ℕ)) → qualities_of (map line_of ls) qs ≡ Ok tt → sum_bases (take (length ls) qs) ≡ sum_bases ls
unfolding sum_bases
same-bases [] qs g = refl
same-bases (l ∷ ls) qs g =
    let k = good-qualities (line_of l) (map line_of ls) qs g in
    rw (k.is, fits-bases (line_of l) k.line k.fits, same-bases ls k.rest k.good)

-- and where their partners are even, they are even too
pub even-qualities : (b w : ℕ) (ls : List (List ℕ)) → EvenLines b w ls → (s : List ℕ) → qualities_of (map line_of ls) (lines s) ≡ Ok tt
    → EvenLines b w (take (length ls) (lines s))
unfolding sum_bases
even-qualities b w ls (none k) s g = none (same-bases ls (lines s) g ∙ k)
even-qualities b w (l ∷ ls) (last k z) s g =
    let q = good-qualities (line_of l) (map line_of ls) (lines s) g in
    rw q.is (last {l = q.line} (omega (arith, fits-bases (line_of l) q.line q.fits)) (same-bases ls q.rest q.good ∙ z))
even-qualities b w (l ∷ []) (more k v r) s g =
    let q = good-qualities (line_of l) [] (lines s) g in
    rw q.is (last {l = q.line} (omega (arith, fits-bases (line_of l) q.line q.fits)) refl)
even-qualities b w (l ∷ m ∷ ms) (more k v r) s g =
    let q = good-qualities (line_of l) (map line_of (m ∷ ms)) (lines s) g in
    let n = good-qualities (line_of m) (map line_of ms) q.rest q.good in
    let ended : ends 10 q.line ≡ true = line-ended s q.line n.line n.rest (q.is ∙ ap (λ (t : List (List ℕ)). q.line ∷ t) n.is) in
    let behind : lines (drop (length q.line) s) ≡ q.rest = lines-behind s q.line q.rest q.is in
    let rest : EvenLines b w (take (length (m ∷ ms)) q.rest) = rw behind at (even-qualities b w (m ∷ ms) r (drop (length q.line) s) (rw behind q.good)) in
    rw q.is (more (fits-bases (line_of l) q.line q.fits ∙ k) (fits_width (line_of l) q.line q.fits ended ∙ v) rest)

-- so the same numbers, at the quality position, lead to every quality
pub qualities-lead : (p : ℕ) (l : List ℕ) (ls : List (List ℕ)) → rest_of (line_of l) ls ≡ Ok tt → 0 < (line_of l).bases
    → (s : List ℕ) → qualities_of (map line_of (l ∷ ls)) (lines s) ≡ Ok tt
    → bases_at p (take (length (l ∷ ls)) (lines s)) ≡ places_from p (line_of l).bases (line_of l).width 0 (sum_bases (l ∷ ls))
qualities-lead p l ls e z s g =
    even-places (line_of l).bases (line_of l).width z p (take (length (l ∷ ls)) (lines s)) (even-qualities (line_of l).bases (line_of l).width (l ∷ ls) (even_body l ls e) s g)
    ∙ ap (places_from p (line_of l).bases (line_of l).width 0) (same-bases (l ∷ ls) (lines s) g)
