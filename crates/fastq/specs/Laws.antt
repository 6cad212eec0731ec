-- Laws of a FASTQ record's lines: what the code finds at an offset is what the lines from there say. Callers go by these.
use Rattle.std.specs.Prelude.{ℕ, zero, suc, ◌+◌, ◌-◌, ◌≤◌, ◌<◌, ◌≡◌, List, [], ◌∷◌, map, Bool, not, length, drop, get_or, eqb, ltb, Result, Ok, Err, ⊤}
use Rattle.std.proofs.Math.Path.{refl, ap}
use Rattle.std.proofs.Common.{sym, ◌∙◌, true≢false, drop_of_length-le, drop-drop, arith}
use Rattle.std.proofs.Math.Bool.{true, false, cond}
use borrow.Author.Tests.{eq-eqb, ne_eqb, eqb-true, ltb-true, ltb-false}
use Rattle.std.proofs.Math.Nat.{add-zero}
use Rattle.refusal.specs.declared.Refusal.{Refusal}
use Rattle.refusal.specs.declared.Refusal.TheVariants.{LineBases, LineWidth, QualityLine}
use Rattle.lines.specs.declared.Line.{Line}
use Rattle.lines.specs.Lines.{part, lines, line_end, chop, ends, bases_of, content_of, none, first_line, sum_bases, sum_widths}
use Rattle.lines.specs.Laws.{lines_at-cut, line_end-le, line_end-gt, part_length, part-cons, chop-le, ends-chop, content-whole, content-cut}
use Rattle.lines.specs.GroupLaws.{lines-behind}
use Rattle.indexer.specs.Index.{line_of, fits_last}
use Rattle.fastq.specs.Fastq.{lines_at, plus, body_of, from_plus, body_at, line_says, and_then, rest_of, fits_partner, qualities_of}
use Rattle.fastq.specs.Steps.{last_line, body_with, rest_as, rest_says, partners_of, partner_of, qualities_as, qualities_say}

-- ---- the line at an offset

module _ (s : List ℕ) (at : ℕ) where
  pub lines_end : length s ≤ at → lines_at s at ≡ []
  unfolding lines
  lines_end h = rw (drop_of_length-le s h)

  pub line-none : length s ≤ at → record { width = 0; bases = 0 } ≡ first_line (lines_at s at)
  line-none h = rw (lines_end h)

  pub line-here : (e k : ℕ) → at < length s → e ≡ line_end s at → k ≡ length (bases_of (part s at e)) → record { width = e - at; bases = k } ≡ first_line (lines_at s at)
  line-here e k h p q =
      rw (lines_at-cut s at h, ← p, q, part_length s at e (rw p (line_end-le s at (omega arith))))

  -- ---- the sequence lines from an offset on

  plus-part : at < length s → plus (part s at (line_end s at)) ≡ eqb (get_or s at 0) 43
  plus-part h = rw (part-cons s at (line_end s at) (line_end-gt s at h) (line_end-le s at (omega arith)))

  pub body_end : length s ≤ at → body_at s at ≡ []
  unfolding body_at body_of
  body_end h = rw (lines_end h)

  pub body-cut : at < length s → body_at s at ≡ cond (eqb (get_or s at 0) 43) [] (part s at (line_end s at) ∷ body_at s (line_end s at))
  unfolding body_at body_of
  body-cut h = rw (lines_at-cut s at h, plus-part h)

  pub ends-here : at < length s → eqb (get_or s at 0) 43 ≡ none (body_at s at)
  ends-here h = rw (body-cut h) (go (eqb (get_or s at 0) 43))
    where
      go : (t : Bool) → t ≡ none (cond t [] (part s at (line_end s at) ∷ body_at s (line_end s at)))
      go true = refl
      go false = refl

  pub ends-past : length s ≤ at → true ≡ none (body_at s at)
  ends-past h = rw (body_end h)

  pub some-here : none (body_at s at) ≡ false → at < length s
  some-here n = go (ltb at (length s)) refl
    where
      go : (t : Bool) → ltb at (length s) ≡ t → at < length s
      go true e = ltb-true _ _ e
      go false e = absurd (true≢false (ends-past (ltb-false _ _ e) ∙ n))

  pub no-line : none (body_at s at) ≡ true → body_at s at ≡ []
  no-line n = go (body_at s at) n
    where
      go : (ls : List (List ℕ)) → none ls ≡ true → ls ≡ []
      go [] e = refl
      go (l ∷ ls) e = absurd (true≢false (sym e))

  pub some-line : none (body_at s at) ≡ false → body_at s at ≡ part s at (line_end s at) ∷ body_at s (line_end s at)
  some-line n = body-cut (some-here n) ∙ rw (ends-here (some-here n) ∙ n)

  -- its line, as the code has it
  line-is : at < length s → first_line (lines_at s at) ≡ line_of (part s at (line_end s at))
  line-is h = rw (lines_at-cut s at h)

  pub line-ends : at < length s → at + (first_line (lines_at s at)).width ≡ line_end s at
  line-ends h = rw (line-is h, part_length s at (line_end s at) (line_end-le s at (omega arith))) (omega (arith, line_end-gt s at h))

pub bases-most : (ls : List (List ℕ)) → (first_line ls).bases ≤ (first_line ls).width
bases-most [] = omega arith
bases-most (l ∷ ls) = omega (arith, chop-le 13 (chop 10 l), chop-le 10 l)

-- a sequence line, with its line and what is behind it
pub body-line : (s : List ℕ) (at : ℕ) → none (body_at s at) ≡ false
    → (body_at s at ≡ part s at (line_end s at) ∷ body_at s (at + (line_of (part s at (line_end s at))).width)) × (line_of (part s at (line_end s at)) ≡ first_line (lines_at s at))
body-line s at n =
    let h = some-here s at n in
    let w : at + (line_of (part s at (line_end s at))).width ≡ line_end s at = ap (λ (l : Line). at + l.width) (sym (line-is s at h)) ∙ line-ends s at h in
    (some-line s at n ∙ ap (λ (e : ℕ). part s at (line_end s at) ∷ body_at s e) (sym w), sym (line-is s at h))

pub line-within : (s : List ℕ) (at : ℕ) → at < length s → (at < at + (first_line (lines_at s at)).width) × (at + (first_line (lines_at s at)).width ≤ length s)
line-within s at h = (omega (arith, line-ends s at h, line_end-gt s at h), omega (arith, line-ends s at h, line_end-le s at (omega arith)))

-- ---- the lines behind the first

body_more : (first : Line) (k n : ℕ) (x : Line) (at : ℕ) (l : List ℕ) (ls : List (List ℕ))
    → body_with first k n x at (l ∷ ls) ≡ body_with first (k + 1) (n + (line_of l).bases) (line_of l) (at + (line_of l).width) ls
unfolding last_line sum_bases sum_widths
body_more first k n x at l ls =
    let a : k + suc (length ls) ≡ k + 1 + length ls = omega arith in
    let b : n + (length (bases_of l) + sum_bases ls) ≡ n + length (bases_of l) + sum_bases ls = omega arith in
    let c : at + (length l + sum_widths ls) ≡ at + length l + sum_widths ls = omega arith in
    rw (a, b, c)

module _ (first : Line) (k n : ℕ) (x : Line) (at : ℕ) where
  pub rest_some : (l : List ℕ) (ls : List (List ℕ)) → line_says first (none ls) (line_of l) ≡ Ok tt
      → rest_says first k n x at (l ∷ ls) ≡ rest_says first (k + 1) (n + (line_of l).bases) (line_of l) (at + (line_of l).width) ls
  unfolding rest_says rest_of
  rest_some l ls e = rw e (go (rest_of first ls))
    where
      go : (v : Result ⊤ Refusal) → rest_as first k n x at (l ∷ ls) v ≡ rest_as first (k + 1) (n + (line_of l).bases) (line_of l) (at + (line_of l).width) ls v
      go (Ok tt) = ap Ok (body_more first k n x at l ls)
      go (Err y) = refl

  rest-refused : (l : List ℕ) (ls : List (List ℕ)) (y : Refusal) → line_says first (none ls) (line_of l) ≡ Err y → rest_says first k n x at (l ∷ ls) ≡ Err y
  unfolding rest_says rest_of
  rest-refused l ls y e = rw e

  rest-none : rest_says first k n x at [] ≡ Ok (record { first = first; last = x; count = k; bases = n; next = at })
  unfolding rest_says rest_of last_line sum_bases sum_widths
  rest-none = rw (add-zero k, add-zero n, add-zero at)

-- by what the code finds at an offset
module _ (s : List ℕ) (first : Line) (k n : ℕ) (x : Line) (i : ℕ) where
  pub rest-ends : none (body_at s i) ≡ true → Ok (record { first = first; last = x; count = k; bases = n; next = i }) ≡ rest_says first k n x i (body_at s i)
  rest-ends e = rw (no-line s i e) (sym (rest-none first k n x i))

  module _ (l : Line) (h : none (body_at s i) ≡ false) (e : l ≡ first_line (lines_at s i)) where
    abbrev here : List ℕ
    here = part s i (line_end s i)

    is-here : l ≡ line_of here
    is-here = e ∙ sym (body-line s i h).1

    said : (v : Result ⊤ Refusal) → line_says first (none (body_at s (i + l.width))) l ≡ v → line_says first (none (body_at s (i + (line_of here).width))) (line_of here) ≡ v
    said v w = ap (λ (m : Line). line_says first (none (body_at s (i + m.width))) m) (sym is-here) ∙ w

    pub rest-on : line_says first (none (body_at s (i + l.width))) l ≡ Ok tt
        → rest_says first (k + 1) (n + l.bases) l (i + l.width) (body_at s (i + l.width)) ≡ rest_says first k n x i (body_at s i)
    rest-on v =
        ap (λ (m : Line). rest_says first (k + 1) (n + m.bases) m (i + m.width) (body_at s (i + m.width))) is-here
        ∙ sym (rest_some first k n x i here (body_at s (i + (line_of here).width)) (said (Ok tt) v))
        ∙ ap (rest_says first k n x i) (sym (body-line s i h).0)

    pub rest-stops : (y : Refusal) → line_says first (none (body_at s (i + l.width))) l ≡ Err y → Err y ≡ rest_says first k n x i (body_at s i)
    rest-stops y v =
        sym (rest-refused first k n x i here (body_at s (i + (line_of here).width)) y (said (Err y) v))
        ∙ ap (rest_says first k n x i) (sym (body-line s i h).0)

-- one line, by the tests of the code
module _ (first : Line) (last : Bool) (l : Line) where
  pub says-blank : l.bases ≡ 0 → Err (LineBases 0 first.bases) ≡ line_says first last l
  unfolding line_says
  says-blank h = rw (eq-eqb l.bases 0 h)

  module _ (h : l.bases ≡ 0 → ⊥) where
    pub says-fits : fits_last last l first ≡ true → Ok tt ≡ line_says first last l
    unfolding line_says
    says-fits f = rw (ne_eqb l.bases 0 h, f)

    module _ (f : fits_last last l first ≡ false) where
      pub says-bases : (l.bases ≡ first.bases → ⊥) → Err (LineBases l.bases first.bases) ≡ line_says first last l
      unfolding line_says
      says-bases b = rw (ne_eqb l.bases 0 h, f, ne_eqb l.bases first.bases b)

      pub says-width : l.bases ≡ first.bases → (l.width ≡ first.width → ⊥) → Err (LineWidth l.width first.width) ≡ line_says first last l
      unfolding line_says
      says-width b w = rw (ne_eqb l.bases 0 h, f, eq-eqb l.bases first.bases b, ne_eqb l.width first.width w)

    pub says-like : l.bases ≡ first.bases → l.width ≡ first.width → Ok tt ≡ line_says first last l
    unfolding line_says
    says-like b w = rw (ne_eqb l.bases 0 h, eq-eqb l.bases first.bases b, eq-eqb l.width first.width w) (go (fits_last last l first))
      where
        go : (t : Bool) → ◌≡◌ {A = Result ⊤ Refusal} (Ok tt) (cond t (Ok tt) (Ok tt))
        go true = refl
        go false = refl

-- a test that fails
pub not-false : (b : Bool) → (b ≡ false → ⊥) → b ≡ true
not-false true h = refl
not-false false h = absurd (h refl)

pub not-true-is : (b : Bool) → (b ≡ true → ⊥) → b ≡ false
not-true-is true h = absurd (h refl)
not-true-is false h = refl

-- ---- a quality line and its partner

-- a line has its end, or its content is all of it
pub unended : (q : List ℕ) → eqb (length (content_of q)) (length q) ≡ not (ends 10 q)
unended q = rw (ends-chop 10 q) (go (ltb (length (chop 10 q)) (length q)) refl)
  where
    go : (t : Bool) → ltb (length (chop 10 q)) (length q) ≡ t → eqb (length (content_of q)) (length q) ≡ not t
    go true e =
        let h : length (chop 10 q) < length q = ltb-true _ _ e in
        ne_eqb (length (content_of q)) (length q) (λ m. omega (arith, ap length (content-cut q (λ z. omega arith)), chop-le 13 (chop 10 q), h))
    go false e = eq-eqb (length (content_of q)) (length q) (ap length (content-whole q (omega (arith, ltb-false (length (chop 10 q)) (length q) e, chop-le 10 q))))

module _ (p : Line) (q : List ℕ) where
  pub partner-bases : (length (bases_of q) ≡ p.bases → ⊥) → false ≡ fits_partner p q
  unfolding fits_partner
  partner-bases h = rw (ne_eqb _ _ h)

  pub partner-width : length (bases_of q) ≡ p.bases → length q ≡ p.width → true ≡ fits_partner p q
  unfolding fits_partner
  partner-width h k = rw (eq-eqb _ _ h, eq-eqb _ _ k)

  pub partner-last : length (bases_of q) ≡ p.bases → (length q ≡ p.width → ⊥) → eqb (length (content_of q)) (length q) ≡ fits_partner p q
  unfolding fits_partner
  partner-last h k = rw (eq-eqb _ _ h, ne_eqb _ _ k) (unended q)

pub partner-one : (n : ℕ) (first last : Line) → n ≡ 1 → last ≡ partner_of n first last
unfolding partner_of
partner-one zero first last h = absurd (omega arith)
partner-one (suc zero) first last h = refl
partner-one (suc (suc n)) first last h = absurd (omega arith)

pub partner-more : (n : ℕ) (first last : Line) → (n ≡ 1 → ⊥) → first ≡ partner_of n first last
unfolding partner_of
partner-more zero first last h = refl
partner-more (suc zero) first last h = absurd (h refl)
partner-more (suc (suc n)) first last h = refl

-- ---- the quality lines

partners-front : (n : ℕ) (first last : Line) → 0 < n → partners_of n first last ≡ partner_of n first last ∷ partners_of (n - 1) first last
unfolding partners_of partner_of
partners-front zero first last h = absurd (omega arith)
partners-front (suc zero) first last h = refl
partners-front (suc (suc n)) first last h = let q : suc (suc n) - 1 ≡ suc n = omega arith in rw q

module _ (s : List ℕ) (i n : ℕ) (first last : Line) where
  pub qualities-done : n ≡ 0 → Ok i ≡ qualities_say i (partners_of n first last) (lines_at s i)
  unfolding qualities_say qualities_of partners_of sum_widths
  qualities-done h = rw (h, add-zero i)

  module _ (some : 0 < n) where
    pub qualities-none : length s ≤ i → Err (QualityLine 0 (partner_of n first last).bases) ≡ qualities_say i (partners_of n first last) (lines_at s i)
    unfolding qualities_say qualities_of
    qualities-none h = rw (partners-front n first last some, lines_end s i h)

    pub qualities-bad : i < length s → fits_partner (partner_of n first last) (part s i (line_end s i)) ≡ false
        → Err (QualityLine (length (bases_of (part s i (line_end s i)))) (partner_of n first last).bases) ≡ qualities_say i (partners_of n first last) (lines_at s i)
    unfolding qualities_say qualities_of
    qualities-bad h e = rw (partners-front n first last some, lines_at-cut s i h, e)

    pub qualities-on : i < length s → fits_partner (partner_of n first last) (part s i (line_end s i)) ≡ true
        → qualities_say (line_end s i) (partners_of (n - 1) first last) (lines_at s (line_end s i)) ≡ qualities_say i (partners_of n first last) (lines_at s i)
    unfolding qualities_say qualities_of sum_widths
    qualities-on h e = rw (partners-front n first last some, lines_at-cut s i h, e) (go (qualities_of (partners_of (n - 1) first last) (lines_at s (line_end s i))))
      where
        go : (v : Result ⊤ Refusal) → qualities_as (line_end s i) (partners_of (n - 1) first last) (lines_at s (line_end s i)) v
            ≡ qualities_as i (partner_of n first last ∷ partners_of (n - 1) first last) (part s i (line_end s i) ∷ lines_at s (line_end s i)) v
        go (Ok tt) = ap Ok (omega (arith, part_length s i (line_end s i) (line_end-le s i (omega arith)), line_end-gt s i h))
        go (Err y) = refl

-- ---- the lines of good sequences are the partners

pub line_same : (l m : Line) → l.bases ≡ m.bases → l.width ≡ m.width → l ≡ m
line_same l m b w =
    ap (λ (n : ℕ). record { width = n; bases = l.bases }) w ∙ ap (λ (n : ℕ). record { width = m.width; bases = n }) b

-- a good line that is not the last is like the first
pub good-same : (first l : Line) → line_says first false l ≡ Ok tt → l ≡ first
unfolding line_says fits_last
good-same first l e = blank (eqb l.bases 0) e
  where
    width : (t : Bool) → eqb l.width first.width ≡ t → l.bases ≡ first.bases
        → ◌≡◌ {A = Result ⊤ Refusal} (cond t (Ok tt) (Err (LineWidth l.width first.width))) (Ok tt) → l ≡ first
    width true w b q = line_same l first b (eqb-true _ _ w)
    width false w b q = absurd cc

    bases : (t : Bool) → eqb l.bases first.bases ≡ t
        → ◌≡◌ {A = Result ⊤ Refusal} (cond t (cond (eqb l.width first.width) (Ok tt) (Err (LineWidth l.width first.width))) (Err (LineBases l.bases first.bases))) (Ok tt) → l ≡ first
    bases true b q = width (eqb l.width first.width) refl (eqb-true _ _ b) q
    bases false b q = absurd cc

    blank : (t : Bool) → ◌≡◌ {A = Result ⊤ Refusal} (cond t (Err (LineBases 0 first.bases))
        (cond (eqb l.bases first.bases) (cond (eqb l.width first.width) (Ok tt) (Err (LineWidth l.width first.width))) (Err (LineBases l.bases first.bases)))) (Ok tt) → l ≡ first
    blank true q = absurd cc
    blank false q = bases (eqb l.bases first.bases) refl q

pub then-good : (v w : Result ⊤ Refusal) → and_then v w ≡ Ok tt → (v ≡ Ok tt) × (w ≡ Ok tt)
then-good (Ok tt) w e = (refl, e)
then-good (Err x) w e = absurd cc

-- the lines behind one that is like the first
pub partners-are : (first : Line) (ls : List (List ℕ)) → rest_of first ls ≡ Ok tt → (x : Line) → (none ls ≡ false → x ≡ first)
    → x ∷ map line_of ls ≡ partners_of (suc (length ls)) first (last_line x ls)
unfolding rest_of partners_of last_line
partners-are first [] e x h = refl
partners-are first (l ∷ ls) e x h =
    let t = then-good (line_says first (none ls) (line_of l)) (rest_of first ls) e in
    let r = partners-are first ls t.1 (line_of l) (λ n. good-same first (line_of l) (rw n at t.0)) in
    rw (h refl) (ap (λ (m : List Line). first ∷ m) r)

-- ---- the lines behind a sequence

pub lines_from : (ls : List (List ℕ)) (s : List ℕ) → lines s ≡ ls → lines (drop (sum_widths (body_of ls)) s) ≡ from_plus ls
unfolding body_of from_plus sum_widths
lines_from [] s h = h
lines_from (l ∷ ls) s h = go (plus l) (lines_from ls (drop (length l) s) (lines-behind s l ls h))
  where
    go : (t : Bool) → lines (drop (sum_widths (body_of ls)) (drop (length l) s)) ≡ from_plus ls
        → lines (drop (sum_widths (cond t [] (l ∷ body_of ls))) s) ≡ cond t (l ∷ ls) (from_plus ls)
    go true k = h
    go false k = rw (← drop-drop (sum_widths (body_of ls)) (length l) s) k

pub lines-plus : (s : List ℕ) (at : ℕ) → lines_at s (at + sum_widths (body_at s at)) ≡ from_plus (lines_at s at)
unfolding body_at
lines-plus s at = rw (← drop-drop (sum_widths (body_of (lines_at s at))) at s) (lines_from (lines_at s at) (drop at s) refl)
