-- Laws of a whole FASTQ record: each way of the code through it ends with what the record says.
use Rattle.std.specs.Prelude.{ℕ, zero, suc, ◌+◌, ◌-◌, ◌≤◌, ◌<◌, ◌≡◌, refl, List, [], ◌∷◌, map, true, false, length, take, Some, None, Result, Ok, Err, ⊤}
use Rattle.std.proofs.Math.Path.{ap}
use Rattle.std.proofs.Common.{sym, ◌∙◌, arith}
use Rattle.std.proofs.lemmas.List.{length-map}
use borrow.Author.Tests.{eq-eqb, ne_eqb}
use Rattle.refusal.specs.declared.Refusal.{Refusal}
use Rattle.refusal.specs.declared.Refusal.TheVariants.{NoBases, NoPlusLine}
use Rattle.lines.specs.declared.Line.{Line}
use Rattle.lines.specs.declared.Span.{Span}
use Rattle.lines.specs.Lines.{part, line_end, bases_of, content_of, none, first_line, sum_bases, sum_widths}
use Rattle.lines.specs.Laws.{lines_at-cut, line_end-le, line_end-gt, part_length}
use Rattle.definition.specs.declared.Definition.{Definition}
use Rattle.definition.specs.declared.Fault.{Fault}
use Rattle.definition.specs.Definition.{marked_says, refusal_at}
use Rattle.definition.specs.Laws.{marked-within}
use Rattle.indexer.specs.Index.{line_of}
use Rattle.fastq.specs.Fastq.{lines_at, body_of, from_plus, body_at, rest_of, sequence_of, qualities_of, row_for, refused_at, sequence_says, record_at}
use Rattle.fastq.specs.Steps.{last_line, body_with, rest_as, rest_says, partners_of, qualities_as, qualities_say}
use Rattle.fastq.specs.Laws.{lines_end, no-line, body-line, lines-plus, partners-are}
use Rattle.fastq.specs.declared.Body.{Body}
use Rattle.fastq.specs.declared.Step.{Step}

-- ---- over lines

module _ (at n : ℕ) (name : Span) (ls : List (List ℕ)) where
  pub judged-none : body_of ls ≡ [] → refused_at at (NoBases (at + n)) ≡ sequence_says at n name ls
  unfolding sequence_says sequence_of
  judged-none b = rw b

  module _ (p : List ℕ) (rest : List (List ℕ)) (b : body_of ls ≡ p ∷ rest) where
    pub judged-blank : length (bases_of p) ≡ 0 → refused_at at (NoBases (at + n + length p)) ≡ sequence_says at n name ls
    unfolding sequence_says sequence_of
    judged-blank z = rw (b, eq-eqb (length (bases_of p)) 0 z)

    module _ (some : length (bases_of p) ≡ 0 → ⊥) where
      pub judged-bad : (x : Refusal) → rest_of (line_of p) rest ≡ Err x → refused_at at x ≡ sequence_says at n name ls
      unfolding sequence_says sequence_of
      judged-bad x r = rw (b, ne_eqb (length (bases_of p)) 0 some, r)

      module _ (good : rest_of (line_of p) rest ≡ Ok tt) where
        pub judged-plusless : from_plus ls ≡ [] → refused_at at NoPlusLine ≡ sequence_says at n name ls
        unfolding sequence_says sequence_of
        judged-plusless f = rw (b, ne_eqb (length (bases_of p)) 0 some, good, f)

        module _ (x : List ℕ) (qs : List (List ℕ)) (f : from_plus ls ≡ x ∷ qs) where
          pub judged-quality : (y : Refusal) → qualities_of (map line_of (p ∷ rest)) qs ≡ Err y → refused_at at y ≡ sequence_says at n name ls
          unfolding sequence_says sequence_of
          judged-quality y q = rw (b, ne_eqb (length (bases_of p)) 0 some, good, f, q)

          pub judged-row : qualities_of (map line_of (p ∷ rest)) qs ≡ Ok tt
              → record { answer = Ok (Some (row_for at n name (p ∷ rest) (length x))); next = at + n + sum_widths (p ∷ rest) + length x + sum_widths (take (suc (length rest)) qs) } ≡ sequence_says at n name ls
          unfolding sequence_says sequence_of
          judged-row q = rw (b, ne_eqb (length (bases_of p)) 0 some, good, f, q)

-- ---- what the code knows

rest-known : (first : Line) (k n : ℕ) (x : Line) (at : ℕ) (ls : List (List ℕ)) (b : Body) → rest_says first k n x at ls ≡ Ok b
    → (rest_of first ls ≡ Ok tt) × (b ≡ body_with first k n x at ls)
unfolding rest_says
rest-known first k n x at ls b e = go (rest_of first ls) e
  where
    go : (v : Result ⊤ Refusal) → rest_as first k n x at ls v ≡ Ok b → (v ≡ Ok tt) × (b ≡ body_with first k n x at ls)
    go (Ok tt) q = (refl, cc)
    go (Err y) q = let z : ◌≡◌ {A = ℕ} 0 1 = cc in absurd (omega arith)

rest-refused : (first : Line) (k n : ℕ) (x : Line) (at : ℕ) (ls : List (List ℕ)) (y : Refusal) → rest_says first k n x at ls ≡ Err y → rest_of first ls ≡ Err y
unfolding rest_says
rest-refused first k n x at ls y e = go (rest_of first ls) e
  where
    go : (v : Result ⊤ Refusal) → rest_as first k n x at ls v ≡ Err y → v ≡ Err y
    go (Ok tt) q = let z : ◌≡◌ {A = ℕ} 0 1 = cc in absurd (omega arith)
    go (Err w) q = cc

qualities-known : (at : ℕ) (ps : List Line) (qs : List (List ℕ)) (b : ℕ) → qualities_say at ps qs ≡ Ok b
    → (qualities_of ps qs ≡ Ok tt) × (b ≡ at + sum_widths (take (length ps) qs))
unfolding qualities_say
qualities-known at ps qs b e = go (qualities_of ps qs) e
  where
    go : (v : Result ⊤ Refusal) → qualities_as at ps qs v ≡ Ok b → (v ≡ Ok tt) × (b ≡ at + sum_widths (take (length ps) qs))
    go (Ok tt) q = (refl, cc)
    go (Err y) q = let z : ◌≡◌ {A = ℕ} 0 1 = cc in absurd (omega arith)

qualities-refused : (at : ℕ) (ps : List Line) (qs : List (List ℕ)) (y : Refusal) → qualities_say at ps qs ≡ Err y → qualities_of ps qs ≡ Err y
unfolding qualities_say
qualities-refused at ps qs y e = go (qualities_of ps qs) e
  where
    go : (v : Result ⊤ Refusal) → qualities_as at ps qs v ≡ Err y → v ≡ Err y
    go (Ok tt) q = let z : ◌≡◌ {A = ℕ} 0 1 = cc in absurd (omega arith)
    go (Err w) q = cc

partners-length : (n : ℕ) (first last : Line) → length (partners_of n first last) ≡ n
unfolding partners_of
partners-length zero first last = refl
partners-length (suc zero) first last = refl
partners-length (suc (suc n)) first last = ap suc (partners-length (suc n) first last)

-- ---- at an offset

-- the sequence lines of a record are good, and make this body
pub record GoodBody (s : List ℕ) (at e : ℕ) (name : Span) (b : Body) : Type 0 where
  pub ordered : (at < e) × (e ≤ length s) × (name.start ≤ e - at)
  pub line : List ℕ
  pub rest : List (List ℕ)
  pub body : body_at s e ≡ line ∷ rest
  pub some : length (bases_of line) ≡ 0 → ⊥
  pub good : rest_of (line_of line) rest ≡ Ok tt
  pub is : b ≡ body_with (line_of line) 1 (line_of line).bases (line_of line) (e + length line) rest

module _ (s : List ℕ) (at e : ℕ) (name : Span) (h : at < e) (k : e ≤ length s) where
  here : at + (e - at) ≡ e
  here = omega arith

  pub sequence-none : none (body_at s e) ≡ true → refused_at at (NoBases e) ≡ sequence_says at (e - at) name (lines_at s e)
  unfolding body_at
  sequence-none n = ap (λ (m : ℕ). refused_at at (NoBases m)) (sym here) ∙ judged-none at (e - at) name (lines_at s e) (no-line s e n)

  module _ (first : Line) (n : none (body_at s e) ≡ false) (f : first ≡ first_line (lines_at s e)) where
    abbrev line : List ℕ
    line = part s e (line_end s e)

    abbrev behind : List (List ℕ)
    behind = body_at s (e + (line_of line).width)

    split : body_of (lines_at s e) ≡ line ∷ behind
    unfolding body_at
    split = (body-line s e n).0

    is-first : first ≡ line_of line
    is-first = f ∙ sym (body-line s e n).1

    pub sequence-blank : first.bases ≡ 0 → refused_at at (NoBases (e + first.width)) ≡ sequence_says at (e - at) name (lines_at s e)
    sequence-blank z =
        ap (λ (m : ℕ). refused_at at (NoBases m)) (ap (λ (l : Line). e + l.width) is-first ∙ ap (λ (m : ℕ). m + length line) (sym here))
        ∙ judged-blank at (e - at) name (lines_at s e) line behind split (sym (ap (λ (l : Line). l.bases) is-first) ∙ z)

    module _ (z : first.bases ≡ 0 → ⊥) where
      not-blank : length (bases_of line) ≡ 0 → ⊥
      not-blank q = z (ap (λ (l : Line). l.bases) is-first ∙ q)

      same_rest : rest_says first 1 first.bases first (e + first.width) (body_at s (e + first.width)) ≡ rest_says (line_of line) 1 (line_of line).bases (line_of line) (e + (line_of line).width) behind
      same_rest = ap (λ (l : Line). rest_says l 1 l.bases l (e + l.width) (body_at s (e + l.width))) is-first

      pub sequence-bad : (x : Refusal) → rest_says first 1 first.bases first (e + first.width) (body_at s (e + first.width)) ≡ Err x
          → refused_at at x ≡ sequence_says at (e - at) name (lines_at s e)
      sequence-bad x r =
          judged-bad at (e - at) name (lines_at s e) line behind split not-blank x
          (rest-refused (line_of line) 1 (line_of line).bases (line_of line) (e + (line_of line).width) behind x (sym same_rest ∙ r))

      pub sequence-body : (b : Body) → name.start ≤ e - at → rest_says first 1 first.bases first (e + first.width) (body_at s (e + first.width)) ≡ Ok b
          → GoodBody s at e name b
      sequence-body b m r =
          let q = rest-known (line_of line) 1 (line_of line).bases (line_of line) (e + (line_of line).width) behind b (sym same_rest ∙ r) in
          record { ordered = (h, k, m); line = line; rest = behind; body = (body-line s e n).0; some = not-blank; good = q.0; is = q.1 }

-- ---- behind the sequence lines

module _ (s : List ℕ) (at e : ℕ) (name : Span) (b : Body) (g : GoodBody s at e name b) where
  abbrev ls : List (List ℕ)
  ls = g.line ∷ g.rest

  body_is : body_of (lines_at s e) ≡ ls
  unfolding body_at
  body_is = g.body

  pub next-is : b.next ≡ e + sum_widths ls
  unfolding sum_widths
  next-is = rw g.is (omega arith)

  plus-at : from_plus (lines_at s e) ≡ lines_at s b.next
  plus-at = sym (lines-plus s e) ∙ rw (next-is, g.body)

  pub body-plusless : length s ≤ b.next → refused_at at NoPlusLine ≡ sequence_says at (e - at) name (lines_at s e)
  body-plusless z = judged-plusless at (e - at) name (lines_at s e) g.line g.rest body_is g.some g.good (plus-at ∙ lines_end s b.next z)

  module _ (z : b.next < length s) (q : ℕ) (t : q ≡ line_end s b.next) where
    abbrev plus_line : List ℕ
    plus_line = part s b.next (line_end s b.next)

    plus-cut : from_plus (lines_at s e) ≡ plus_line ∷ lines_at s q
    plus-cut = plus-at ∙ lines_at-cut s b.next z ∙ ap (λ (i : ℕ). plus_line ∷ lines_at s i) (sym t)

    partners : map line_of ls ≡ partners_of b.count b.first b.last
    partners =
        let one : suc (length g.rest) ≡ 1 + length g.rest = omega arith in
        partners-are (line_of g.line) g.rest g.good (line_of g.line) (λ n. refl)
        ∙ ap (λ (m : ℕ). partners_of m (line_of g.line) (last_line (line_of g.line) g.rest)) one
        ∙ ap (λ (c : Body). partners_of c.count c.first c.last) (sym g.is)

    pub body-quality : (y : Refusal) → qualities_say q (partners_of b.count b.first b.last) (lines_at s q) ≡ Err y → refused_at at y ≡ sequence_says at (e - at) name (lines_at s e)
    body-quality y r =
        judged-quality at (e - at) name (lines_at s e) g.line g.rest body_is g.some g.good plus_line (lines_at s q) plus-cut y
        (ap (λ (ps : List Line). qualities_of ps (lines_at s q)) partners ∙ qualities-refused q (partners_of b.count b.first b.last) (lines_at s q) y r)

    pub plus-within : (q ≤ length s) × (b.next < q)
    plus-within = rw t (line_end-le s b.next (omega arith), line_end-gt s b.next z)

    -- the step to a row, by its numbers: bases, the first line, the position, the quality position, and the place behind it
    abbrev step_to : ℕ → Line → ℕ → ℕ → ℕ → Step
    step_to n x p o next =
        record {
          answer = Ok (Some (record {
            «record» = record {
              name_start = at + name.start;
              name_length = name.length;
              length = n;
              position = record { 0 = p };
              line_bases = x.bases;
              line_width = x.width;
              description_start = 0;
              description_length = 0;
            };
            qualities = record { 0 = o };
          }));
          next = next;
        }

    bases-are : b.bases ≡ sum_bases ls
    unfolding sum_bases
    bases-are = rw g.is

    first-is : b.first ≡ first_line ls
    first-is = rw g.is

    from-here : at + (e - at) + sum_widths ls + length plus_line ≡ q
    from-here =
        omega (arith, next-is, t, g.ordered, part_length s b.next (line_end s b.next) (line_end-le s b.next (omega arith)), line_end-gt s b.next z)

    pub body-row : (next : ℕ) → qualities_say q (partners_of b.count b.first b.last) (lines_at s q) ≡ Ok next
        → step_to b.bases b.first e q next ≡ sequence_says at (e - at) name (lines_at s e)
    body-row next r =
        let y = qualities-known q (partners_of b.count b.first b.last) (lines_at s q) next r in
        let start : at + (e - at) ≡ e = omega (arith, g.ordered) in
        let many : length (partners_of b.count b.first b.last) ≡ suc (length g.rest) = ap length (sym partners) ∙ length-map ls line_of in
        let ends : next ≡ at + (e - at) + sum_widths ls + length plus_line + sum_widths (take (suc (length g.rest)) (lines_at s q)) =
        y.1 ∙ rw (from-here, many) in
        ap (λ (n : ℕ). step_to n b.first e q next) bases-are
        ∙ ap (λ (x : Line). step_to (sum_bases ls) x e q next) first-is
        ∙ ap (λ (p : ℕ). step_to (sum_bases ls) (first_line ls) p q next) (sym start)
        ∙ ap (λ (o : ℕ). step_to (sum_bases ls) (first_line ls) (at + (e - at)) o next) (sym from-here)
        ∙ ap (step_to (sum_bases ls) (first_line ls) (at + (e - at)) (at + (e - at) + sum_widths ls + length plus_line)) ends
        ∙ judged-row at (e - at) name (lines_at s e) g.line g.rest body_is g.some g.good plus_line (lines_at s q) plus-cut
        (ap (λ (ps : List Line). qualities_of ps (lines_at s q)) partners ∙ y.0)

-- ---- the record at an offset

module _ (s : List ℕ) (at : ℕ) where
  pub record-end : length s ≤ at → record { answer = Ok None; next = at } ≡ record_at s at
  unfolding record_at
  record-end h = rw (lines_end s at h)

  module _ (h : at < length s) (e : ℕ) (t : e ≡ line_end s at) where
    long : length (part s at (line_end s at)) ≡ e - at
    long = part_length s at (line_end s at) (line_end-le s at (omega arith)) ∙ ap (λ (n : ℕ). n - at) (sym t)

    pub record-named : (d : Definition) → marked_says 64 (content_of (part s at e)) ≡ Ok d → sequence_says at (e - at) d.name (lines_at s e) ≡ record_at s at
    unfolding record_at
    record-named d m = rw (lines_at-cut s at h, ← t, m, rw (← t) at long)

    pub record-bad : (f : Fault) → marked_says 64 (content_of (part s at e)) ≡ Err f → refused_at at (refusal_at f at) ≡ record_at s at
    unfolding record_at
    record-bad f m = rw (lines_at-cut s at h, ← t, m)

    pub record-ends : (at < e) × (e ≤ length s)
    record-ends = rw t (line_end-gt s at h, line_end-le s at (omega arith))

    pub record-name : (d : Definition) → marked_says 64 (content_of (part s at e)) ≡ Ok d → d.name.start ≤ e - at
    record-name d m = omega (arith, marked-within 64 (part s at e) d m, part_length s at e record-ends.1)
