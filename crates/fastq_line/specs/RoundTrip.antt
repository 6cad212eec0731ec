-- A line of six columns that is written reads back as the same name and numbers, and what a plain line says is written as the same bytes.
use Rattle.std.specs.Prelude.{ℕ, zero, suc, ◌+◌, ◌^◌, ◌<◌, ◌≡◌, refl, List, [], ◌∷◌, ◌++◌, true, ◌&&◌, length, get_or, take, eqb, Result, Ok, Err}
use Rattle.std.proofs.Common.{sym, ap, ◌∙◌, append_assoc, arith, length-append, ne_eqb}
use Rattle.std.proofs.Math.Bool.{and-false}
use Rattle.refusal.specs.declared.Refusal.{Refusal}
use Rattle.lines.specs.Lines.{content_of}
use Rattle.columns.specs.Bytes.{is}
use Rattle.columns.specs.Fields.{cut_at, tabbed, Numbers, numbers_from, numbers_text, text_of}
use Rattle.columns.specs.Fields.Numbers.{Are, Not}
use Rattle.columns.specs.Lacks.{Lacks}
use Rattle.columns.specs.Numbers.{Allowed, Reads, numbers-read, text-reads, reads_say, reads-count}
use Rattle.columns.specs.Cut.{text-cut}
use Rattle.index_line.specs.IndexLine.{plain_end}
use Rattle.index_line.specs.Ends.{content-lf, plain-lf}
use Rattle.index_line.specs.AnyColumns.{Lined, name-front, plain-text}
use Rattle.index_line.specs.RoundTripLaws.{ends-digit}
use Rattle.fastq.specs.declared.QualityRow.{QualityRow}
use Rattle.fastq_line.specs.SixColumns.{fields_of, row_of, entry_read, fields_say, content_says, only_if, six_line_says, six_columns_of}
use Rattle.fastq_line.specs.declared.Entry.{Entry}

-- a row's five numbers
abbrev pub five_of : QualityRow → List ℕ
five_of x = six_columns_of x.«record» x.qualities

-- the line of a name and a row
unfoldable pub six_line_of : List ℕ → QualityRow → List ℕ
six_line_of name x = text_of name (five_of x)

-- what it reads back as: the same five numbers behind a name of n bytes, in a plain line
unfoldable pub entry_of : ℕ → QualityRow → Entry
entry_of n x = record { row = row_of n (five_of x); plain = true }

-- ---- written, then read

lined-allowed : (x : QualityRow) → Lined x.«record» → x.qualities.0 < 2 ^ 64 → (i : ℕ) → i < 5 → Allowed (2 + i) (get_or (five_of x) i 0)
lined-allowed x p q zero h = (p.fits-length, and-false (eqb x.«record».length 0))
lined-allowed x p q (suc zero) h = (p.fits-position, and-false (eqb x.«record».position.0 0))
lined-allowed x p q (suc (suc zero)) h = (p.fits-bases, rw (ne_eqb x.«record».line_bases 0 (λ e. omega (arith, p.some-bases))))
lined-allowed x p q (suc (suc (suc zero))) h = (p.fits_width, rw (ne_eqb x.«record».line_width 0 (λ e. omega (arith, p.some-width))))
lined-allowed x p q (suc (suc (suc (suc zero)))) h = (q, and-false (eqb x.qualities.0 0))
lined-allowed x p q (suc (suc (suc (suc (suc i))))) h = absurd (omega arith)

fields-some : (l : List ℕ) → 0 < length l → fields_of l ≡ cut_at 5 l
unfolding fields_of
fields-some [] h = absurd (omega arith)
fields-some (b ∷ l) h = refl

content-written : (line : ℕ) (name : List ℕ) (x : QualityRow) → Lacks (is 9) name → Lined x.«record» → x.qualities.0 < 2 ^ 64
    → content_says line (name ++ numbers_text (five_of x)) ≡ Ok (entry_of (length name) x)
unfolding content_says entry_of tabbed
content-written line name x h p q =
    rw (fields-some (name ++ numbers_text (five_of x)) (simp length-append (omega arith)), text-cut name (five_of x) h, reads_say line (text-reads (five_of x) 2 (lined-allowed x p q)))

-- a line that is written reads back as the same name bytes and the same five numbers, and is plain
pub written-reads : (line : ℕ) (name : List ℕ) (x : QualityRow) → Lacks (is 9) name → Lined x.«record» → x.qualities.0 < 2 ^ 64
    → six_line_says line (six_line_of name x) ≡ Ok (entry_of (length name) x)
unfolding six_line_says six_line_of text_of entry_of
written-reads line name x h p q =
    let e = ends-digit name x.«record».length (x.«record».position.0 ∷ x.«record».line_bases ∷ x.«record».line_width ∷ x.qualities.0 ∷ []) in
    rw (← append_assoc name (numbers_text (five_of x)) (10 ∷ []), plain-lf _ e, content-lf _ e, content-written line name x h p q)

-- ---- read, then written

-- a content that reads: a name, and five fields that are numbers
pub record ContentRead (l : List ℕ) (e : Entry) : Type 0 where
  pub name : List ℕ
  pub fields : List (List ℕ)
  pub numbers : List ℕ
  pub cut : fields_of l ≡ name ∷ fields
  pub reads : Reads 2 5 fields numbers e.plain
  pub same : e.row ≡ row_of (length name) numbers

content-known : (line : ℕ) (l : List ℕ) (e : Entry) → content_says line l ≡ Ok e → ContentRead l e
unfolding content_says
content-known line l e h = go (fields_of l) refl h
  where
    row : (name : List ℕ) (fs : List (List ℕ)) → fields_of l ≡ name ∷ fs → (ns : Numbers) → numbers_from line 2 5 fs ≡ ns → entry_read (length name) ns ≡ Ok e → ContentRead l e
    row name fs c (Not r) q k = let z : ◌≡◌ {A = ℕ} 0 1 = cc in absurd (omega arith)
    row name fs c (Are vs p) q k =
        let b : e.plain ≡ p = cc in
        record { name = name; fields = fs; numbers = vs; cut = c; reads = rw b (numbers-read line 2 5 fs vs p q); same = cc }

    go : (fs : List (List ℕ)) → fields_of l ≡ fs → fields_say line fs ≡ Ok e → ContentRead l e
    go [] c k = let z : ◌≡◌ {A = ℕ} 0 1 = cc in absurd (omega arith)
    go (name ∷ fs) c k = row name fs c (numbers_from line 2 5 fs) refl k

pub fields-cut : (l f : List ℕ) (fs : List (List ℕ)) → fields_of l ≡ f ∷ fs → cut_at 5 l ≡ f ∷ fs
unfolding fields_of
fields-cut [] f fs e = let z : ◌≡◌ {A = ℕ} 0 1 = cc in absurd (omega arith)
fields-cut (b ∷ l) f fs e = e

content-said : (line : ℕ) (l : List ℕ) (e : Entry) → ContentRead l e → content_says line l ≡ Ok e
unfolding content_says
content-said line l e x = rw (x.cut, reads_say line x.reads, ← x.same)

-- a line that reads does so whatever its number is
pub line-any : (line other : ℕ) (l : List ℕ) (e : Entry) → six_line_says line l ≡ Ok e → six_line_says other l ≡ Ok e
unfolding six_line_says
line-any line other l e h = go (content_says line (content_of l)) refl h
  where
    go : (r : Result Entry Refusal) → content_says line (content_of l) ≡ r → only_if (plain_end l) r ≡ Ok e → only_if (plain_end l) (content_says other (content_of l)) ≡ Ok e
    go (Err r) c k = let z : ◌≡◌ {A = ℕ} 0 1 = cc in absurd (omega arith)
    go (Ok x) c k = rw (content-said other (content_of l) x (content-known line (content_of l) x c)) k

-- a line that reads, by its content
pub record LineIs (l : List ℕ) (e : Entry) : Type 0 where
  pub content : Entry
  pub known : ContentRead (content_of l) content
  pub same : e.row ≡ content.row
  pub plain : e.plain ≡ (plain_end l && content.plain)

pub line_known : (line : ℕ) (l : List ℕ) (e : Entry) → six_line_says line l ≡ Ok e → LineIs l e
unfolding six_line_says
line_known line l e h = go (content_says line (content_of l)) refl h
  where
    go : (r : Result Entry Refusal) → content_says line (content_of l) ≡ r → only_if (plain_end l) r ≡ Ok e → LineIs l e
    go (Err r) c k = let z : ◌≡◌ {A = ℕ} 0 1 = cc in absurd (omega arith)
    go (Ok x) c k = record { content = x; known = content-known line (content_of l) x c; same = cc; plain = cc }

five : (vs : List ℕ) (n : ℕ) → length vs ≡ 5 → five_of (row_of n vs) ≡ vs
five [] n h = absurd (omega arith)
five (a ∷ []) n h = absurd (omega arith)
five (a ∷ b ∷ []) n h = absurd (omega arith)
five (a ∷ b ∷ c ∷ []) n h = absurd (omega arith)
five (a ∷ b ∷ c ∷ d ∷ []) n h = absurd (omega arith)
five (a ∷ b ∷ c ∷ d ∷ e ∷ []) n h = refl
five (a ∷ b ∷ c ∷ d ∷ e ∷ f ∷ r) n h = absurd (omega arith)

-- the line of what a plain line says has the same bytes
pub plain-writes : (line : ℕ) (l : List ℕ) (e : Entry) → six_line_says line l ≡ Ok e → e.plain ≡ true
    → six_line_of (take e.row.«record».name_length l) e.row ≡ l
unfolding six_line_of
plain-writes line l e h p =
    let k = line_known line l e h in
    let c = k.known in
    let cut = fields-cut (content_of l) c.name c.fields c.cut in
    rw (k.same, c.same, (name-front 5 l c.name c.fields cut).0)
    (ap (text_of c.name) (five c.numbers (length c.name) (reads-count c.reads)) ∙ plain-text 5 l c.name c.fields cut c.numbers k.content.plain c.reads (sym k.plain ∙ p))
