-- What the code finds of a line is what the line says; and what is known of a line that reads.
use Rattle.std.specs.Prelude.{ℕ, ◌≤◌, ◌≡◌, refl, List, [], ◌∷◌, ◌&&◌, length, take, Result, Ok, Err}
use Rattle.std.proofs.Common.{arith}
use Rattle.refusal.specs.declared.Refusal.{Refusal}
use Rattle.lines.specs.Lines.{content_of}
use Rattle.record.specs.declared.Record.{Record}
use Rattle.columns.specs.Fields.{cut_at, Numbers, numbers_from}
use Rattle.columns.specs.Fields.Numbers.{Are, Not}
use Rattle.columns.specs.Numbers.{Reads, numbers-read, reads_say}
use Rattle.index_line.specs.IndexLine.{fields_of, record_of, entry_read, fields_say, content_says, plain_end, only_if, index_line_says, name_of}
use Rattle.index_line.specs.AnyColumns.{name-front, numbers-lined}
pub use Rattle.index_line.specs.AnyColumns.{Lined}
use Rattle.index_line.specs.declared.Entry.{Entry}

-- ---- a line that reads

-- its content: a name, and four fields that are numbers
pub record ContentRead (l : List ℕ) (e : Entry) : Type 0 where
  pub name : List ℕ
  pub fields : List (List ℕ)
  pub numbers : List ℕ
  pub cut : fields_of l ≡ name ∷ fields
  pub reads : Reads 2 4 fields numbers e.plain
  pub same : e.«record» ≡ record_of (length name) numbers

pub content-known : (line : ℕ) (l : List ℕ) (e : Entry) → content_says line l ≡ Ok e → ContentRead l e
unfolding content_says
content-known line l e h = go (fields_of l) refl h
  where
    row : (name : List ℕ) (fs : List (List ℕ)) → fields_of l ≡ name ∷ fs → (ns : Numbers) → numbers_from line 2 4 fs ≡ ns → entry_read (length name) ns ≡ Ok e → ContentRead l e
    row name fs c (Not r) q k = let z : ◌≡◌ {A = ℕ} 0 1 = cc in absurd (omega arith)
    row name fs c (Are vs p) q k =
        let b : e.plain ≡ p = cc in
        record { name = name; fields = fs; numbers = vs; cut = c; reads = rw b (numbers-read line 2 4 fs vs p q); same = cc }

    go : (fs : List (List ℕ)) → fields_of l ≡ fs → fields_say line fs ≡ Ok e → ContentRead l e
    go [] c k = let z : ◌≡◌ {A = ℕ} 0 1 = cc in absurd (omega arith)
    go (name ∷ fs) c k = row name fs c (numbers_from line 2 4 fs) refl k

-- the number of the line stands only in refusals
pub content-said : (line : ℕ) (l : List ℕ) (e : Entry) → ContentRead l e → content_says line l ≡ Ok e
unfolding content_says
content-said line l e x = rw (x.cut, reads_say line x.reads, ← x.same)

pub content-any : (line other : ℕ) (l : List ℕ) (e : Entry) → content_says line l ≡ Ok e → content_says other l ≡ Ok e
content-any line other l e h = content-said other l e (content-known line l e h)

-- its fields, cut from it
pub fields-cut : (l f : List ℕ) (fs : List (List ℕ)) → fields_of l ≡ f ∷ fs → cut_at 4 l ≡ f ∷ fs
unfolding fields_of
fields-cut [] f fs e = let z : ◌≡◌ {A = ℕ} 0 1 = cc in absurd (omega arith)
fields-cut (b ∷ l) f fs e = e

-- the line itself, by its content
pub record LineIs (l : List ℕ) (e : Entry) : Type 0 where
  pub content : Entry
  pub known : ContentRead (content_of l) content
  pub same : e.«record» ≡ content.«record»
  pub plain : e.plain ≡ (plain_end l && content.plain)

pub line_known : (line : ℕ) (l : List ℕ) (e : Entry) → index_line_says line l ≡ Ok e → LineIs l e
unfolding index_line_says
line_known line l e h = go (content_says line (content_of l)) refl h
  where
    go : (r : Result Entry Refusal) → content_says line (content_of l) ≡ r → only_if (plain_end l) r ≡ Ok e → LineIs l e
    go (Err r) c k = let z : ◌≡◌ {A = ℕ} 0 1 = cc in absurd (omega arith)
    go (Ok x) c k = record { content = x; known = content-known line (content_of l) x c; same = cc; plain = cc }

pub line-any : (line other : ℕ) (l : List ℕ) (e : Entry) → index_line_says line l ≡ Ok e → index_line_says other l ≡ Ok e
unfolding index_line_says
line-any line other l e h = go (content_says line (content_of l)) refl h
  where
    go : (r : Result Entry Refusal) → content_says line (content_of l) ≡ r → only_if (plain_end l) r ≡ Ok e → only_if (plain_end l) (content_says other (content_of l)) ≡ Ok e
    go (Err r) c k = let z : ◌≡◌ {A = ℕ} 0 1 = cc in absurd (omega arith)
    go (Ok x) c k = rw (content-any line other (content_of l) x c) k

-- its record: the name is the front of the line, the numbers can stand in a line, and there is no description
pub record LineSound (l : List ℕ) (x : Record) : Type 0 where
  pub start : x.name_start ≡ 0
  pub name : take x.name_length l ≡ name_of l
  pub inside : x.name_length ≤ length l
  pub lined : Lined x
  pub no-description : (x.description_start ≡ 0) × (x.description_length ≡ 0)

pub line-sound : (line : ℕ) (l : List ℕ) (e : Entry) → index_line_says line l ≡ Ok e → LineSound l e.«record»
unfolding name_of
line-sound line l e h =
    let k = line_known line l e h in
    let c = k.known in
    let n = name-front 4 l c.name c.fields (fields-cut (content_of l) c.name c.fields c.cut) in
    rw (k.same, c.same)
    (record {
      start = refl;
      name = rw c.cut n.0;
      inside = n.1;
      lined = numbers-lined c.reads (omega arith) (length c.name);
      no-description = (refl, refl);
    })
