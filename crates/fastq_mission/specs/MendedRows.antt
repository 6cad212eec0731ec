-- A FASTQ file with one base replaced has the same rows, and the indexer stops where it did: `rows_same`.
use Prim.Native.Nat.{ℕ, zero, suc, ◌+◌, ◌-◌, ◌≤◌, ◌<◌}
use Rattle.std.specs.Prelude.{◌≡◌, drop, set, Option, Some, None, Result, Ok, Err}
use Rattle.std.proofs.Math.Path.{refl, ap}
use Rattle.std.proofs.Common.{sym, ◌∙◌, length-set, get_or-drop, drop-set-lt, arith}
use mathlib.Core.List.{List, ◌∷◌, ◌++◌}
use Rattle.std.proofs.Math.ListN.{length, get_or}
use Rattle.std.proofs.lemmas.List.{drop-set-add}
use Rattle.refusal.specs.declared.Refusal.{Refusal}
use Rattle.lines.specs.Lines.{lines, line_end}
use Rattle.lines.specs.Laws.{lines_at-cut}
use Rattle.lines.specs.Mending.{set_in, set-later, lines-set, BaseOf, first, later, base-no-lf}
use Rattle.record.specs.BasePlaces.{place-from, base-of}
use Rattle.fastq.specs.Fastq.{lines_at, sequence_says, first_says}
use Rattle.fastq.specs.Fastq as fastq
use Rattle.fastq.specs.Parts.{part_of}
use Rattle.fastq.specs.declared.Part.TheVariants.{Bases}
use Rattle.fastq.specs.declared.QualityRow.{QualityRow}
use Rattle.fastq_table.specs.Fill.{with_first}
use Rattle.fastq_index.specs.File.{onwards, rows_of, rows_at}
use Rattle.fastq_checker.specs.Check.{part_lines, offsets_of}
use Rattle.fastq_checker.specs.Accepts.{records_of, record_at}
use Rattle.fastq_mission.specs.Front.{Front}
use Rattle.fastq_index.specs.Taken.{def_at, Taken, record-taken}
use Rattle.fastq_mission.specs.Leads.{Leads, start, position-is, bases-are, taken-leads}
use Rattle.fastq_mission.specs.Extents.{place_at, count_of, extent, rows-along, behind}
use Rattle.fastq_mission.specs.MendedLines.{said-past, said_here}

-- ---- a base is no LF

base-append : {ls : List (List ℕ)} {c j : ℕ} → BaseOf ls c j → (others : List (List ℕ)) → BaseOf (ls ++ others) c j
base-append (first h q) others = first h q
base-append (later r p q) others = later (base-append r others) p q

front-no-lf : (f : List ℕ) (at : ℕ) (ls : List (List ℕ)) → Front f at ls → (c j : ℕ) → BaseOf ls c j → get_or f (at + c) 0 ≡ 10 → ⊥
front-no-lf f at ls h c j r e = base-no-lf (drop at f) c j (rw h.here (base-append r h.others)) (get_or-drop at f c 0 ∙ e)

-- byte c of the sequence lines of a record is its base j + 1
base-here : (f : List ℕ) (x : QualityRow) (j o : ℕ) → j < count_of f x Bases → place_at f x Bases j ≡ o
    → (o ≡ x.«record».position.0 + (o - x.«record».position.0)) × BaseOf (part_lines f x Bases) (o - x.«record».position.0) j
unfolding offsets_of part_of
base-here f x j o h e =
    let w : o ≡ x.«record».position.0 + (o - x.«record».position.0) = omega (arith, place-from (part_lines f x Bases) x.«record».position.0 j h) in
    (w, base-of (part_lines f x Bases) x.«record».position.0 j (o - x.«record».position.0) h (e ∙ w))

pub base-is-no-lf : (f : List ℕ) (x : QualityRow) → Leads f x → (j o : ℕ) → j < count_of f x Bases → place_at f x Bases j ≡ o → get_or f o 0 ≡ 10 → ⊥
unfolding part_of
base-is-no-lf f x d j o h e z =
    let b = base-here f x j o h e in
    front-no-lf f x.«record».position.0 (part_lines f x Bases) (d.front Bases) (o - x.«record».position.0) j b.1 (ap (λ (n : ℕ). get_or f n 0) (sym b.0) ∙ z)

-- ---- the record at an offset

module _ (f : List ℕ) (b : ℕ) (lf : b ≡ 10 → ⊥) (cr : b ≡ 13 → ⊥) (plus : b ≡ 43 → ⊥) where
  lines-mended : (at c : ℕ) → (get_or f (at + c) 0 ≡ 10 → ⊥) → lines_at (set f (at + c) b) at ≡ set_in (lines_at f at) c b
  lines-mended at c n = ap lines (drop-set-add at f c b) ∙ lines-set (drop at f) c b (λ h e. n (sym (get_or-drop at f c 0) ∙ e)) lf

  -- behind the byte
  record-kept : (o at : ℕ) → o < at → fastq.record_at (set f o b) at ≡ fastq.record_at f at
  unfolding fastq.record_at
  record-kept o at h = ap (λ (s : List ℕ). first_says at (lines s)) (drop-set-lt at f o b h)

  -- before it, where what is behind the definition line says the same
  record-mended : {at : ℕ} {x : QualityRow} {next : ℕ} → (t : Taken f at x next) → (o c : ℕ) → (get_or f o 0 ≡ 10 → ⊥) → o ≡ at + (length (def_at f at) + c)
      → sequence_says at (length (def_at f at)) t.said.name (set_in (lines_at f (line_end f at)) c b) ≡ sequence_says at (length (def_at f at)) t.said.name (lines_at f (line_end f at))
      → fastq.record_at (set f o b) at ≡ fastq.record_at f at
  unfolding fastq.record_at
  record-mended {at} t o c n w e =
      let cut = lines_at-cut f at t.here in
      let here : lines_at (set f o b) at ≡ def_at f at ∷ set_in (lines_at f (line_end f at)) c b =
      ap (λ (k : ℕ). lines_at (set f k b) at) w
      ∙ lines-mended at (length (def_at f at) + c) (λ z. n (ap (λ (k : ℕ). get_or f k 0) w ∙ z))
      ∙ ap (λ (ls : List (List ℕ)). set_in ls (length (def_at f at) + c) b) cut
      ∙ set-later (def_at f at) (lines_at f (line_end f at)) c b in
      rw (here, cut, t.defined) e

  -- it is a base of the record
  taken_here : {at : ℕ} {x : QualityRow} {next : ℕ} → Taken f at x next → (j o : ℕ) → j < count_of f x Bases → place_at f x Bases j ≡ o → fastq.record_at (set f o b) at ≡ fastq.record_at f at
  taken_here {at} {x} t j o h e =
      let q = base-here f x j o h e in
      let c : ℕ = o - x.«record».position.0 in
      record-mended t o c (base-is-no-lf f x (taken-leads t) j o h e) (omega (arith, q.0, position-is t, start t))
      (said_here b lf cr plus at (length (def_at f at)) t.said.name (lines_at f (line_end f at)) c j (rw (bases-are t) at q.1))

  -- it lies behind the record
  taken-past : {at : ℕ} {x : QualityRow} {next : ℕ} → Taken f at x next → (o : ℕ) → next ≤ o → (get_or f o 0 ≡ 10 → ⊥) → fastq.record_at (set f o b) at ≡ fastq.record_at f at
  taken-past {at} {x} {next} t o h n =
      let x = extent t in
      let c : ℕ = o - (at + length (def_at f at)) in
      let w : o ≡ at + (length (def_at f at) + c) = omega (arith, t.good.on) in
      record-mended t o c n w (said-past b at (length (def_at f at)) t.said.name (lines_at f (line_end f at)) _ next t.good c (omega arith))

  -- ---- all records

  rows-kept : (m o at : ℕ) → o < at → rows_of m (set f o b) at ≡ rows_of m f at
  unfolding rows_of
  rows-kept zero o at h = refl
  rows-kept (suc m) o at h = rw (record-kept o at h) (go (fastq.record_at f at).answer refl (rows-kept m o (fastq.record_at f at).next))
    where
      go : (a : Result (Option QualityRow) Refusal) → (fastq.record_at f at).answer ≡ a → (o < (fastq.record_at f at).next → rows_of m (set f o b) (fastq.record_at f at).next ≡ rows_of m f (fastq.record_at f at).next)
          → onwards a (rows_of m (set f o b) (fastq.record_at f at).next) ≡ onwards a (rows_of m f (fastq.record_at f at).next)
      go (Ok (Some x)) e more = ap (with_first x) (more (omega (arith, (record-taken f at x e).good.on)))
      go (Ok None) e more = refl
      go (Err y) e more = refl

  rows-mended : (m at k j o : ℕ) → (get_or f o 0 ≡ 10 → ⊥) → k < length (rows_of m f at).rows → j < count_of f (record_at (rows_of m f at).rows k) Bases
      → place_at f (record_at (rows_of m f at).rows k) Bases j ≡ o → rows_of m (set f o b) at ≡ rows_of m f at
  unfolding rows_of
  rows-mended zero at k j o n h u e = refl
  rows-mended (suc m) at k j o n h u e = go (fastq.record_at f at).answer refl k h u e (λ r. rows-mended m (fastq.record_at f at).next r j o n)
    where
      go : (a : Result (Option QualityRow) Refusal) → (fastq.record_at f at).answer ≡ a → (k : ℕ) → k < length (onwards a (rows_of m f (fastq.record_at f at).next)).rows
          → j < count_of f (record_at (onwards a (rows_of m f (fastq.record_at f at).next)).rows k) Bases
          → place_at f (record_at (onwards a (rows_of m f (fastq.record_at f at).next)).rows k) Bases j ≡ o
          → ((r : ℕ) → r < length (rows_of m f (fastq.record_at f at).next).rows → j < count_of f (record_at (rows_of m f (fastq.record_at f at).next).rows r) Bases
          → place_at f (record_at (rows_of m f (fastq.record_at f at).next).rows r) Bases j ≡ o → rows_of m (set f o b) (fastq.record_at f at).next ≡ rows_of m f (fastq.record_at f at).next)
          → onwards (fastq.record_at (set f o b) at).answer (rows_of m (set f o b) (fastq.record_at (set f o b) at).next) ≡ onwards a (rows_of m f (fastq.record_at f at).next)
      go (Ok (Some x)) q zero h u e more =
          let t = record-taken f at x q in
          rw (taken_here t j o u e, q) (ap (with_first x) (rows-kept m o (fastq.record_at f at).next (omega (arith, (extent t).bases j u, (extent t).ordered))))
      go (Ok (Some x)) q (suc r) h u e more =
          let t = record-taken f at x q in
          let past : (fastq.record_at f at).next ≤ o = omega (arith, (behind (rows-along m f (fastq.record_at f at).next) r (omega arith)).places Bases j u) in
          rw (taken-past t o past n, q) (ap (with_first x) (more r (omega arith) u e))
      go (Ok None) q k h u e more = absurd (omega arith)
      go (Err y) q k h u e more = absurd (omega arith)

  pub rows_same : (k j o : ℕ) → Leads f (record_at (records_of f) k) → k < length (records_of f) → j < count_of f (record_at (records_of f) k) Bases → place_at f (record_at (records_of f) k) Bases j ≡ o
      → rows_at (set f o b) 0 ≡ rows_at f 0
  unfolding rows_at
  rows_same k j o d h u e = rw (length-set f o b) (rows-mended _ 0 k j o (base-is-no-lf f (record_at (records_of f) k) d j o u e) h u e)
