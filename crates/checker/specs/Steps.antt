-- The checker's steps from record to record, by places in the file and in the index.
use Rattle.std.specs.Prelude.{ℕ, ◌+◌, ◌-◌, ◌≤◌, ◌<◌, Bool, drop, Some, None, Result, Ok, Err, ⊤}
use Rattle.std.proofs.Math.Path.{◌≡◌, refl, ap, sym}
use Rattle.std.proofs.Common.{◌∙◌, eq-eqb, ne_eqb, ltb-true, ltb-false, arith}
use mathlib.Core.List.{List, [], ◌∷◌}
use Rattle.std.proofs.Math.Bool.{true, false}
use Rattle.std.proofs.Math.ListN.{length, drop_of_length-le}
use Rattle.std.proofs.Math.Dec.{ltb}
use Rattle.std.proofs.Math.Numerals.{add-one}
use Rattle.std.proofs.Math.Nat.{add-zero}
use Rattle.std.proofs.Math.Seq.{take-nil}
use Rattle.refusal.specs.declared.Refusal.{Refusal}
use Rattle.refusal.specs.declared.Refusal.TheVariants.{TooLong, LineAbsent, BytesLeft, LengthDiffers, NameDiffers, BaseElsewhere}
use Rattle.refusal.specs.Numbers.{over_limit}
use Rattle.lines.specs.Lines.{part, line_len, line_end, lines, seq_at, tail_of, sum_bases, sum_widths, bases_at}
use Rattle.lines.specs.Laws.{lines_at-cut, part_length, line_end-le, line_end-gt}
use Rattle.lines.specs.Groups.{Group, groups}
use Rattle.lines.specs.GroupLaws.{groups-cut, lines_next}
use Rattle.lines.specs.Same.{same_bytes}
use Rattle.definition.specs.Definition.{refusal_in}
use Rattle.definition.specs.Definition as definition
use Rattle.definition.specs.declared.Definition.{Definition}
use Rattle.definition.specs.declared.Fault.{Fault}
use Rattle.record.specs.Place.{place_in}
use Rattle.record.specs.declared.Record.{Record}
use Rattle.record.specs.declared.Position.{Position}
use Rattle.record.specs.declared.Offset.{Offset}
use Rattle.index_line.specs.IndexLine.{name_in}
use Rattle.index_line.specs.IndexLine as index
use Rattle.index_line.specs.Laws.{line-sound}
use Rattle.index_line.specs.declared.Entry.{Entry}
use Rattle.walking.specs.Places.{first_elsewhere, walked_as}
use Rattle.lines.specs.Sums.{widths-within}
use Rattle.checker.specs.Check.{span_of, sequence_says, entry_says, line_judged, against_lines, defined_says, record_says, and_then, records_say, from_says, check_of}
use Rattle.walking.specs.declared.Walked.{Walked}
use Rattle.checker.specs.declared.Place.{Place}

-- a record, by its definition line and the offset of its sequence
abbrev pub group_of : List ℕ → List ℕ → ℕ → Group
group_of def f start = record { def = def; seq = seq_at f start }

-- a line that has no bytes where there is none
unfoldable pub only_line : List ℕ → List (List ℕ)
only_line [] = []
only_line (b ∷ l) = (b ∷ l) ∷ []

-- the offset behind a sequence
abbrev pub behind_at : List ℕ → ℕ → ℕ
behind_at f start = start + sum_widths (seq_at f start)

-- the offset behind a record that is accepted
unfoldable pub judged_as : Result ⊤ Refusal → ℕ → Result ℕ Refusal
judged_as (Ok tt) next = Ok next
judged_as (Err x) next = Err x

-- the place behind a record that is accepted
abbrev pub stepped_as : Result ⊤ Refusal → Place → Result Place Refusal
stepped_as (Ok tt) next = Ok next
stepped_as (Err x) next = Err x

-- the place behind the record at a place and behind its line
abbrev pub place_behind : List ℕ → List ℕ → Place → Place
place_behind f i w = record {
  fasta = behind_at f (line_end f w.fasta);
  index = line_end i w.index;
  records = w.records + 1;
}

-- what the record at a place leads to, against the lines from the place on
unfoldable pub place_says : List ℕ → List ℕ → Place → Result ⊤ Refusal
place_says f i w =
    record_says (w.records + 1) w.fasta (group_of (part f w.fasta (line_end f w.fasta)) f (line_end f w.fasta)) (lines (drop w.index i))

unfoldable pub step_of : List ℕ → List ℕ → Place → Result Place Refusal
step_of f i w = stepped_as (place_says f i w) (place_behind f i w)

-- what the file and the index from a place on lead to
unfoldable pub check_at : List ℕ → List ℕ → Place → Result ⊤ Refusal
check_at f i w = records_say w.records w.fasta (groups (lines (drop w.fasta f))) (lines (drop w.index i))

-- ---- a sequence, by what the walk over it found

module _ (n at : ℕ) (seq : List (List ℕ)) (x : Record) (v : Walked) (h : v ≡ walked_as (place_in x) at seq) where
  bases-are : v.bases ≡ sum_bases seq
  unfolding walked_as
  bases-are = ap (λ (w : Walked). w.bases) h

  placed-are : v.placed ≡ first_elsewhere (place_in x) 0 (bases_at at seq)
  unfolding walked_as
  placed-are = ap (λ (w : Walked). w.placed) h

  next-is : v.next ≡ at + sum_widths seq
  unfolding walked_as
  next-is = ap (λ (w : Walked). w.next) h

  pub judged-length : (v.bases ≡ x.length → ⊥) → Err (LengthDiffers n) ≡ judged_as (sequence_says n at seq x) (at + sum_widths seq)
  unfolding judged_as sequence_says
  judged-length e = rw (ne_eqb (sum_bases seq) x.length (λ g. e (bases-are ∙ g)))

  module _ (e : v.bases ≡ x.length) where
    pub judged-there : v.placed ≡ None → Ok v.next ≡ judged_as (sequence_says n at seq x) (at + sum_widths seq)
    unfolding judged_as sequence_says
    judged-there g = rw (eq-eqb (sum_bases seq) x.length (sym bases-are ∙ e), ← placed-are, g, next-is)

    pub judged-elsewhere : (p : Position) (o : Offset) → v.placed ≡ Some (p, o) → Err (BaseElsewhere n p.0) ≡ judged_as (sequence_says n at seq x) (at + sum_widths seq)
    unfolding judged_as sequence_says
    judged-elsewhere p o g = rw (eq-eqb (sum_bases seq) x.length (sym bases-are ∙ e), ← placed-are, g)

-- ---- a record, stage by stage

module _ (n start next : ℕ) where
  module _ (name : List ℕ) (seq : List (List ℕ)) where
    module _ (named : List ℕ) (x : Record) (t : Bool) (h : t ≡ same_bytes name named) where
      pub judged-name : t ≡ false → Err (NameDiffers n) ≡ judged_as (entry_says n start name seq named x) next
      unfolding judged_as entry_says
      judged-name e = rw (← h, e)

      pub judged-same : t ≡ true → judged_as (sequence_says n start seq x) next ≡ judged_as (entry_says n start name seq named x) next
      unfolding entry_says
      judged-same e = rw (← h, e)

    pub judged-absent : (l : List ℕ) → length l ≡ 0 → Err (LineAbsent n) ≡ judged_as (against_lines n start name seq (only_line l)) next
    unfolding judged_as against_lines only_line
    judged-absent [] e = refl
    judged-absent (b ∷ l) e = absurd (omega arith)

    against-line : (l : List ℕ) → (length l ≡ 0 → ⊥) → against_lines n start name seq (only_line l) ≡ line_judged n start name seq l (index.index_line_says n l)
    unfolding against_lines only_line
    against-line [] z = absurd (z refl)
    against-line (b ∷ l) z = refl

    module _ (l : List ℕ) (z : length l ≡ 0 → ⊥) where
      pub judged-line : (r : Refusal) → index.index_line_says n l ≡ Err r → Err r ≡ judged_as (against_lines n start name seq (only_line l)) next
      unfolding judged_as
      judged-line r e = rw (against-line l z, e)

      pub judged-row : (e : Entry) → index.index_line_says n l ≡ Ok e
          → judged_as (entry_says n start name seq (name_in l e.«record») e.«record») next ≡ judged_as (against_lines n start name seq (only_line l)) next
      unfolding name_in
      judged-row e h =
          let k = line-sound n l e h in
          rw (against-line l z, h, k.start, k.name)

module _ (n at next : ℕ) (g : Group) (ls : List (List ℕ)) where
  pub judged-bad : (f : Fault) → definition.definition_says g.def ≡ Err f → Err (refusal_in f n at) ≡ judged_as (record_says n at g ls) next
  unfolding judged_as record_says
  judged-bad f e = rw e

  pub judged-named : (d : Definition) → definition.definition_says g.def ≡ Ok d
      → judged_as (against_lines n (at + length g.def) (span_of g.def d.name) g.seq ls) next ≡ judged_as (record_says n at g ls) next
  unfolding record_says
  judged-named d e = rw e

-- only the first of the lines that are left matters
pub first-line : (n at : ℕ) (g : Group) (l : List ℕ) (ls : List (List ℕ)) → record_says n at g (l ∷ []) ≡ record_says n at g (l ∷ ls)
unfolding record_says against_lines
first-line n at g l ls = go (definition.definition_says g.def)
  where
    go : (p : Result Definition Fault) → defined_says n at g (l ∷ []) p ≡ defined_says n at g (l ∷ ls) p
    go (Err f) = refl
    go (Ok d) = refl

-- the lines of the index from a place on: the first, and those behind it
module _ (i : List ℕ) (a : ℕ) where
  pub next-line : a ≤ length i → (n start : ℕ) (g : Group) → record_says n start g (only_line (part i a (line_end i a))) ≡ record_says n start g (lines (drop a i))
  unfolding lines line_len only_line
  next-line h n start g = go (ltb a (length i)) refl
    where
      some : (l : List ℕ) → 0 < length l → only_line l ≡ l ∷ []
      some [] m = absurd (omega arith)
      some (b ∷ l) m = refl

      go : (t : Bool) → ltb a (length i) ≡ t → record_says n start g (only_line (part i a (line_end i a))) ≡ record_says n start g (lines (drop a i))
      go true e =
          let m : a < length i = ltb-true _ _ e in
          rw (lines_at-cut i a m, some (part i a (line_end i a)) (omega (arith, part_length i a (line_end i a) (line_end-le i a h), line_end-gt i a m)))
          (first-line n start g _ _)
      go false e = rw (drop_of_length-le i (ltb-false _ _ e), take-nil {A = ℕ} (a + 0 - a))

  lines-tail : tail_of (lines (drop a i)) ≡ lines (drop (line_end i a) i)
  unfolding lines line_len
  lines-tail = go (ltb a (length i)) refl
    where
      go : (t : Bool) → ltb a (length i) ≡ t → tail_of (lines (drop a i)) ≡ lines (drop (line_end i a) i)
      go true e = rw (lines_at-cut i a (ltb-true _ _ e))
      go false e = rw (drop_of_length-le i (ltb-false _ _ e), add-zero a, drop_of_length-le i (ltb-false _ _ e))

-- ---- the record at a place

-- a line and the offset behind it
pub line-span : (f : List ℕ) (at : ℕ) → at < length f → at + length (part f at (line_end f at)) ≡ line_end f at
line-span f at h = omega (arith, part_length f at (line_end f at) (line_end-le f at (omega arith)), line_end-gt f at h)

module _ (f i : List ℕ) (w : Place) (g : w.fasta < length f) (h : w.index ≤ length i) (start behind : ℕ) (p : start ≡ line_end f w.fasta) (q : behind ≡ line_end i w.index) (j : Result ℕ Refusal)
    (k : j ≡ judged_as (record_says (w.records + 1) w.fasta (group_of (part f w.fasta start) f (w.fasta + length (part f w.fasta start))) (only_line (part i w.index behind))) (behind_at f (w.fasta + length (part f w.fasta start))))
  where
    judged-place : j ≡ judged_as (place_says f i w) (place_behind f i w).fasta
    unfolding place_says
    judged-place = k ∙ rw (p, q, line-span f w.fasta g, next-line i w.index h)

    pub stepped-refused : (r : Refusal) → j ≡ Err r → Err r ≡ step_of f i w
    unfolding step_of judged_as
    stepped-refused r e = go (place_says f i w) (sym judged-place ∙ e)
      where
        go : (v : Result ⊤ Refusal) → judged_as v (place_behind f i w).fasta ≡ Err r → Err r ≡ stepped_as v (place_behind f i w)
        go (Ok tt) g = let z : ◌≡◌ {A = ℕ} 0 1 = cc in absurd (omega arith)
        go (Err x) g = cc

    pub stepped-next : (n : ℕ) → j ≡ Ok n → Ok (record { fasta = n; index = behind; records = w.records + 1 }) ≡ step_of f i w
    unfolding step_of judged_as
    stepped-next n e = rw q (go (place_says f i w) (sym judged-place ∙ e))
      where
        go : (v : Result ⊤ Refusal) → judged_as v (place_behind f i w).fasta ≡ Ok n
            → Ok (record { fasta = n; index = line_end i w.index; records = w.records + 1 }) ≡ stepped_as v (place_behind f i w)
        go (Ok tt) g = cc
        go (Err x) g = let z : ◌≡◌ {A = ℕ} 0 1 = cc in absurd (omega arith)

-- ---- from place to place

-- what a step leads to
abbrev pub after : List ℕ → List ℕ → Result Place Refusal → Result ⊤ Refusal
after f i (Ok w) = check_at f i w
after f i (Err x) = Err x

module _ (f i : List ℕ) (w : Place) where
  pub check-step : w.fasta < length f → check_at f i w ≡ after f i (step_of f i w)
  unfolding check_at step_of place_says records_say seq_at
  check-step h =
      let c = lines_at-cut f w.fasta h in
      rw (c, groups-cut, ← lines_next f w.fasta _ _ c, line-span f w.fasta h, lines-tail i w.index, ← add-one w.records) (go (place_says f i w))
    where
      go : (v : Result ⊤ Refusal) → and_then v (check_at f i (place_behind f i w)) ≡ after f i (stepped_as v (place_behind f i w))
      go (Ok tt) = refl
      go (Err x) = refl

  pub check-end : length f ≤ w.fasta → length i ≤ w.index → check_at f i w ≡ Ok tt
  unfolding check_at records_say groups lines
  check-end h k = rw (drop_of_length-le f h, drop_of_length-le i k)

  pub check-left : length f ≤ w.fasta → w.index < length i → check_at f i w ≡ Err (BytesLeft w.records)
  unfolding check_at records_say groups lines
  check-left h k = rw (drop_of_length-le f h, lines_at-cut i w.index k)

  pub check-refused : (r : Refusal) → w.fasta < length f → step_of f i w ≡ Err r → Err r ≡ check_at f i w
  check-refused r h e = sym (check-step h ∙ rw e)

-- a step moves on in both, and leads to the same
pub record Moved (f i : List ℕ) (w n : Place) : Type 0 where
  pub on : w.fasta < n.fasta
  pub within : n.fasta ≤ length f
  pub inside : n.index ≤ length i
  pub records : n.records ≡ w.records + 1
  pub leads : check_at f i n ≡ check_at f i w

pub check-next : (f i : List ℕ) (w n : Place) → w.fasta < length f → w.index ≤ length i → step_of f i w ≡ Ok n → Moved f i w n
check-next f i w n h k e =
    let p : n ≡ place_behind f i w = unfold step_of in go (place_says f i w) e in
    rw p (record {
      on = omega (arith, line_end-gt f w.fasta h);
      within = omega (arith, widths-within f (line_end f w.fasta) (line_end-le f w.fasta (omega arith)));
      inside = line_end-le i w.index k;
      records = refl;
      leads = sym (check-step f i w h ∙ ap (after f i) (e ∙ ap Ok p));
    })
  where
    go : (v : Result ⊤ Refusal) → stepped_as v (place_behind f i w) ≡ Ok n → n ≡ place_behind f i w
    go (Ok tt) g = cc
    go (Err x) g = let z : ◌≡◌ {A = ℕ} 0 1 = cc in absurd (omega arith)

pub check-begin : (f i : List ℕ) (at line : ℕ) → check_at f i (record { fasta = at; index = line; records = 0 }) ≡ from_says f at i line
unfolding check_at from_says
check-begin f i at line = refl

-- behind the end of the index there is no line
pub check-past : (f i : List ℕ) (at line : ℕ) → length i < line → from_says f at i (length i) ≡ from_says f at i line
unfolding from_says
check-past f i at line h = rw (drop_of_length-le i {i = length i} (omega arith), drop_of_length-le i {i = line} (omega arith))

pub check-start : (f i : List ℕ) → over_limit (length f) ≡ false → over_limit (length i) ≡ false → from_says f 0 i 0 ≡ check_of f i
unfolding from_says check_of
check-start f i h k = rw (h, k)

pub check-long : (f i : List ℕ) → over_limit (length f) ≡ true → Err TooLong ≡ check_of f i
unfolding check_of
check-long f i h = rw h

pub check-long-index : (f i : List ℕ) → over_limit (length f) ≡ false → over_limit (length i) ≡ true → Err TooLong ≡ check_of f i
unfolding check_of
check-long-index f i h k = rw (h, k)
