-- Laws of the complete rule: its rows lead to the bases of their records, a record that any index line matches is good by it, and where
-- the ported rule gives a row, it gives the same.
use Rattle.std.specs.Prelude.{ℕ, suc, ◌+◌, ◌-◌, ◌^◌, ◌<◌, drop, Some, Result, Ok, Err}
use Rattle.std.proofs.Math.Path.{◌≡◌, refl}
use Rattle.std.proofs.Common.{ap, drop-drop, arith, zero-add}
use mathlib.Core.List.{List, [], ◌∷◌}
use Rattle.std.proofs.Math.ListN.{length}
use Rattle.definition.specs.declared.Fault.{Fault}
use Rattle.lines.specs.Lines.{lines, seq_of, seq_at, sum_widths, bases_at}
use Rattle.lines.specs.Groups.{Group, groups}
use Rattle.lines.specs.GroupLaws.{lines-behind}
use Rattle.lines.specs.Sums.{sum-le}
use Rattle.definition.specs.Definition.{definition_says}
use Rattle.definition.specs.Laws.{name-within}
use Rattle.definition.specs.declared.Definition.{Definition}
use Rattle.record.specs.EvenLines.{length-bases_at}
use Rattle.record.specs.declared.Record.{Record}
use Rattle.table.specs.Fill.{with_first}
use Rattle.index_line.specs.IndexLine.{name_in}
use Rattle.index_line.specs.Laws.{line-sound}
use Rattle.indexer.specs.Rule.{Verdict, good, bad, judged_by, sequence_by, defined_by, first_by, record_by, stepped, groups_by, file_by}
use Rattle.indexer.specs.Index.{judge, ported}
use Rattle.fitting.specs.Complete.{fit, numbers_at, complete_row, complete}
use Rattle.fitting.specs.declared.Numbers.{Numbers}
use Rattle.fitting.specs.Leads.{any-leads, leads-good, good-leads}
use Rattle.fitting.specs.Sound.{numbers-sound}
use Rattle.fitting.specs.FirstLine.{Terminated, terminated-here}
use Rattle.fitting.specs.Even.{FirstLineFits, even-fits}
use Rattle.checker.specs.Accepts.{bytes_of, record_at, sequence_at, Matches}
use Rattle.mission.specs.NameLaws.{name-spaceless}
use Rattle.mission.specs.IndexedLaws.{name-bytes, description-inside, sequence-within, FirstGroup, first_group, good-even, Along, along-file}
use Rattle.mission.specs.Leading.{LeadsTo}

-- ---- the rows that it gives lead to every base

-- the row of the first group of a file from an offset on
led : (f : List ℕ) (at : ℕ) (g : Group) (gs : List Group) (d : Definition) → FirstGroup f at g gs → definition_says g.def ≡ Ok d → fit (at + length g.def) g.seq ≡ good
    → LeadsTo f (at + length g.def) g (complete_row at (length g.def) d g.seq)
unfolding fit name_in
led f at g gs d h e j =
    let n = name-bytes f at g.def h.others d g.seq h.here e in
    let i = rw h.sequence at (sequence-within f at g.def h.others h.here) in
    let v = numbers-sound (at + length g.def) g.seq in
    record {
      said = d;
      defined = e;
      named = omega (arith, name-within g.def d e, i);
      name = n;
      unbroken = rw n (name-spaceless g.def d e);
      described = description-inside f g.def at d e (omega (arith, i));
      summed = refl;
      lined = λ m. record {
        some-bases = v.some-bases;
        some-width = v.some-width;
        fits-length = omega (arith, sum-le g.seq, i);
        fits-position = omega (arith, v.position, i);
        fits-bases = omega (arith, v.bases (2 ^ 64 - 1) (omega arith) (omega (arith, i)));
        fits_width = omega (arith, v.width (2 ^ 64 - 1) (omega arith) (omega (arith, i)));
      };
      places = λ k m. good-leads (numbers_at (at + length g.def) g.seq) (bases_at (at + length g.def) g.seq) j k (rw length-bases_at m);
    }

pub rows-lead : (f : List ℕ) → Along (LeadsTo f) 0 (groups (lines f)) (file_by complete f 0).rows (file_by complete f 0).stop
rows-lead f = along-file complete (LeadsTo f) f (led f)

-- ---- a record that a line leads to is taken

-- an index line that matches a record: the record's numbers lead too
pub matched-fits : (n start : ℕ) (g : Group) (l : List ℕ) → Matches n start g l → fit start g.seq ≡ good
unfolding fit numbers_at
matched-fits n start g l m =
    let x = m.both.entry.«record» in
    let y : Numbers = record { position = x.position.0; bases = x.line_bases; width = x.line_width } in
    leads-good _ (bases_at start g.seq)
    (any-leads start _ (bases_at start g.seq) y (line-sound n l m.both.entry m.both.reads).lined.some-bases (λ j h. m.places j (rw length-bases_at at h)))

-- a record's definition line reads, and its numbers lead to every base
pub record Fits (start : ℕ) (g : Group) : Type 0 where
  pub said : Definition
  pub defined : definition_says g.def ≡ Ok said
  pub fits : fit start g.seq ≡ good

pub all_fit : (gs : List Group) (at : ℕ) → ((k : ℕ) → k < length gs → Fits (at + sequence_at gs k) (record_at gs k)) → (groups_by complete gs at).stop ≡ Ok tt
unfolding groups_by sequence_by bytes_of
all_fit [] at h = refl
all_fit (g ∷ gs) at h =
    let z : Fits (at + length g.def) g = rw zero-add at (h 0 (omega arith)) in
    rw (z.defined, z.fits) (all_fit gs (at + length g.def + sum_widths g.seq) (λ k m. rw (q k) at (h (suc k) (omega arith))))
  where
    q : (k : ℕ) → at + sequence_at (g ∷ gs) (suc k) ≡ at + length g.def + sum_widths g.seq + sequence_at gs k
    q k = omega arith

-- ---- a record that the ported indexer takes

-- a good record's numbers are the same, and lead to every base
good-fits : (start : ℕ) (ls : List (List ℕ)) → judge start ls ≡ good → Terminated ls → FirstLineFits start ls
good-fits start [] h b = absurd (omega (arith, (good-even start [] h).1))
good-fits start (l ∷ ls) h b = let e = good-even start (l ∷ ls) h in even-fits start l ls e.0 e.1 b

-- a record's sequence lines, by its place in a file
lines-terminated : (f : List ℕ) (at : ℕ) (l : List ℕ) (ls : List (List ℕ)) → lines (drop at f) ≡ l ∷ ls → Terminated (seq_of ls)
unfolding seq_at
lines-terminated f at l ls h =
    let e : seq_at f (at + length l) ≡ seq_of ls = rw (← drop-drop (length l) at f, lines-behind (drop at f) l ls h) in
    rw e at (terminated-here f (at + length l) (omega (arith, sequence-within f at l ls h)))

-- a good record's answer is the same
same_answer : (at n : ℕ) (d : Definition) (ls : List (List ℕ)) → judge (at + n) ls ≡ good → Terminated ls → sequence_by complete at n d ls ≡ sequence_by ported at n d ls
unfolding sequence_by
same_answer at n d ls j b =
    let s = good-fits (at + n) ls j b in
    rw (s.fits, j, s.numbers)

module _ (f : List ℕ) where
  -- if the ported indexer gives a row for the record at an offset, the complete one gives the same row, and the same next place
  pub same-record : (at : ℕ) (x : Record) → (record_by ported f at).answer ≡ Ok (Some x) → record_by complete f at ≡ record_by ported f at
  unfolding record_by sequence_by
  same-record at x h = go (lines (drop at f)) refl h
    where
      judged : (l : List ℕ) (ls : List (List ℕ)) → Terminated (seq_of ls) → (d : Definition) (v : Verdict) → judge (at + length l) (seq_of ls) ≡ v → (judged_by ported at (length l) d (seq_of ls) v).answer ≡ Ok (Some x)
          → sequence_by complete at (length l) d (seq_of ls) ≡ sequence_by ported at (length l) d (seq_of ls)
      judged l ls b d good j q = same_answer at (length l) d (seq_of ls) j b
      judged l ls b d (bad y) j q = let z : ◌≡◌ {A = ℕ} 0 1 = cc in absurd (omega arith)

      defined : (l : List ℕ) (ls : List (List ℕ)) → Terminated (seq_of ls) → (p : Result Definition Fault) → (defined_by ported at (length l) (seq_of ls) p).answer ≡ Ok (Some x)
          → defined_by complete at (length l) (seq_of ls) p ≡ defined_by ported at (length l) (seq_of ls) p
      defined l ls b (Ok d) q = judged l ls b d (judge (at + length l) (seq_of ls)) refl q
      defined l ls b (Err y) q = refl

      go : (ls : List (List ℕ)) → lines (drop at f) ≡ ls → (first_by ported at ls).answer ≡ Ok (Some x) → first_by complete at ls ≡ first_by ported at ls
      go [] e q = refl
      go (l ∷ ls) e q = defined l ls (lines-terminated f at l ls e) (definition_says l) q

  -- so on a file that the ported one takes to its end, both give the same
  pub agree-groups : (gs : List Group) (at : ℕ) → groups (lines (drop at f)) ≡ gs → (groups_by ported gs at).stop ≡ Ok tt → groups_by complete gs at ≡ groups_by ported gs at
  unfolding groups_by sequence_by
  agree-groups [] at h e = refl
  agree-groups (g ∷ gs) at h e = defined (agree-groups gs) (definition_says g.def) e
    where
      k : FirstGroup f at g gs
      k = first_group f at g gs h

      broken : Terminated g.seq
      broken = rw k.sequence at (lines-terminated f at g.def k.others k.here)

      Behind : Type 0
      Behind = (o : ℕ) → groups (lines (drop o f)) ≡ gs → (groups_by ported gs o).stop ≡ Ok tt → groups_by complete gs o ≡ groups_by ported gs o

      judged : Behind → (d : Definition) (v : Verdict) → judge (at + length g.def) g.seq ≡ v → (stepped (judged_by ported at (length g.def) d g.seq v) (groups_by ported gs)).stop ≡ Ok tt
          → stepped (sequence_by complete at (length g.def) d g.seq) (groups_by complete gs) ≡ stepped (sequence_by ported at (length g.def) d g.seq) (groups_by ported gs)
      judged more d good j q = rw (same_answer at (length g.def) d g.seq j broken, j) (ap (with_first _) (more (at + length g.def + sum_widths g.seq) k.behind q))
      judged more d (bad y) j q = let z : ◌≡◌ {A = ℕ} 0 1 = cc in absurd (omega arith)

      defined : Behind → (p : Result Definition Fault) → (stepped (defined_by ported at (length g.def) g.seq p) (groups_by ported gs)).stop ≡ Ok tt
          → stepped (defined_by complete at (length g.def) g.seq p) (groups_by complete gs) ≡ stepped (defined_by ported at (length g.def) g.seq p) (groups_by ported gs)
      defined more (Ok d) q = judged more d (judge (at + length g.def) g.seq) refl q
      defined more (Err y) q = refl
