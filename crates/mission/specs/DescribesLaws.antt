-- Laws for Indexed.antt: why the rows of a file describe their records, and lead to their bases.
use Rattle.std.specs.Prelude.{ℕ, ◌+◌, ◌≡◌, refl, List, length, Ok}
use Rattle.std.proofs.Common.{sym, arith}
use Rattle.lines.specs.Lines.{lines}
use Rattle.lines.specs.Laws.{bases-le}
use Rattle.lines.specs.Groups.{Group, groups}
use Rattle.lines.specs.Sums.{sum-le}
use Rattle.definition.specs.Definition as definition
use Rattle.definition.specs.Laws.{name-within}
use Rattle.definition.specs.declared.Definition.{Definition}
use Rattle.record.specs.EvenLines.{length-all_bases}
use Rattle.record.specs.declared.Record.{Record}
use Rattle.indexer.specs.Rule.{good}
use Rattle.indexer.specs.Index.{judge, row_of, ported}
use Rattle.indexer.specs.File.{file_at}
use Rattle.mission.specs.NameLaws.{name-spaceless}
use Rattle.mission.specs.IndexedLaws.{name-bytes, description-inside, sequence-within, FirstGroup, good-even, good-places, first-within, Along, along-file, along-map}
use Rattle.mission.specs.Leading.{LeadsTo}
use Rattle.mission.specs.Describes.{Describes}

-- the row of the first group of a file from an offset on
described : (f : List ℕ) (at : ℕ) (g : Group) (gs : List Group) (d : Definition) → FirstGroup f at g gs → definition.definition_says g.def ≡ Ok d → judge (at + length g.def) g.seq ≡ good
    → Describes f (at + length g.def) g (row_of at (length g.def) d g.seq)
described f at g gs d h e j =
    let n = name-bytes f at g.def h.others d g.seq h.here e in
    let i = rw h.sequence at (sequence-within f at g.def h.others h.here) in
    record {
      said = d;
      defined = e;
      named = omega (arith, name-within g.def d e, i);
      name = n;
      unbroken = rw n (name-spaceless g.def d e);
      described = description-inside f g.def at d e (omega (arith, i));
      counted = sym (length-all_bases g.seq);
      summed = refl;
      position = refl;
      inside = i;
      first-bases = refl;
      first_width = refl;
      some-bases = (good-even (at + length g.def) g.seq j).1;
      places = good-places at (length g.def) d g.seq j;
    }

-- such a row leads to the record's bases
leads-to : {f : List ℕ} {start : ℕ} {g : Group} {x : Record} → Describes f start g x → LeadsTo f start g x
leads-to {f} {start} {g} {x} d =
    record {
      said = d.said;
      defined = d.defined;
      named = d.named;
      name = d.name;
      unbroken = d.unbroken;
      described = d.described;
      summed = d.summed;
      lined = λ small. record {
        some-bases = d.some-bases;
        some-width = omega (arith, d.some-bases, d.first-bases, d.first_width, bases-le g.seq);
        fits-length = omega (arith, d.summed, sum-le g.seq, d.inside);
        fits-position = omega (arith, d.position, d.inside);
        fits-bases = omega (arith, d.first-bases, bases-le g.seq, first-within g.seq, d.inside);
        fits_width = omega (arith, d.first_width, first-within g.seq, d.inside);
      };
      places = d.places;
    }

-- so it is along the rows of a file
pub file-described : (f : List ℕ) → Along (Describes f) 0 (groups (lines f)) (file_at f 0).rows (file_at f 0).stop
file-described f = along-file ported (Describes f) f (described f)

-- so they lead to their bases
pub file-leads : (f : List ℕ) → Along (LeadsTo f) 0 (groups (lines f)) (file_at f 0).rows (file_at f 0).stop
file-leads f = along-map (λ start g x d. leads-to d) (file-described f)
