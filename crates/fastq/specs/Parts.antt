-- The two parts of a FASTQ record that are read: its bases, and its qualities, which have the same lines at another position.
use Rattle.record.specs.declared.Record.{Record}
use Rattle.fastq.specs.declared.QualityRow.{QualityRow}
use Rattle.fastq.specs.declared.Part.{Part}
use Rattle.fastq.specs.declared.Part.TheVariants.{Bases, Qualities}

unfoldable pub part_of : Part → QualityRow → Record
part_of Bases x = x.«record»
part_of Qualities x =
    record {
      name_start = x.«record».name_start;
      name_length = x.«record».name_length;
      length = x.«record».length;
      position = x.qualities;
      line_bases = x.«record».line_bases;
      line_width = x.«record».line_width;
      description_start = x.«record».description_start;
      description_length = x.«record».description_length;
    }
