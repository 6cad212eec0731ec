-- `sheet::bytes::Lent` has the region of the five numbers at a place.
use Rattle.std.proofs.Common.{◌∙◌}
use Rattle.sheet.specs.Bytes.{region-inside, region-here}
use Rattle.sheet.proofs.bytes.LentSource.region.Goals as goal

pub region_at-requires : goal.region_at-requires
region_at-requires c = region-inside _ _ c.requires

pub returns : goal.returns
returns c = c.region_at.ensures ∙ region-here _ _ c.requires _
