-- `sheet::bytes::Lent` counts its regions: eight bytes to a number, five numbers to a region.
use Rattle.std.proofs.Common.{sym}
use Rattle.sheet.specs.Bytes.{length-regions}
use Rattle.sheet.proofs.bytes.LentSource.count.Goals as goal

pub returns : goal.returns
returns c = sym (length-regions _)
