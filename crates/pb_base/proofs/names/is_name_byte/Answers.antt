use Rattle.std.proofs.Common.{refl, false}
use Rattle.pb_base.specs.declared.names.TheConstants.{NAME_BYTES}
use Rattle.pb_base.proofs.NameBytes.{is_told}
use Rattle.pb_base.proofs.names.is_name_byte.Goals as goal

pub returns : goal.returns
returns c = is_told NAME_BYTES c.args.b false refl c.ranges.b.fits
