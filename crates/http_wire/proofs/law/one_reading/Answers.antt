use Rattle.http_wire.proofs.OneReading.{reads_once}
use Rattle.http_wire.proofs.law.one_reading.Goals as goal

pub returns : goal.returns
returns c = reads_once
