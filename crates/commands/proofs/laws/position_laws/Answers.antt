use Rattle.commands.proofs.PositionLaws.{met, shown}
use Rattle.commands.proofs.laws.position_laws.Goals as goal

pub returns : goal.returns
returns c = record { met = met; shown = shown }
