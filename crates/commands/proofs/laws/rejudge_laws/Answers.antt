use Rattle.commands.proofs.OneReply.{one_rejudge, one_impact}
use Rattle.commands.proofs.laws.rejudge_laws.Goals as goal

pub returns : goal.returns
returns c = record { rejudge = one_rejudge; impact = one_impact }
