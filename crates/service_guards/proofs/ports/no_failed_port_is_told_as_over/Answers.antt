use Rattle.service_guards.proofs.PortLaws.{all_over}
use Rattle.service_guards.proofs.ports.no_failed_port_is_told_as_over.Goals as goal

pub returns : goal.returns
returns g c = all_over _ _ _ _ _ _ _ _ c.serve.result.how c.serve.ensures.runs
