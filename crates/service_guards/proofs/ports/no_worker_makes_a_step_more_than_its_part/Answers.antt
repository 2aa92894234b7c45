use Rattle.service_guards.proofs.PortLaws.{within_parts}
use Rattle.service_guards.proofs.ports.no_worker_makes_a_step_more_than_its_part.Goals as goal

pub returns : goal.returns
returns g c = within_parts _ _ _ _ _ _ _ _ c.serve.result.how c.serve.ensures.runs
