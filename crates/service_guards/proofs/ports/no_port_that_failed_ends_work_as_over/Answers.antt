use Rattle.service_guards.proofs.PortLaws.{works_over}
use Rattle.service_guards.proofs.ports.no_port_that_failed_ends_work_as_over.Goals as goal

pub returns : goal.returns
returns g c = works_over c.work.result _ _ _ _ _ _ c.work.ensures.works
