use Rattle.desk_guards.proofs.SessionLaws.{one_untold}
use Rattle.desk_guards.proofs.failed_writes.no_call_is_answered_behind_a_failed_write.Goals as goal

pub returns : goal.returns
returns g c = one_untold c.session.result _ _ _ _ c.session.ensures.dealt
