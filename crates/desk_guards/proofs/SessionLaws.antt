-- What a session that ends in a failed write has answered.
use Rattle.std.proofs.Common.{◌≡◌, List, subst}
use Rattle.http_wire.specs.declared.message.Message.{Message}
use Rattle.answering.specs.Hand.{Hand}
use Rattle.session.specs.Dealing.{HasDealt}
use Rattle.session.specs.Responses.{AnswersAll}
use Rattle.session.specs.Session.{FailsLast, LinkTold, StopsWriting}
use Rattle.session.specs.declared.end.SessionEnd.{SessionEnd}
use Rattle.session.specs.declared.end.SessionEnd.TheVariants.{WriteFault}
use Rattle.session.specs.declared.end.WriteFault.{WriteFault as Unwritten}
use Rattle.desk_guards.specs.Sessions.{LeavesOneUntold}

pub one_untold : (end : SessionEnd) (h : Hand) (before after : LinkTold) (new : Hand) → HasDealt end h before after new → (fault : Unwritten) → end ≡ WriteFault fault
    → LeavesOneUntold h before.output new
one_untold end h before after new dealt fault is =
    let s = dealt.session in
    let fails : FailsLast s.due.messages h s.out before.output after.output fault =
    subst (λ (e : SessionEnd). StopsWriting e s.due.messages h s.out before.output after.output) is s.stops_writing in
    record {
      told = fails.done;
      untold = fails.last;
      one = fails.one;
      all = s.due.responses;
      answered = subst (λ (ms : List Message). AnswersAll ms h s.due.responses new) fails.are_all s.due.answered;
      responses = fails.responses;
      between = fails.between;
      are = fails.answered;
      middle = fails.middle;
      taken = fails.whole;
    }
