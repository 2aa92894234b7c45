-- A session over two halves is one over their ends.
use Rattle.std.proofs.Common.{◌≡◌, subst}
use Rattle.answering.specs.Hand.{Hand}
use Rattle.session.specs.Dealing.{HasDealt}
use Rattle.session.specs.Session.{LinkTold}
use Rattle.session.specs.declared.end.SessionEnd.{SessionEnd}

pub dealt_as : (end : SessionEnd) (h new : Hand) (before before' after after' : LinkTold) → before ≡ before' → after ≡ after'
    → HasDealt end h before after new → HasDealt end h before' after' new
dealt_as end h new before before' after after' first last dealt =
    subst (λ (l : LinkTold × LinkTold). HasDealt end h l.0 l.1 new) (λ i. (first i, last i)) dealt
