use Rattle.book_compare.proofs.KeyRuns.{coded_made}
use Rattle.book_compare.proofs.position.encoded.Goals as goal

pub returns : goal.returns
returns c =
    let made = coded_made c.args.comparing.now.first.now c.args.comparing.now.second.now c.args.comparing.now.day c.args.comparing.now.joint c.in_ok-asking.asking c.add_positions.new.asking c.args.places.now c.in_ok-goals.goals.items c.encoded.result
    c.requires.joint c.in_ok-asking.ensures.clauses c.in_ok-asking.ensures.next c.in_ok-goals.ensures.made c.in_ok-goals.ensures.goals
    c.encoded.ensures.clauses c.encoded.ensures.vars c.encoded.ensures.goals in
    record { clauses = made.clauses; vars = made.variables; goals = made.goals }
