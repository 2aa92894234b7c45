use Rattle.std.proofs.Common.{◌≤◌, ◌<◌, length, ap, arith}
use Rattle.derivation.specs.Reading.{so_far_of}
use Rattle.derivation.proofs.CloseLaws.{close_no_clause, close_not_closed, close_closed}
use Rattle.derivation.proofs.NamedLaws.{named_closed}
use Rattle.derivation.proofs.after.close_next.Goals as goal

pub returns-then-clause-len-clause-answer : goal.returns-then-clause-len-clause-answer
returns-then-clause-len-clause-answer c =
    let past : length c.args.slice.now.checker ≤ c.args.clause = omega (arith, c.len-2.ensures, ap length c.pool-pool.ensures) in
    close_no_clause (so_far_of c.args.slice.now) c.args.slice.now.to_close.items c.args.slice.now.closed c.index-next.result.now c.args.question c.args.clause (omega arith) c.index-next.ensures (cc) past

pub returns-then-not-closes-clause-answer : goal.returns-then-not-closes-clause-answer
returns-then-not-closes-clause-answer c =
    let there : c.args.clause < length c.args.slice.now.checker = omega (arith, c.len-2.ensures, ap length c.pool-pool.ensures) in
    close_not_closed (so_far_of c.args.slice.now) c.args.slice.now.to_close.items c.args.slice.now.closed c.index-next.result.now c.args.question c.args.clause c.lits.result.now (omega arith) c.index-next.ensures (cc) there
    (rw (← c.pool-pool.ensures) c.lits.ensures.clause) (cc)

pub returns-clause-answer : goal.returns-clause-answer
returns-clause-answer c =
    let there : c.args.clause < length c.args.slice.now.checker = omega (arith, c.len-2.ensures, ap length c.pool-pool.ensures) in
    close_closed (so_far_of c.args.slice.now) c.args.slice.now.to_close.items c.args.slice.now.closed c.index-next.result.now c.args.question c.args.clause c.lits.result.now (omega arith) c.index-next.ensures (cc) there
    (rw (← c.pool-pool.ensures) c.lits.ensures.clause) (cc)

pub returns-clause-named : goal.returns-clause-named
returns-clause-named c = λ named. named_closed (so_far_of c.args.slice.now) c.args.slice.now.to_close.items c.args.slice.now.closed c.index-next.result.now (omega arith) named
