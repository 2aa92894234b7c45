use Rattle.blame.proofs.GuardLaws.{sets_onwards}
use Rattle.blame.proofs.deciding.search_guarded.Goals as goal

pub returns-clause-sets : goal.returns-clause-sets
returns-clause-sets c = λ codes n test h. sets_onwards codes n test c.args.solver.now c.solve.new.self h c.in_ok-answer.ensures.onwards

pub returns-clause-answer : goal.returns-clause-answer
returns-clause-answer c = λ codes n test h below.
    c.read_answer.ensures codes n test (sets_onwards codes n test c.args.solver.now c.solve.new.self h c.in_ok-answer.ensures.onwards) below
