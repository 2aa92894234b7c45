use Rattle.std.proofs.Common.{arith}
use Rattle.item_search.proofs.SearchLaws.{over_onwards, codes_onwards, over_codes, outcome_over}
use Rattle.item_search.proofs.searching.search.Goals as goal

pub solve-requires-clause-below : goal.solve-requires-clause-below
solve-requires-clause-below c = λ l is_in. let low = c.requires.below l is_in in omega (arith, c.requires.within)

pub read_answer-requires-clause-below : goal.read_answer-requires-clause-below
read_answer-requires-clause-below c = λ l is_in. let low = c.requires.below l is_in in omega (arith, c.in_ok-answer.ensures.onwards.same_codes)

pub returns-clause-answered : goal.returns-clause-answered
returns-clause-answered c = λ n test codes.
    c.read_answer.ensures n test (codes_onwards n test c.args.solver.now c.solve.new.self codes c.in_ok-answer.ensures.onwards)

pub returns-clause-outcome : goal.returns-clause-outcome
returns-clause-outcome c = λ n is test over codes.
    outcome_over n is test c.solve.new.self c.args.lits.now c.args.budget (over_onwards n is c.args.solver.now c.solve.new.self over c.in_ok-answer.ensures.onwards) c.read_answer.result
    (c.read_answer.ensures n test
    (codes_onwards n test c.args.solver.now c.solve.new.self (over_codes n is test c.args.solver.now over codes) c.in_ok-answer.ensures.onwards))
