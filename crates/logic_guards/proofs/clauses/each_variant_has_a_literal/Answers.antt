use Rattle.logic_guards.proofs.ClauseLaws.{each_literal}
use Rattle.logic_guards.proofs.clauses.each_variant_has_a_literal.Goals as goal

pub returns : goal.returns
returns c = each_literal c.args.book.now c.book_clauses.result c.book_clauses.ensures.usages c.book_clauses.ensures.counted
