use Rattle.std.proofs.Common.{◌<◌, length, sym, subst, arith}
use Rattle.book_clauses.specs.BookClauses.{IsUsage}
use Rattle.findings.proofs.AssumeLaws.{usage_read}
use Rattle.findings.proofs.assuming.usage_of.Goals as goal

pub returns : goal.returns
returns c = λ b cs vars are.
    let lits = c.args.lits.now in
    let below : c.args.variant < length lits = omega arith in
    subst (IsUsage b cs vars c.args.variant) (sym c.index-lits-place.is) (usage_read b cs vars c.args.variant lits c.index-lits-place.result below are)
