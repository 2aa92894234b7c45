use Rattle.std.proofs.Common.{ℕ, List, subst}
use Rattle.findings.specs.Core.{AssumesNone}
use Rattle.findings.proofs.AssumeLaws.{assumes_uncovered}
use Rattle.findings.proofs.assuming.assume_none.Goals as goal

pub returns : goal.returns
returns c = λ cs vars are known.
    assumes_uncovered c.args.book.now cs vars c.args.day c.args.position c.assume_unused.new.assumed.items
    (subst (λ (vs : List ℕ). AssumesNone c.args.book.now cs vars c.args.day vs c.assume_unused.new.assumed.items) c.variants_of.ensures.value (c.in_ok-known.ensures cs vars are known))
