-- A sort only moves the candidates.
use Rattle.std.proofs.Common.{All, false, length, sym, ap, subst, ◌∙◌}
use Rattle.std.proofs.lemmas.List.{length-replicate}
use Rattle.book_model.specs.Book.{SupplementFits}
use Rattle.supplement.proofs.WorklistLemmas.{standing_sorted}
use Rattle.supplement.proofs.standing.standing_rules.Goals as goal

pub rules_that_hold-requires-clause-fit : goal.rules_that_hold-requires-clause-fit
rules_that_hold-requires-clause-fit c =
    subst (λ n. All (SupplementFits n) c.args.supplements.now) (sym (ap length c.in_ok-none.ensures ∙ length-replicate c.args.codes false)) c.requires.fit

pub returns : goal.returns
returns c =
    standing_sorted c.args.codes c.args.supplements.now c.in_ok-none.none c.in_ok-standing.standing.items _ c.in_ok-none.ensures c.in_ok-standing.ensures.holding
    c.in_ok-standing.ensures.complete c.sort_unstable.ensures.permutation c.sort_unstable.ensures.sorted
