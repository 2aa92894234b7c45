use Rattle.std.proofs.Common.{ℕ, List, IfOk, length, subst, ◌∙◌}
use Rattle.book_model.specs.Good.{is_good}
use Rattle.clausify.specs.Items.{rule_items}
use Rattle.item_search.specs.Search.{IsOutcome}
use Rattle.item_search.proofs.SearchLaws.{over_within}
use Rattle.order_stays.proofs.FindLaws.{lits_below, lits_consistent, rules_code}
use Rattle.order_stays.proofs.finding.search_with.Goals as goal

pub search-requires-clause-within : goal.search-requires-clause-within
search-requires-clause-within c =
    over_within (length c.args.book.now.codes) (rule_items c.args.book.now c.args.day) c.args.solver.now c.requires.over

pub search-requires-clause-below : goal.search-requires-clause-below
search-requires-clause-below c =
    lits_below c.args.kept.now c.deref.result.now (c.deref.ensures.value ∙ c.in_ok-lits.ensures) (length c.args.book.now.codes) c.args.solver.now.codes
    c.requires.over.codes c.requires.kept

pub search-requires-clause-consistent : goal.search-requires-clause-consistent
search-requires-clause-consistent c = lits_consistent c.args.kept.now c.deref.result.now (c.deref.ensures.value ∙ c.in_ok-lits.ensures)

pub returns-clause-over : goal.returns-clause-over
returns-clause-over c = c.search.ensures.over (length c.args.book.now.codes) (rule_items c.args.book.now c.args.day) c.requires.over

pub returns-clause-outcome : goal.returns-clause-outcome
returns-clause-outcome c =
    let b = c.args.book.now in
    subst (λ (ls : List ℕ). IfOk c.search.result (IsOutcome (length b.codes) (rule_items b c.args.day) (is_good b c.args.day) ls c.args.budget))
    (c.deref.ensures.value ∙ c.in_ok-lits.ensures)
    (c.search.ensures.outcome (length b.codes) (rule_items b c.args.day) (is_good b c.args.day) c.requires.over (rules_code b c.args.day c.codes.ensures.book))
