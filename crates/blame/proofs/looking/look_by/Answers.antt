use Rattle.std.proofs.Common.{◌*◌, Bool, List, ◌&&◌, length}
use Rattle.pb_base.specs.Rule.{holds}
use Rattle.item_search.proofs.SearchLaws.{over_within, none_below, none_consistent}
use Rattle.blame.specs.Blame.{blame_items}
use Rattle.blame.specs.Entries.{meets_all}
use Rattle.blame.proofs.CodeLaws.{blame_code, looked_by}
use Rattle.blame.proofs.looking.look_by.Goals as goal

pub search-requires-clause-within : goal.search-requires-clause-within
search-requires-clause-within c =
    over_within (length c.args.book.now.codes) (blame_items c.args.book.now c.args.entries.now c.args.rule.now) c.args.solver.now c.requires.over

pub search-requires-clause-below : goal.search-requires-clause-below
search-requires-clause-below c = none_below (2 * c.args.solver.now.codes)

pub search-requires-clause-consistent : goal.search-requires-clause-consistent
search-requires-clause-consistent c = none_consistent

pub returns : goal.returns
returns c =
    let b = c.args.book.now in
    looked_by b c.args.day c.args.entries.now c.args.rule.now c.args.budget c.in_ok-outcome.outcome
    (c.in_ok-outcome.ensures.outcome (length b.codes) (blame_items b c.args.entries.now c.args.rule.now)
    (λ (x : List Bool). meets_all b c.args.day x c.args.entries.now && holds c.args.rule.now x) c.requires.over
    (blame_code b c.args.day c.codes-codes.ensures.book c.args.entries.now c.args.rule.now c.requires.fit c.requires.rule))
