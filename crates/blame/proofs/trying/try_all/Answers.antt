use Rattle.std.proofs.Common.{true, ap, ◌∙◌, length}
use Rattle.std.proofs.lemmas.List.{length-replicate}
use Rattle.blame.proofs.SearchedLaws.{closed_within, same_search, searched_first}
use Rattle.blame.proofs.trying.try_all.Goals as goal

pub search_but-requires-clause-counted : goal.search_but-requires-clause-counted
search_but-requires-clause-counted c =
    ap length c.deref.ensures.value ∙ ap length c.requires.untried.kept ∙ length-replicate (length c.args.case.now.entries.now) true

pub keep_used-requires : goal.keep_used-requires
keep_used-requires c =
    closed_within c.args.case.now c.args.marks.now.kept.items (length c.args.case.now.entries.now) c.args.budget c.search_but.new.solver c.in-Closed.place
    (same_search c.deref.ensures.value c.in-Closed.is c.in_ok-answer.ensures.searched)

pub returns-in-Closed-clause-marked : goal.returns-in-Closed-clause-marked
returns-in-Closed-clause-marked c =
    searched_first c.args.case.now (length c.args.case.now.entries.now) c.args.budget c.search_but.new.solver c.in-Closed.place c.args.marks.now c.keep_used.new.marks
    (same_search c.deref.ensures.value c.in-Closed.is c.in_ok-answer.ensures.searched)
    c.keep_used.ensures.kept c.in_ok-keep_used-in-Closed.ensures.left_out c.in_ok-keep_used-in-Closed.ensures.used c.keep_used.ensures.needed c.keep_used.ensures.left c.requires.untried
