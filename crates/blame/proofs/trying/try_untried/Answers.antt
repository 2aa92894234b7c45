use Rattle.std.proofs.Common.{ℕ, ◌<◌, sym, ap, subst, ◌∙◌, length}
use Rattle.blame.proofs.KeptLaws.{has_within}
use Rattle.blame.proofs.MarkLaws.{marked_noted, marked_left, further_noted, further_used, further_left, settled_gone, settled_noted, settled_left}
use Rattle.blame.proofs.SearchedLaws.{closed_within, same_search, searched_found, searched_left, searched_used}
use Rattle.blame.proofs.trying.try_untried.Goals as goal

pub search_but-requires-clause-counted : goal.search_but-requires-clause-counted
search_but-requires-clause-counted c = ap length c.deref.ensures.value ∙ c.requires.marked.kept_counted

pub keep_used-requires : goal.keep_used-requires
keep_used-requires c =
    closed_within c.args.case.now c.args.marks.now.kept.items c.args.at c.args.budget c.search_but.new.solver c.in-Closed.place
    (same_search c.deref.ensures.value c.in-Closed.is c.in_ok-answer.ensures.searched)

pub returns-in_ok-keep_used-in-Closed-clause-marked : goal.returns-in_ok-keep_used-in-Closed-clause-marked
returns-in_ok-keep_used-in-Closed-clause-marked c =
    searched_used c.args.case.now c.args.at c.args.budget c.search_but.new.solver c.in-Closed.place c.args.marks.now c.keep_used.new.marks
    (same_search c.deref.ensures.value c.in-Closed.is c.in_ok-answer.ensures.searched)
    c.keep_used.ensures.kept c.in_ok-keep_used-in-Closed.ensures.left_out c.in_ok-keep_used-in-Closed.ensures.used c.keep_used.ensures.needed c.keep_used.ensures.left c.requires.marked

pub returns-in_ok-keep_used-in-Closed-clause-further : goal.returns-in_ok-keep_used-in-Closed-clause-further
returns-in_ok-keep_used-in-Closed-clause-further c = further_used c.args.marks.now c.keep_used.new.marks c.keep_used.ensures.kept c.keep_used.ensures.needed c.keep_used.ensures.left

pub returns-in_ok-keep_used-in-Closed-clause-settled : goal.returns-in_ok-keep_used-in-Closed-clause-settled
returns-in_ok-keep_used-in-Closed-clause-settled c = settled_gone c.args.at c.keep_used.new.marks c.in_ok-keep_used-in-Closed.ensures.left_out

pub note_need-requires-clause-inside : goal.note_need-requires-clause-inside
note_need-requires-clause-inside c =
    subst (λ (k : ℕ). c.args.at < k) (c.requires.marked.kept_counted ∙ sym c.requires.marked.needed.counted) (has_within c.args.marks.now.kept.items c.args.at c.requires.kept)

pub note_need-requires-clause-shown : goal.note_need-requires-clause-shown
note_need-requires-clause-shown c =
    searched_found c.args.case.now c.args.marks.now.kept.items c.args.at c.args.budget c.search_but.new.solver c.in-Set.set c.requires.marked.kept_counted
    (same_search c.deref.ensures.value c.in-Set.is c.in_ok-answer.ensures.searched)

pub returns-in_ok-note_need-in-Set-clause-marked : goal.returns-in_ok-note_need-in-Set-clause-marked
returns-in_ok-note_need-in-Set-clause-marked c =
    marked_noted c.args.case.now.book.now c.args.case.now.day c.args.case.now.rule.now c.args.case.now.entries.now c.args.budget c.args.marks.now c.note_need.new.marks
    c.note_need.ensures.kept c.note_need.ensures.left c.note_need.ensures.needed c.requires.marked

pub returns-in_ok-note_need-in-Set-clause-further : goal.returns-in_ok-note_need-in-Set-clause-further
returns-in_ok-note_need-in-Set-clause-further c =
    further_noted c.args.case.now.book.now c.args.case.now.day c.args.case.now.rule.now c.args.case.now.entries.now c.args.budget c.args.marks.now c.note_need.new.marks
    c.note_need.ensures.kept c.note_need.ensures.left c.note_need.ensures.more

pub returns-in_ok-note_need-in-Set-clause-settled : goal.returns-in_ok-note_need-in-Set-clause-settled
returns-in_ok-note_need-in-Set-clause-settled c = settled_noted c.args.at c.note_need.new.marks c.note_need.ensures.noted

pub returns-in-Spent-clause-marked : goal.returns-in-Spent-clause-marked
returns-in-Spent-clause-marked c =
    marked_left c.args.case.now.book.now c.args.case.now.day c.args.case.now.rule.now c.args.case.now.entries.now c.args.budget c.args.marks.now c.note_left.new.marks
    c.note_left.ensures.kept c.args.at c.note_left.ensures.needed c.requires.marked c.note_left.ensures.left
    (searched_left c.args.case.now c.args.marks.now.kept.items c.args.at c.args.budget c.search_but.new.solver c.in-Spent.learnt
    (same_search c.deref.ensures.value c.in-Spent.is c.in_ok-answer.ensures.searched))

pub returns-in-Spent-clause-further : goal.returns-in-Spent-clause-further
returns-in-Spent-clause-further c =
    further_left c.args.case.now.book.now c.args.case.now.day c.args.case.now.rule.now c.args.case.now.entries.now c.args.budget c.args.marks.now c.note_left.new.marks
    c.note_left.ensures.kept c.args.at c.note_left.ensures.needed c.note_left.ensures.left

pub returns-in-Spent-clause-settled : goal.returns-in-Spent-clause-settled
returns-in-Spent-clause-settled c =
    settled_left c.args.at c.args.marks.now c.note_left.new.marks
    (subst (λ (k : ℕ). c.args.at < k) (c.requires.marked.kept_counted ∙ sym c.requires.marked.left_counted) (has_within c.args.marks.now.kept.items c.args.at c.requires.kept))
    c.note_left.ensures.left
