-- The rule of this entry is marked, and is among those to be tried where it fires. The next entry is an earlier one.
use Rattle.std.proofs.Common.{◌≡◌, ℕ, ◌<◌, length, get_or, Option, None, Some, sym, subst, refl, ◌∙◌, arith}
use Rattle.std.specs.List.{slice_get}
use Rattle.std.proofs.lemmas.Option.{slice_get_read}
use Rattle.book_model.specs.Book.{SupplementFits}
use Rattle.book_model.specs.declared.record.Supplement.{Supplement}
use Rattle.supplement.proofs.OccurrenceLemmas.{IsAdding, adding_more, adding_same, entry_read, links_fall}
use Rattle.supplement.proofs.occurrences.OccurrenceLists.add_rules_of.Goals as goal

pub with-requires : goal.with-requires
with-requires c =
    let e = c.index-entry.result.now in
    let there = entry_read c.args.self.now.entries.items c.loop-at.at c.in-Some.place e c.in-Some.is c.loop-at.invariant.added.in_range c.index-entry.ensures in
    omega (arith, c.requires.linked.rules_in_range c.in-Some.place e there, c.loop-at.invariant.marked.same_rules, c.requires.marks)

pub fires-requires : goal.fires-requires
fires-requires c =
    let e = c.index-entry.result.now in
    let there = entry_read c.args.self.now.entries.items c.loop-at.at c.in-Some.place e c.in-Some.is c.loop-at.invariant.added.in_range c.index-entry.ensures in
    subst (λ (r : Supplement). SupplementFits (length c.args.set.now) r) (sym c.index-supplements-entry.is)
    (c.requires.fit e.rule c.index-supplements-entry.result (c.requires.linked.rules_in_range c.in-Some.place e there))

pub loop-at-smaller : goal.loop-at-smaller
loop-at-smaller c =
    let e = c.index-entry.result.now in
    let there = entry_read c.args.self.now.entries.items c.loop-at.at c.in-Some.place e c.in-Some.is c.loop-at.invariant.added.in_range c.index-entry.ensures in
    links_fall e.next c.loop-at.at c.in-Some.place c.in-Some.is (c.requires.linked.leads_back c.in-Some.place e there)

pub loop-at-smaller-in_ok-push : goal.loop-at-smaller-in_ok-push
loop-at-smaller-in_ok-push c =
    let e = c.index-entry.result.now in
    let there = entry_read c.args.self.now.entries.items c.loop-at.at c.in-Some.place e c.in-Some.is c.loop-at.invariant.added.in_range c.index-entry.ensures in
    links_fall e.next c.loop-at.at c.in-Some.place c.in-Some.is (c.requires.linked.leads_back c.in-Some.place e there)

pub loop-at-preserved : goal.loop-at-preserved
loop-at-preserved c =
    let rules = c.args.supplements.now in
    let day = c.args.day in
    let x = c.args.set.now in
    let entries = c.args.self.now.entries.items in
    let head = get_or c.args.self.now.heads.items c.args.code None in
    let place = c.in-Some.place in
    let e = c.index-entry.result.now in
    let s = c.index-supplements-entry.result in
    let marks = c.loop-at.marks in
    let there = entry_read entries c.loop-at.at place e c.in-Some.is c.loop-at.invariant.added.in_range c.index-entry.ensures in
    let rule_within = c.requires.linked.rules_in_range place e there in
    let of_rule : slice_get rules e.rule ≡ Some s = slice_get_read rules (length rules) e.rule s refl rule_within c.index-supplements-entry.is in
    let markable : e.rule < length marks = omega (arith, rule_within, c.loop-at.invariant.marked.same_rules, c.requires.marks) in
    let back = c.requires.linked.leads_back place e there in
    let so_far = subst (λ (at : Option ℕ). IsAdding rules day x entries head c.args.worklist.now c.loop-at.worklist c.args.marks.now marks at) c.in-Some.is c.loop-at.invariant in
    rw c.with.ensures (adding_same rules day x entries head c.args.worklist.now c.loop-at.worklist c.args.marks.now marks place e s there back of_rule markable (sym c.fires.ensures ∙ c.if-fires.false) so_far)

pub loop-at-preserved-in_ok-push : goal.loop-at-preserved-in_ok-push
loop-at-preserved-in_ok-push c =
    let rules = c.args.supplements.now in
    let day = c.args.day in
    let x = c.args.set.now in
    let entries = c.args.self.now.entries.items in
    let head = get_or c.args.self.now.heads.items c.args.code None in
    let place = c.in-Some.place in
    let e = c.index-entry.result.now in
    let s = c.index-supplements-entry.result in
    let marks = c.loop-at.marks in
    let there = entry_read entries c.loop-at.at place e c.in-Some.is c.loop-at.invariant.added.in_range c.index-entry.ensures in
    let rule_within = c.requires.linked.rules_in_range place e there in
    let of_rule : slice_get rules e.rule ≡ Some s = slice_get_read rules (length rules) e.rule s refl rule_within c.index-supplements-entry.is in
    let markable : e.rule < length marks = omega (arith, rule_within, c.loop-at.invariant.marked.same_rules, c.requires.marks) in
    let back = c.requires.linked.leads_back place e there in
    let so_far = subst (λ (at : Option ℕ). IsAdding rules day x entries head c.args.worklist.now c.loop-at.worklist c.args.marks.now marks at) c.in-Some.is c.loop-at.invariant in
    rw c.with.ensures (adding_more rules day x entries head c.args.worklist.now c.loop-at.worklist _ c.args.marks.now marks place e s there back of_rule markable c.in_ok-push.ensures so_far)
