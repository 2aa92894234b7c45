use Rattle.std.proofs.Common.{◌≡◌, Some, sym, subst, ap, ◌∙◌}
use Rattle.std.specs.List.{slice_get, slice_set}
use Rattle.propagate.specs.Watching.{Watching, IsWatching, list_of, Shifted, Watches}
use Rattle.propagate.specs.Attaching.{pushed_at}
use Rattle.propagate.specs.declared.watch.Watch.{Watch}
use Rattle.propagate.proofs.WatchLaws.{CanShift, moved, can_move, entry_found, moved_by, moved_is_watching, moved_shifted, moved_watches, one_entry}
use Rattle.propagate.proofs.watches.WatchedClauses.shift.Goals as goal

pub invariant_of-self-2 : goal.invariant_of-self-2
invariant_of-self-2 c =
    let w : Watching = record { clauses = c.self.inside.store; watched = c.self.inside.watched.items; lists = c.self.inside.lists } in
    let e : Watch = c.watch-clause.result in
    let after : Watching = record { clauses = c.self.inside.store; watched = slice_set c.self.inside.watched.items e.clause (record { first = c.args.other; second = c.args.fresh }); lists = c.remove.new.self } in
    let can = subst (λ (x : Watching). CanShift x c.args.code c.args.at c.args.other c.args.fresh) (sym c.self.view_is)
    (record { list = c.requires.list; there = c.requires.there; open_list = c.requires.fresh_list; other_in = c.requires.other_in; open_in = c.requires.fresh_in; apart = c.requires.apart; not_code = c.requires.not_code; other_not_code = c.requires.other_not_code }) in
    let found = subst (λ (x : Watch). slice_get (list_of w c.args.code) c.args.at ≡ Some x) (sym (c.watch-clause.ensures.value ∙ c.index-entries-at.is)) (entry_found c.entries.result.now (list_of w c.args.code) c.args.at c.index-entries-at.result c.entries.ensures can.there) in
    let moves = can_move w c.args.code c.args.at c.args.other c.args.fresh e c.self.invariant can found in
    let more = c.in_ok-push.ensures.ok ∙ ap (λ (x : Watch). pushed_at w.lists c.args.fresh x) c.of-entry.ensures in
    let is = moved_by w c.args.code c.args.at c.args.other c.args.fresh e c.remove.result c.remove.new.self c.push.new.self more c.remove.ensures.lists c.remove.ensures.entry found c.requires.not_code in
    subst (λ (x : Watching). IsWatching x) (sym is) (moved_is_watching w c.args.code c.args.at c.args.other c.args.fresh e moves c.self.invariant)

pub returns-clause-shifted : goal.returns-clause-shifted
returns-clause-shifted c =
    let w : Watching = record { clauses = c.self.inside.store; watched = c.self.inside.watched.items; lists = c.self.inside.lists } in
    let e : Watch = c.watch-clause.result in
    let after : Watching = record { clauses = c.self.inside.store; watched = slice_set c.self.inside.watched.items e.clause (record { first = c.args.other; second = c.args.fresh }); lists = c.remove.new.self } in
    let can = subst (λ (x : Watching). CanShift x c.args.code c.args.at c.args.other c.args.fresh) (sym c.self.view_is)
    (record { list = c.requires.list; there = c.requires.there; open_list = c.requires.fresh_list; other_in = c.requires.other_in; open_in = c.requires.fresh_in; apart = c.requires.apart; not_code = c.requires.not_code; other_not_code = c.requires.other_not_code }) in
    let found = subst (λ (x : Watch). slice_get (list_of w c.args.code) c.args.at ≡ Some x) (sym (c.watch-clause.ensures.value ∙ c.index-entries-at.is)) (entry_found c.entries.result.now (list_of w c.args.code) c.args.at c.index-entries-at.result c.entries.ensures can.there) in
    let moves = can_move w c.args.code c.args.at c.args.other c.args.fresh e c.self.invariant can found in
    let more = c.in_ok-push.ensures.ok ∙ ap (λ (x : Watch). pushed_at w.lists c.args.fresh x) c.of-entry.ensures in
    let is = moved_by w c.args.code c.args.at c.args.other c.args.fresh e c.remove.result c.remove.new.self c.push.new.self more c.remove.ensures.lists c.remove.ensures.entry found c.requires.not_code in
    subst (λ (x : Watching). Shifted x after c.args.code c.args.at) c.self.view_is
    (subst (λ (x : Watching). Shifted w x c.args.code c.args.at) (sym is) (moved_shifted w c.args.code c.args.at c.args.other c.args.fresh e moves))

pub returns-clause-watches : goal.returns-clause-watches
returns-clause-watches c = λ f is_there.
    let w : Watching = record { clauses = c.self.inside.store; watched = c.self.inside.watched.items; lists = c.self.inside.lists } in
    let e : Watch = c.watch-clause.result in
    let after : Watching = record { clauses = c.self.inside.store; watched = slice_set c.self.inside.watched.items e.clause (record { first = c.args.other; second = c.args.fresh }); lists = c.remove.new.self } in
    let can = subst (λ (x : Watching). CanShift x c.args.code c.args.at c.args.other c.args.fresh) (sym c.self.view_is)
    (record { list = c.requires.list; there = c.requires.there; open_list = c.requires.fresh_list; other_in = c.requires.other_in; open_in = c.requires.fresh_in; apart = c.requires.apart; not_code = c.requires.not_code; other_not_code = c.requires.other_not_code }) in
    let found = subst (λ (x : Watch). slice_get (list_of w c.args.code) c.args.at ≡ Some x) (sym (c.watch-clause.ensures.value ∙ c.index-entries-at.is)) (entry_found c.entries.result.now (list_of w c.args.code) c.args.at c.index-entries-at.result c.entries.ensures can.there) in
    let moves = can_move w c.args.code c.args.at c.args.other c.args.fresh e c.self.invariant can found in
    let more = c.in_ok-push.ensures.ok ∙ ap (λ (x : Watch). pushed_at w.lists c.args.fresh x) c.of-entry.ensures in
    let is = moved_by w c.args.code c.args.at c.args.other c.args.fresh e c.remove.result c.remove.new.self c.push.new.self more c.remove.ensures.lists c.remove.ensures.entry found c.requires.not_code in
    let there = subst (λ (x : Watching). slice_get (list_of x c.args.code) c.args.at ≡ Some f) (sym c.self.view_is) is_there in
    let same : e ≡ f = one_entry (list_of w c.args.code) c.args.at e f found there in
    subst (λ (x : Watching). Watches x after f.clause c.args.other c.args.fresh) c.self.view_is
    (subst (λ (x : Watching). Watches w x f.clause c.args.other c.args.fresh) (sym is)
    (subst (λ (g : Watch). Watches w (moved w c.args.code c.args.at c.args.other c.args.fresh e) g.clause c.args.other c.args.fresh) same (moved_watches w c.args.code c.args.at c.args.other c.args.fresh e moves)))
