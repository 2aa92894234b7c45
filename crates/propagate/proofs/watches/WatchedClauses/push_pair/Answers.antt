use Rattle.std.proofs.Common.{◌≡◌, ℕ, Bool, List, [], ◌∷◌, ◌++◌, ◌<◌, true, eqb, length, sym, subst, ◌∙◌, ap}
use Rattle.std.proofs.lemmas.Bool.{eqb-true}
use Rattle.clause_pool.specs.Clause.{has}
use Rattle.propagate.specs.Watching.{Watching, IsWatching, IsListed}
use Rattle.propagate.specs.Attaching.{Attached}
use Rattle.propagate.specs.declared.watch.Watched.{Watched}
use Rattle.propagate.proofs.AttachLaws.{pushed_two, pair_by, pair_is_watching, pair_attached, pair_second}
use Rattle.propagate.proofs.watches.WatchedClauses.push_pair.Goals as goal

pub invariant_of-self-2 : goal.invariant_of-self-2
invariant_of-self-2 c =
    let w : Watching = record { clauses = c.self.inside.store; watched = c.self.inside.watched.items; lists = c.self.inside.lists } in
    let b : Bool = eqb (length c.args.lits.now) 2 in
    let watched = c.push_reserved.ensures.items ∙ ap (λ (xs : List Watched). xs ++ c.args.pair ∷ []) c.in_ok-make_room.ensures.items in
    let lists = c.in-Ok.ensures.ok ∙ pushed_two w.lists c.args.pair.first c.args.pair.second _ _ _ _ c.of-first.ensures c.of-second.ensures in
    let is = pair_by w c.args.lits.now c.args.pair b c.len-clause.result c.push.new.self c.push_reserved.new.self.items c.push_two.new.self c.len-clause.ensures c.in_ok-push.ensures.ok watched lists in
    let below = subst (λ (x : Watching). (l : ℕ) → has c.args.lits.now l ≡ true → l < length x.lists) (sym c.self.view_is) c.requires.below in
    subst (λ (x : Watching). IsWatching x) (sym is) (pair_is_watching w c.args.lits.now c.args.pair b c.self.invariant below c.requires.pair (λ e. eqb-true (length c.args.lits.now) 2 e))

pub returns-clause-attached : goal.returns-clause-attached
returns-clause-attached c =
    let w : Watching = record { clauses = c.self.inside.store; watched = c.self.inside.watched.items; lists = c.self.inside.lists } in
    let b : Bool = eqb (length c.args.lits.now) 2 in
    let watched = c.push_reserved.ensures.items ∙ ap (λ (xs : List Watched). xs ++ c.args.pair ∷ []) c.in_ok-make_room.ensures.items in
    let lists = c.in-Ok.ensures.ok ∙ pushed_two w.lists c.args.pair.first c.args.pair.second _ _ _ _ c.of-first.ensures c.of-second.ensures in
    let is = pair_by w c.args.lits.now c.args.pair b c.len-clause.result c.push.new.self c.push_reserved.new.self.items c.push_two.new.self c.len-clause.ensures c.in_ok-push.ensures.ok watched lists in
    let below = subst (λ (x : Watching). (l : ℕ) → has c.args.lits.now l ≡ true → l < length x.lists) (sym c.self.view_is) c.requires.below in
    subst (λ (x : Watching). Attached x (record { clauses = c.push.new.self; watched = c.push_reserved.new.self.items; lists = c.push_two.new.self }) c.args.lits.now c.args.pair) c.self.view_is
    (subst (λ (x : Watching). Attached w x c.args.lits.now c.args.pair) (sym is) (pair_attached w c.args.lits.now c.args.pair b c.self.invariant below c.requires.pair (λ e. eqb-true (length c.args.lits.now) 2 e)))

pub returns-clause-second : goal.returns-clause-second
returns-clause-second c =
    let w : Watching = record { clauses = c.self.inside.store; watched = c.self.inside.watched.items; lists = c.self.inside.lists } in
    let b : Bool = eqb (length c.args.lits.now) 2 in
    let watched = c.push_reserved.ensures.items ∙ ap (λ (xs : List Watched). xs ++ c.args.pair ∷ []) c.in_ok-make_room.ensures.items in
    let lists = c.in-Ok.ensures.ok ∙ pushed_two w.lists c.args.pair.first c.args.pair.second _ _ _ _ c.of-first.ensures c.of-second.ensures in
    let is = pair_by w c.args.lits.now c.args.pair b c.len-clause.result c.push.new.self c.push_reserved.new.self.items c.push_two.new.self c.len-clause.ensures c.in_ok-push.ensures.ok watched lists in
    let below = subst (λ (x : Watching). (l : ℕ) → has c.args.lits.now l ≡ true → l < length x.lists) (sym c.self.view_is) c.requires.below in
    subst (λ (x : Watching). IsListed (record { clauses = c.push.new.self; watched = c.push_reserved.new.self.items; lists = c.push_two.new.self }) c.args.pair.second (length x.clauses)) c.self.view_is
    (subst (λ (x : Watching). IsListed x c.args.pair.second (length w.clauses)) (sym is) (pair_second w c.args.lits.now c.args.pair b c.self.invariant below c.requires.pair (λ e. eqb-true (length c.args.lits.now) 2 e)))
