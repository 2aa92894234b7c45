use Rattle.std.proofs.Common.{◌≡◌, ℕ, ◌*◌, ◌<◌, List, [], ◌∷◌, ◌++◌, length, get_or, arith, sym, ap, subst, ◌∙◌}
use Rattle.clause_pool.specs.Literal.{complement}
use Rattle.clause_pool.specs.Clause.{has}
use Rattle.propagate.specs.Trail.{Trail, IsTrail}
use Rattle.propagate.specs.Engine.{Extends, IsOpenAbove, cut}
use Rattle.propagate.proofs.KeepLaws.{same_default}
use Rattle.solver.specs.Marks.{false_at}
use Rattle.solver.specs.Search.{IsJump, next_of}
use Rattle.solver.proofs.PoolLaws.{clause_below}
use Rattle.solver.proofs.SearchLaws.{jump_opens, settled_jumped, assumed_jumped}
use Rattle.solver.proofs.backjump.backjump.Goals as goal

-- what stands at the place that was read
forced_is : (t : Trail) (xs : List ℕ) (place y u : ℕ) → place < length t.lits → xs ≡ t.lits → y ≡ get_or xs place y → u ≡ complement y → u ≡ false_at t.lits place
forced_is t xs place y u within lits read is = is ∙ ap complement (read ∙ ap (λ (l : List ℕ). get_or l place y) lits ∙ same_default t.lits place y 0 within)

jump_is : (t : Trail) (clauses : List (List ℕ)) (c : List ℕ) (at u place n : ℕ) → at ≡ length t.clauses → c ≡ get_or clauses at [] → u ≡ false_at t.lits place → IsJump t c u n → IsJump t (next_of clauses t) (false_at t.lits place) n
jump_is t clauses c at u place n count lits forced j =
    subst (λ (l : ℕ). IsJump t (next_of clauses t) l n) forced
    (subst (λ (d : List ℕ). IsJump t d u n) (lits ∙ ap (λ (k : ℕ). get_or clauses k []) count) j)

pub jump_level-level-requires-clause-below : goal.jump_level-level-requires-clause-below
jump_level-level-requires-clause-below c = λ l is_in.
    clause_below (2 * c.args.engine.now.vars) c.args.pool.now.clauses c.clauses-at.result l c.requires.below (ap (λ (d : List ℕ). has d l) (sym c.lits.ensures.clause) ∙ is_in)

pub attach-requires-clause-below : goal.attach-requires-clause-below
attach-requires-clause-below c = λ l is_in.
    let low = clause_below (2 * c.args.engine.now.vars) c.args.pool.now.clauses c.clauses-at.result l c.requires.below is_in in
    let vars : c.back_to.new.self.vars ≡ c.args.engine.now.vars = ap (λ (t : Trail). t.vars) c.back_to.ensures in
    omega (arith, low, vars)

pub attach-requires-clause-open_above : goal.attach-requires-clause-open_above
attach-requires-clause-open_above c =
    let t : Trail = c.args.engine.now in
    let forced = forced_is t c.trail.result.now c.args.place c.index-trail-place.result c.not-forced.result c.requires.asserting.within c.trail.ensures.lits c.index-trail-place.is c.not-forced.ensures in
    let j = jump_is t c.args.pool.now.clauses c.lits.result.now c.clauses-at.result c.not-forced.result c.args.place c.jump_level-level.result c.clauses-at.ensures c.lits.ensures.clause forced c.jump_level-level.ensures in
    subst (λ (z : Trail). 0 < length z.starts → IsOpenAbove z (get_or c.args.pool.now.clauses c.clauses-at.result [])) (sym c.back_to.ensures)
    (subst (λ (k : ℕ). 0 < length (cut t c.jump_level-level.result).starts → IsOpenAbove (cut t c.jump_level-level.result) (get_or c.args.pool.now.clauses k [])) (sym c.clauses-at.ensures)
    (jump_opens t (next_of c.args.pool.now.clauses t) c.args.place c.jump_level-level.result c.trail.ensures.trail c.requires.asserting j))

pub returns-clause-settled : goal.returns-clause-settled
returns-clause-settled c =
    let t : Trail = c.args.engine.now in
    let forced = forced_is t c.trail.result.now c.args.place c.index-trail-place.result c.not-forced.result c.requires.asserting.within c.trail.ensures.lits c.index-trail-place.is c.not-forced.ensures in
    let j = jump_is t c.args.pool.now.clauses c.lits.result.now c.clauses-at.result c.not-forced.result c.args.place c.jump_level-level.result c.clauses-at.ensures c.lits.ensures.clause forced c.jump_level-level.ensures in
    settled_jumped t (next_of c.args.pool.now.clauses t) c.args.place c.jump_level-level.result c.trail.ensures.trail c.requires.asserting j c.attach.new.self
    (subst IsTrail c.back_to.ensures c.trail-3.ensures.trail) (subst (λ (z : Trail). Extends z c.attach.new.self) c.back_to.ensures c.attach.ensures.extends)
    (c.in_ok-attach.ensures.clauses ∙ ap (λ (z : Trail). z.clauses ++ get_or c.args.pool.now.clauses c.clauses-at.result [] ∷ []) c.back_to.ensures
    ∙ ap (λ (k : ℕ). t.clauses ++ get_or c.args.pool.now.clauses k [] ∷ []) c.clauses-at.ensures)
    c.requires.settled

pub returns-clause-assumed : goal.returns-clause-assumed
returns-clause-assumed c = λ a d assumed.
    let t : Trail = c.args.engine.now in
    let forced = forced_is t c.trail.result.now c.args.place c.index-trail-place.result c.not-forced.result c.requires.asserting.within c.trail.ensures.lits c.index-trail-place.is c.not-forced.ensures in
    let j = jump_is t c.args.pool.now.clauses c.lits.result.now c.clauses-at.result c.not-forced.result c.args.place c.jump_level-level.result c.clauses-at.ensures c.lits.ensures.clause forced c.jump_level-level.ensures in
    assumed_jumped t (next_of c.args.pool.now.clauses t) c.args.place c.jump_level-level.result c.trail.ensures.trail c.requires.asserting j c.attach.new.self
    (subst IsTrail c.back_to.ensures c.trail-3.ensures.trail) c.trail-4.ensures.trail (subst (λ (z : Trail). Extends z c.attach.new.self) c.back_to.ensures c.attach.ensures.extends)
    a d assumed
