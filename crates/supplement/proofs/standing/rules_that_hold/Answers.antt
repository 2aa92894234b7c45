-- The rule at this place has its candidate where its formula is true.
use Rattle.std.proofs.Common.{◌≡◌, ◌<◌, length, Some, sym, subst, ◌∙◌, refl, arith}
use Rattle.std.specs.List.{slice_get}
use Rattle.std.proofs.lemmas.Option.{slice_get_read, slice_get_within}
use Rattle.book_model.specs.Book.{SupplementFits}
use Rattle.book_model.specs.declared.record.Supplement.{Supplement}
use Rattle.supplement.proofs.WorklistLemmas.{holds_here, holds_not_here}
use Rattle.supplement.proofs.standing.rules_that_hold.Goals as goal
use Rattle.supplement.proofs.standing.rules_that_hold.Goals.{then-holds+in_ok-push, else-holds}

pub holds-requires : goal.holds-requires
holds-requires c =
    let within : c.loop-place.place < length c.args.supplements.now = omega arith in
    (subst (λ (r : Supplement). SupplementFits (length c.args.set.now) r) (sym c.index-supplements-place.is) (c.requires.fit c.loop-place.place c.index-supplements-place.result within)).rule.in_range

pub loop-place-preserved : goal.loop-place-preserved
loop-place-preserved c =
    let rules = c.args.supplements.now in
    let s = c.index-supplements-place.result in
    let place = c.loop-place.place in
    let within : place < length rules = omega arith in
    let there : slice_get rules place ≡ Some s = slice_get_read rules (length rules) place s refl within c.index-supplements-place.is in
    elim c.if-holds.branch [
      | then-holds+in_ok-push w ↦ rw (w.found-is, w.in_ok-push.ensures.items) (holds_here rules c.args.set.now place s c.loop-place.found.items there (sym c.holds.ensures ∙ w.if-holds.true) c.loop-place.invariant)
      | else-holds w ↦ rw w.found-is (holds_not_here rules c.args.set.now place s c.loop-place.found.items there (sym c.holds.ensures ∙ w.if-holds.false) c.loop-place.invariant)
    ]

pub returns-clause-complete : goal.returns-clause-complete
returns-clause-complete c = λ p s is_rule on. c.loop-place.invariant.1 p s (omega (arith, slice_get_within c.args.supplements.now p s is_rule)) is_rule on
