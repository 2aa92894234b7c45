-- The guard at a place is that of the rule there.
use Rattle.std.proofs.Common.{◌<◌, length, refl, ap, ◌∙◌, arith}
use Rattle.std.proofs.lemmas.List.{length-map}
use Rattle.std.proofs.lemmas.Option.{slice_get-get_or, slice_get_read}
use Rattle.parts_usage.specs.Broken.{guard_of}
use Rattle.parts_usage.proofs.Guards.{guard_at}
use Rattle.parts_usage.proofs.guard_table.first_guarded.Goals as goal

pub bounds-guards-place : goal.bounds-guards-place
bounds-guards-place c = omega (arith, ap length c.requires.guards ∙ length-map c.args.constructs.now guard_of)

pub breaks_guarded-requires-clause-guard : goal.breaks_guarded-requires-clause-guard
breaks_guarded-requires-clause-guard c =
    let rules = c.args.constructs.now in
    let guards = c.args.guards.now in
    let place = c.loop-place.place in
    let within : place < length guards = omega (arith, ap length c.requires.guards ∙ length-map rules guard_of) in
    guard_at rules guards place _ _ c.requires.guards
    (slice_get_read rules (length rules) place c.index-constructs-place.result refl (omega arith) c.index-constructs-place.is)
    (slice_get-get_or guards place _ within)
