-- The rule at this place is noted.
use Rattle.std.proofs.Common.{◌≡◌, ◌<◌, length, Some, refl, arith}
use Rattle.std.specs.List.{slice_get}
use Rattle.std.proofs.lemmas.Option.{slice_get_read}
use Rattle.supplement.proofs.OccurrenceLemmas.{listed_more}
use Rattle.supplement.proofs.occurrences.OccurrenceLists.of.Goals as goal

pub loop-place-preserved : goal.loop-place-preserved
loop-place-preserved c =
    let rules = c.args.supplements.now in
    let s = c.index-supplements-place.result in
    let place = c.loop-place.place in
    let within : place < length rules = omega arith in
    let there : slice_get rules place ≡ Some s = slice_get_read rules (length rules) place s refl within c.index-supplements-place.is in (
      c.in_ok-note_codes.ensures.linked c.args.codes (length rules) within c.loop-place.invariant.0,
      listed_more rules place s c.loop-place.lists _ there c.in_ok-note_codes.ensures c.loop-place.invariant.1,
    )
