use Rattle.std.proofs.Common.{◌≡◌, Some, sym, ap, ◌∙◌}
use Rattle.std.specs.Option.{option_to_list}
use Rattle.chosen_parts.specs.Chosen.{position_place, chosen_at}
use Rattle.chosen_parts.proofs.FewLaws.{few_chosen, first_alone}
use Rattle.chosen_parts.proofs.SameLaws.{chosen_some}
use Rattle.chosen_parts.proofs.chosen.chosen_variant.Goals as goal

pub returns : goal.returns
returns c =
    let b = c.args.book.now in
    let at : position_place b c.args.id.now ≡ Some c.in_ok-place.place = sym c.place_of_position.ensures ∙ c.in_ok-place.was in
    ap option_to_list c.variant_at.ensures
    ∙ first_alone (chosen_at b c.args.day c.args.set.now c.in_ok-place.place) (few_chosen b c.args.day c.args.set.now c.in_ok-place.place c.requires.few)
    ∙ sym (chosen_some b c.args.day c.args.id.now c.args.set.now c.in_ok-place.place at)
