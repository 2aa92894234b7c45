use Rattle.std.proofs.Common.{sym, ◌∙◌}
use Rattle.chosen_parts.proofs.PlaceLaws.{guessed}
use Rattle.chosen_parts.proofs.place.place_of_position.Goals as goal

pub returns-then-is_at : goal.returns-then-is_at
returns-then-is_at c =
    sym (guessed c.args.book.now c.args.id.now c.args.guess c.codes-codes.ensures.book (sym c.is_at.ensures ∙ c.if-is_at.true))
