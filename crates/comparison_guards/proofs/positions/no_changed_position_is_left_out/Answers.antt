use Rattle.comparison_guards.proofs.PartsHave.{ok_map}
use Rattle.comparison_guards.proofs.PositionLaws.{changed_told}
use Rattle.comparison_guards.proofs.positions.no_changed_position_is_left_out.Goals as goal

pub returns : goal.returns
returns c =
    ok_map _ _ (λ notes h. changed_told c.args.first.now.book c.args.second.now.book c.args.day c.args.budget notes.items h) c.compare.result c.compare.ensures.notes
