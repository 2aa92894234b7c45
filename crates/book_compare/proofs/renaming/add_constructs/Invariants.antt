use Rattle.std.proofs.Common.{drop, map}
use Rattle.std.specs.List.{filter}
use Rattle.book_model.specs.Activity.{is_within}
use Rattle.book_model.specs.declared.record.Construct.{Construct}
use Rattle.clausify.specs.Items.{construct_item, construct_items}
use Rattle.clausify.proofs.Remaining.{ItemsLeft}
use Rattle.book_compare.specs.JointItems.{renamed_item}
use Rattle.book_compare.proofs.renaming.add_constructs.Given as goal

abbrev pub invariant-loop-construct : goal.invariant-loop-construct
invariant-loop-construct l =
    ItemsLeft l.initial.encoder l.encoder (map (renamed_item l.numbers) (construct_items l.book l.day))
    (map (renamed_item l.numbers) (map construct_item (filter (λ (r : Construct). is_within r.from r.until l.day) (drop l.construct-index l.construct-items))))
