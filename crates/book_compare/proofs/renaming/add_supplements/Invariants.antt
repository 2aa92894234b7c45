use Rattle.std.proofs.Common.{drop, map}
use Rattle.std.specs.List.{filter}
use Rattle.book_model.specs.Activity.{is_within}
use Rattle.book_model.specs.declared.record.Supplement.{Supplement}
use Rattle.clausify.specs.Items.{supplement_item, supplement_items}
use Rattle.clausify.proofs.Remaining.{ItemsLeft}
use Rattle.book_compare.specs.JointItems.{renamed_item}
use Rattle.book_compare.proofs.renaming.add_supplements.Given as goal

abbrev pub invariant-loop-supplement : goal.invariant-loop-supplement
invariant-loop-supplement l =
    ItemsLeft l.initial.encoder l.encoder (map (renamed_item l.numbers) (supplement_items l.book l.day))
    (map (renamed_item l.numbers) (map supplement_item (filter (λ (r : Supplement). is_within r.from r.until l.day) (drop l.supplement-index l.supplement-items))))
