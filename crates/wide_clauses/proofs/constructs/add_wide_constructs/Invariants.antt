use Rattle.std.proofs.Common.{drop, map}
use Rattle.std.specs.List.{filter}
use Rattle.book_model.specs.Activity.{is_within}
use Rattle.book_model.specs.declared.record.Construct.{Construct}
use Rattle.clausify.specs.Items.{construct_item, construct_items}
use Rattle.wide_clauses.proofs.WideLeft.{WideLeft}
use Rattle.wide_clauses.proofs.constructs.add_wide_constructs.Given as goal

abbrev pub invariant-loop-construct : goal.invariant-loop-construct
invariant-loop-construct l =
    WideLeft l.initial.encoder l.encoder (construct_items l.book l.day)
    (map construct_item (filter (λ (r : Construct). is_within r.from r.until l.day) (drop l.construct-index l.construct-items)))
