use Rattle.clausify.specs.Items.{supplement_items, construct_items}
use Rattle.clausify.proofs.CodedLaws.{items_then, starts_then}
use Rattle.clausify.proofs.items.add_rules.Goals as goal

pub returns-clause-made : goal.returns-clause-made
returns-clause-made c =
    items_then c.args.encoder.now c.add_supplements.new.encoder c.add_constructs.new.encoder
    (supplement_items c.args.book.now c.args.day) (construct_items c.args.book.now c.args.day)
    c.in_ok-add_supplements.ensures.made c.in_ok-add_constructs.ensures.made

pub returns-clause-starts : goal.returns-clause-starts
returns-clause-starts c =
    starts_then c.args.encoder.now c.add_supplements.new.encoder c.args.starts.now.items c.add_supplements.new.starts.items c.add_constructs.new.starts.items
    (supplement_items c.args.book.now c.args.day) (construct_items c.args.book.now c.args.day)
    c.in_ok-add_supplements.ensures.made c.in_ok-add_supplements.ensures.starts c.in_ok-add_constructs.ensures.starts
