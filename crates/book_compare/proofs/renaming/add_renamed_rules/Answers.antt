use Rattle.std.proofs.Common.{arith}
use Rattle.clausify.specs.Items.{supplement_items, construct_items}
use Rattle.book_compare.specs.JointItems.{renamed_item}
use Rattle.book_compare.proofs.MapLaws.{mapped_then, mapped_variables}
use Rattle.book_compare.proofs.renaming.add_renamed_rules.Goals as goal

pub add_supplements-requires-clause-room : goal.add_supplements-requires-clause-room
add_supplements-requires-clause-room c =
    omega (arith, c.requires.room, mapped_variables (renamed_item c.args.numbers.now) (supplement_items c.args.book.now c.args.day) (construct_items c.args.book.now c.args.day))

pub add_constructs-requires-clause-room : goal.add_constructs-requires-clause-room
add_constructs-requires-clause-room c =
    omega (
      arith,
      c.requires.room,
      c.in_ok-add_supplements.ensures.next,
      mapped_variables (renamed_item c.args.numbers.now) (supplement_items c.args.book.now c.args.day) (construct_items c.args.book.now c.args.day),
    )

pub returns : goal.returns
returns c =
    mapped_then (renamed_item c.args.numbers.now) (supplement_items c.args.book.now c.args.day) (construct_items c.args.book.now c.args.day)
    c.args.encoder.now c.add_supplements.new.encoder c.add_constructs.new.encoder c.in_ok-add_supplements.ensures c.in_ok-add_constructs.ensures
