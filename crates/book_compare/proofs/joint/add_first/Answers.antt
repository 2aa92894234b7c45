use Rattle.std.proofs.Common.{arith}
use Rattle.clausify.specs.Choices.{choices}
use Rattle.clausify.specs.Items.{rule_items, usage_items}
use Rattle.clausify.proofs.CodedLaws.{items_then}
use Rattle.clausify.proofs.ItemLaws.{variables_of-append}
use Rattle.book_compare.proofs.joint.add_first.Goals as goal

pub add_rules-requires-clause-room : goal.add_rules-requires-clause-room
add_rules-requires-clause-room c =
    omega (arith, c.requires.room, variables_of-append (rule_items c.args.book.now c.args.day) (usage_items c.args.book.now (choices c.args.book.now c.args.day)))

pub usages_of-requires : goal.usages_of-requires
usages_of-requires c =
    omega (
      arith,
      c.requires.room,
      c.in_ok-add_rules.ensures.made.next,
      variables_of-append (rule_items c.args.book.now c.args.day) (usage_items c.args.book.now (choices c.args.book.now c.args.day)),
    )

pub returns-clause-made : goal.returns-clause-made
returns-clause-made c =
    items_then c.args.encoder.now c.add_rules.new.encoder c.usages_of.new.encoder (rule_items c.args.book.now c.args.day) (usage_items c.args.book.now (choices c.args.book.now c.args.day))
    c.in_ok-add_rules.ensures.made c.in_ok-usages.ensures.made
