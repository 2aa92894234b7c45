use Rattle.std.proofs.Common.{map, arith}
use Rattle.clausify.specs.Items.{rule_items}
use Rattle.clausify.proofs.CodedLaws.{items_then}
use Rattle.clausify.proofs.ItemLaws.{variables_of-append}
use Rattle.book_compare.specs.JointItems.{renamed_item, renamed_usage_items, day_variants}
use Rattle.book_compare.proofs.joint.add_second.Goals as goal

pub add_renamed_rules-requires-clause-room : goal.add_renamed_rules-requires-clause-room
add_renamed_rules-requires-clause-room c =
    omega (
      arith,
      c.requires.room,
      variables_of-append (map (renamed_item c.args.numbers.now) (rule_items c.args.book.now c.args.day)) (renamed_usage_items c.args.numbers.now c.args.book.now (day_variants c.args.book.now c.args.day)),
    )

pub add_renamed_usages-requires : goal.add_renamed_usages-requires
add_renamed_usages-requires c = record {
  room = omega (
    arith,
    c.requires.room,
    c.in_ok-add_renamed_rules.ensures.next,
    variables_of-append (map (renamed_item c.args.numbers.now) (rule_items c.args.book.now c.args.day)) (renamed_usage_items c.args.numbers.now c.args.book.now (day_variants c.args.book.now c.args.day)),
  );
}

pub returns-clause-made : goal.returns-clause-made
returns-clause-made c =
    items_then c.args.encoder.now c.add_renamed_rules.new.encoder c.add_renamed_usages.new.encoder (map (renamed_item c.args.numbers.now) (rule_items c.args.book.now c.args.day))
    (renamed_usage_items c.args.numbers.now c.args.book.now (day_variants c.args.book.now c.args.day))
    c.in_ok-add_renamed_rules.ensures c.in_ok-usages.ensures.made
