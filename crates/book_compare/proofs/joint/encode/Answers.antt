use Rattle.book_compare.proofs.JointRuns.{absent_made, first_truth, first_room, first_made, second_room, second_made, all_made, numbers_counted}
use Rattle.book_compare.proofs.joint.encode.Goals as goal

pub add_first-requires-clause-truth : goal.add_first-requires-clause-truth
add_first-requires-clause-truth c =
    first_truth c.args.first.now c.args.second.now c.args.day c.args.encoder.now c.add_absent.new.encoder c.add_absent.new.encoder c.requires.truth c.requires.next (absent_made c.args.first.now c.args.second.now c.args.encoder.now c.add_absent.new.encoder _ _ c.codes.ensures.value c.codes-2.ensures.value c.in_ok-add_absent.ensures)

pub add_first-requires-clause-room : goal.add_first-requires-clause-room
add_first-requires-clause-room c =
    first_room c.args.first.now c.args.second.now c.args.day c.args.encoder.now c.add_absent.new.encoder c.add_absent.new.encoder c.requires.truth c.requires.next (absent_made c.args.first.now c.args.second.now c.args.encoder.now c.add_absent.new.encoder _ _ c.codes.ensures.value c.codes-2.ensures.value c.in_ok-add_absent.ensures) _ c.requires.room

pub add_second-requires-clause-numbers : goal.add_second-requires-clause-numbers
add_second-requires-clause-numbers c = numbers_counted c.args.first.now c.args.second.now c.args.numbers.now c.requires.numbers

pub add_second-requires-clause-room : goal.add_second-requires-clause-room
add_second-requires-clause-room c =
    second_room c.args.first.now c.args.second.now c.args.day c.args.encoder.now c.add_absent.new.encoder c.add_first.new.encoder c.requires.truth c.requires.next (absent_made c.args.first.now c.args.second.now c.args.encoder.now c.add_absent.new.encoder _ _ c.codes.ensures.value c.codes-2.ensures.value c.in_ok-add_absent.ensures)
    c.in_ok-first.ensures.made _ c.args.numbers.now c.requires.numbers c.requires.room

pub returns-clause-made : goal.returns-clause-made
returns-clause-made c =
    all_made c.args.first.now c.args.second.now c.args.day c.args.encoder.now c.add_absent.new.encoder c.add_first.new.encoder c.requires.truth c.requires.next (absent_made c.args.first.now c.args.second.now c.args.encoder.now c.add_absent.new.encoder _ _ c.codes.ensures.value c.codes-2.ensures.value c.in_ok-add_absent.ensures)
    c.in_ok-first.ensures.made c.add_second.new.encoder c.args.numbers.now c.requires.numbers c.in_ok-second.ensures.made

pub returns-clause-first : goal.returns-clause-first
returns-clause-first c =
    first_made c.args.first.now c.args.second.now c.args.day c.args.encoder.now c.add_absent.new.encoder c.add_first.new.encoder c.requires.truth c.requires.next (absent_made c.args.first.now c.args.second.now c.args.encoder.now c.add_absent.new.encoder _ _ c.codes.ensures.value c.codes-2.ensures.value c.in_ok-add_absent.ensures)
    c.in_ok-first.first.items c.in_ok-first.ensures.usages

pub returns-clause-second : goal.returns-clause-second
returns-clause-second c =
    second_made c.args.first.now c.args.second.now c.args.day c.args.encoder.now c.add_absent.new.encoder c.add_first.new.encoder c.requires.truth c.requires.next (absent_made c.args.first.now c.args.second.now c.args.encoder.now c.add_absent.new.encoder _ _ c.codes.ensures.value c.codes-2.ensures.value c.in_ok-add_absent.ensures)
    c.in_ok-first.ensures.made c.args.numbers.now c.in_ok-second.second.items c.requires.numbers c.in_ok-second.ensures.usages
