use Rattle.std.proofs.Common.{◌+◌, length}
use Rattle.book_compare.specs.JointItems.{absent_item}
use Rattle.book_compare.specs.Numbering.{missing_from, added_from}
use Rattle.book_compare.proofs.MapLaws.{mapped_then}
use Rattle.book_compare.proofs.joint.add_absent.Goals as goal

pub returns : goal.returns
returns c =
    mapped_then absent_item (missing_from 0 c.args.second.now c.args.first.now) (added_from (length c.args.first.now + 1) c.args.first.now c.args.second.now)
    c.args.encoder.now c.add_missing.new.encoder c.add_added.new.encoder c.in_ok-add_missing.ensures c.in_ok-add_added.ensures
