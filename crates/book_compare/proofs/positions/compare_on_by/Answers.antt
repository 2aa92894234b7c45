use Rattle.std.proofs.Common.{subst}
use Rattle.std.specs.List.{IsDistinct}
use Rattle.pb_base.specs.Names.{same_name}
use Rattle.book_compare.proofs.positions.compare_on_by.Goals as goal

pub compare_all_by-requires-clause-ready : goal.compare_all_by-requires-clause-ready
compare_all_by-requires-clause-ready g c κs lives = record {
  books = c.requires.books;
  joint = c.in_ok-joint.ensures;
  distinct = subst (IsDistinct same_name) c.codes.ensures.value c.names_law.ensures.distinct;
}
