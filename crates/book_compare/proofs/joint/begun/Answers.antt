use Rattle.std.proofs.Common.{length, ap, arith}
use Rattle.book_compare.proofs.BoundLaws.{joint_variables_fit, further_below}
use Rattle.book_compare.proofs.joint.begun.Goals as goal

pub with_further-requires : goal.with_further-requires
with_further-requires c =
    omega (
      arith,
      c.requires,
      further_below c.args.first.now.codes c.args.second.now.codes,
      c.len.ensures.value,
      ap length c.codes-codes.ensures.value,
      c.codes-codes.ensures.book.codes_limit,
      c.codes-others.ensures.book.codes_limit,
    )

pub returns-clause-few : goal.returns-clause-few
returns-clause-few c = λ day.
    omega (
      arith,
      c.requires,
      joint_variables_fit c.args.first.now c.args.second.now day c.codes-codes.ensures.book c.codes-others.ensures.book,
      c.in_ok-encoder.ensures.next,
      c.len.ensures.value,
      ap length c.codes-codes.ensures.value,
    )
