use Rattle.std.proofs.Common.{length, ap, arith}
use Rattle.supplement_findings.proofs.ReportLaws.{few_slices}
use Rattle.supplement_findings.proofs.counting.slices_within.Goals as goal

pub first_over-requires : goal.first_over-requires
first_over-requires c =
    omega (arith, few_slices c.args.book.now c.in_ok-slices.slices c.in_ok-slices.ensures.value, ap length c.as_slice.ensures)
