use Rattle.std.proofs.Common.{◌≡◌, ◌++◌, drop, map}
use Rattle.clausify.specs.Formulas.{literals_from}
use Rattle.clausify.specs.Items.{free_item}
use Rattle.clausify.proofs.Remaining.{ItemsLeft}
use Rattle.supplement_findings.specs.Touching.{afters, afters_at}
use Rattle.supplement_findings.proofs.alone.add_afters.Given as goal

abbrev pub invariant-loop-place : goal.invariant-loop-place
invariant-loop-place l = record {
  made : ItemsLeft l.initial.encoder l.encoder (map free_item (afters l.book l.day l.added)) (map free_item (afters_at l.book l.day l.added (drop l.place-index l.touched)));
  literals : l.lits.items ++ literals_from l.initial.encoder.truth l.encoder.next (afters_at l.book l.day l.added (drop l.place-index l.touched))
      ≡ literals_from l.initial.encoder.truth l.initial.encoder.next (afters l.book l.day l.added);
}
