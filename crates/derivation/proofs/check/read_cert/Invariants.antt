use Rattle.std.proofs.Common.{◌≡◌, ◌<◌, ◌+◌, length}
use Rattle.derivation.specs.Certificate.{read_lines}
use Rattle.derivation.specs.Kept.{AllNamed}
use Rattle.derivation.specs.Reading.{stage_of}
use Rattle.derivation.proofs.check.read_cert.Given as goal

abbrev pub invariant-loop-text : goal.invariant-loop-text
invariant-loop-text l = record {
  answer : read_lines l.book l.slices (stage_of l.stage) l.number l.so_far l.texts ≡ read_lines l.book l.slices (stage_of l.initial.stage) l.initial.number l.initial.so_far l.initial.texts;
  counted : l.number + length l.texts ≡ l.initial.number + length l.initial.texts;
  steps : l.so_far.steps < l.number;
  named : AllNamed (stage_of l.stage);
}

abbrev pub decreases-loop-text : goal.decreases-loop-text
decreases-loop-text l = length l.texts
