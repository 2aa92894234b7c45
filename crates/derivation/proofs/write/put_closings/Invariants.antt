use Rattle.std.proofs.Common.{◌≡◌, ◌++◌, take}
use Rattle.std.specs.List.{AllByRecursion}
use Rattle.derivation.specs.Written.{LineFits, close_lines, written}
use Rattle.derivation.proofs.write.put_closings.Given as goal

abbrev pub invariant-loop-closing : goal.invariant-loop-closing
invariant-loop-closing l = record {
  text : l.text ≡ l.initial.text ++ written (close_lines (take l.closing-index l.closings));
  fit : AllByRecursion LineFits (close_lines (take l.closing-index l.closings));
}
