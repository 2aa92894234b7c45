use Rattle.blame.proofs.CodeLaws.{Making}
use Rattle.blame.proofs.coding.coded.Given as goal

abbrev pub invariant-loop-entry : goal.invariant-loop-entry
invariant-loop-entry l = Making l.book l.entries l.entry-index l.encoder
