use Rattle.std.proofs.Common.{◌-◌, ◌≤◌, length, take, drop}
use Rattle.std.specs.List.{AllZip, range_with_len}
use Rattle.pb_base.specs.InParts.{InParts}
use Rattle.inquiry.specs.Told.{IsTold}
use Rattle.rules_met.specs.Met.{IsAnswer}
use Rattle.rules_met.specs.Source.{form}
use Rattle.rules_met.proofs.ask.answers_of.Given as goal

abbrev pub invariant-loop-place : goal.invariant-loop-place
invariant-loop-place l = record {
  so_far : AllZip (IsAnswer l.source.book.now l.source.day l.budget) (take l.place l.source.rules.now) l.answers.items;
  left : InParts (IsTold (form l.source.book.now l.source.day l.source.rules.now) l.budget)
      (range_with_len l.place (length l.source.rules.now - l.place)) (drop l.next l.told);
  few : l.next ≤ l.place;
}
