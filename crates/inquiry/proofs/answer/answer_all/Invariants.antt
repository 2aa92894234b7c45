use Rattle.std.proofs.Common.{◌-◌, ◌≤◌, length, take, All}
use Rattle.pb_base.specs.InParts.{InParts}
use Rattle.inquiry.specs.Told.{IsKept, IsTold}
use Rattle.inquiry.proofs.answer.answer_all.Given as goal

abbrev pub invariant-loop-at : goal.invariant-loop-at
invariant-loop-at g l = record {
  within : l.at ≤ length l.questions;
  parts : InParts (IsTold (g.S.Inquiry.form l.source) l.budget) (take l.at l.questions) l.told.items;
  kept : All (IsKept (g.S.Inquiry.form l.source) (g.S.Inquiry.MayShow l.source)) l.sets;
}

abbrev pub decreases-loop-at : goal.decreases-loop-at
decreases-loop-at g l = length l.questions - l.at
