use Rattle.std.proofs.Common.{◌≡◌, take, drop, All}
use Rattle.std.specs.Option.{IfSome}
use Rattle.pb_base.specs.InParts.{InParts}
use Rattle.inquiry.specs.Asking.{IsAsking, unanswered}
use Rattle.inquiry.specs.Told.{IsKept, IsTold}
use Rattle.inquiry.proofs.answer.answer_tried.Given as goal

abbrev pub invariant-loop-place : goal.invariant-loop-place
invariant-loop-place g l = record {
  parts : InParts (IsTold (g.S.Inquiry.form l.source) l.budget) (take l.place l.questions) l.told.items;
  left : drop l.searching.asked l.tried.rest.items ≡ unanswered (drop l.place l.questions) (drop l.place l.tried.found.items);
  asking : IfSome l.searching.asking (IsAsking (g.S.Inquiry.form l.source) l.tried.rest.items);
  kept : All (IsKept (g.S.Inquiry.form l.source) (g.S.Inquiry.MayShow l.source)) l.sets;
}
