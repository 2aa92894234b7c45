use Rattle.std.proofs.Common.{◌≡◌, ℕ, ◌+◌, ◌-◌, length, take, drop, length-drop, ap, subst, arith}
use Rattle.std.proofs.lemmas.List.{take_rest}
use Rattle.inquiry.specs.Asking.{IsTried}
use Rattle.inquiry.specs.Told.{IsTold}
use Rattle.inquiry.proofs.PartLaws.{parts_further}
use Rattle.inquiry.proofs.answer.answer_all.Goals as goal

pub answer_tried-requires-clause-tried : goal.answer_tried-requires-clause-tried
answer_tried-requires-clause-tried g c =
    let f = g.S.Inquiry.form c.args.source.now in
    let tried = c.in_ok-tried.tried in
    let qs = c.args.questions.now in
    let whole = subst (λ ls. IsTried f (take (length tried.found.items) ls) tried) (take_rest qs c.loop-at.at) c.in_ok-tried.ensures.tried in
    let same : length tried.found.items ≡ c.loop-at.at + c.len.result - c.loop-at.at = omega (arith, tried.found.ok.0) in
    subst (λ (n : ℕ). IsTried f (take n (drop c.loop-at.at qs)) tried) same whole

pub loop-at-preserved : goal.loop-at-preserved
loop-at-preserved g c =
    let qs = c.args.questions.now in
    record {
      within = omega (arith, c.in_ok-tried.tried.found.ok.0, c.in_ok-tried.ensures.within, ap length (take_rest qs c.loop-at.at), length-drop c.loop-at.at qs);
      parts =
          parts_further (IsTold (g.S.Inquiry.form c.args.source.now) c.args.budget) qs c.loop-at.at (c.loop-at.at + c.len.result) c.loop-at.told.items c.in_ok-own.own.items
          c.append.new.self.items (omega arith) c.loop-at.invariant.parts c.in_ok-own.ensures.told c.in_ok-append.ensures.items;
      kept = c.answer_tried.ensures.kept;
    }
