use Rattle.std.proofs.Common.{◌≡◌, ℕ, ◌<◌, length, sym, ap, subst, ◌∙◌, arith, All}
use Rattle.std.specs.List.{range_with_len}
use Rattle.std.proofs.lemmas.List.Elements.{All-from_recursion}
use Rattle.rules_met.proofs.AnswerLaws.{places_low}
use Rattle.rules_met.proofs.ask.ask_rules.Goals as goal

pub answer_all-requires-clause-posed : goal.answer_all-requires-clause-posed
answer_all-requires-clause-posed c =
    let n : ℕ = length c.args.rules.now in
    let are : c.deref.result.now ≡ range_with_len 0 n = c.deref.ensures.value ∙ c.in_ok-questions.ensures in
    subst (All (λ (place : ℕ). place < n)) (sym are) (All-from_recursion (λ (place : ℕ). place < n) (range_with_len 0 n) (places_low n))
