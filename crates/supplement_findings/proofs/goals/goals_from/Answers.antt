use Rattle.std.proofs.Common.{◌≡◌, ℕ, ◌+◌, ◌<◌, true, List, [], ◌∷◌, ◌++◌, length, drop, sym, ap, ◌∙◌, arith, append_assoc}
use Rattle.clause_pool.specs.Literal.{literal}
use Rattle.supplement_findings.specs.Answering.{goals_of}
use Rattle.supplement_findings.specs.declared.question.SupplementQuestion.{SupplementQuestion}
use Rattle.supplement_findings.proofs.CodingLaws.{left_at}
use Rattle.supplement_findings.proofs.goals.goals_from.Goals as goal

goals_more : (first i lit : ℕ) (qs : List SupplementQuestion) (old new : List ℕ) → i < length qs → lit ≡ literal (first + i) true → new ≡ old ++ lit ∷ []
    → old ++ goals_of (first + i) (drop i qs) ≡ goals_of first qs → new ++ goals_of (first + (i + 1)) (drop (i + 1) qs) ≡ goals_of first qs
goals_more first i lit qs old new within is more so_far =
    let rest : List SupplementQuestion = drop (i + 1) qs in
    let next : first + (i + 1) ≡ first + i + 1 = omega arith in
    ap (λ (gs : List ℕ). gs ++ goals_of (first + (i + 1)) rest) more
    ∙ append_assoc old (lit ∷ []) (goals_of (first + (i + 1)) rest)
    ∙ ap (λ (g : ℕ). old ++ g ∷ goals_of (first + (i + 1)) rest) is
    ∙ ap (λ (n : ℕ). old ++ literal (first + i) true ∷ goals_of n rest) next
    ∙ ap (λ (ls : List SupplementQuestion). old ++ goals_of (first + i) ls) (sym (left_at qs i within))
    ∙ so_far

pub loop-place-preserved : goal.loop-place-preserved
loop-place-preserved c =
    goals_more c.args.first_goal c.loop-place.place c.new.result c.args.questions.now c.loop-place.goals.items c.push.new.self.items c.loop-place-test.true c.new.ensures c.in_ok-push.ensures.items
    c.loop-place.invariant
