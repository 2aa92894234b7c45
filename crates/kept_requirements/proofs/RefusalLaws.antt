-- A refusal that is passed on is that of the definition.
use Rattle.std.proofs.Common.{◌≡◌, Result, Ok, Err, sym, subst}
use Rattle.std.specs.Result.{IsErr, IsErrAnd}
use Rattle.std.proofs.lemmas.Bool.{false≢true}
use Rattle.pb_base.specs.Answers.{Answers, IfRefused}
use Rattle.pb_base.specs.declared.answer.Fail.{Fail}
use Rattle.pb_base.specs.declared.answer.Fail.TheVariants.{Refused, Memory}

pub refusal_passed : {T A E : Type 0} (result : Result T (Fail E)) (e : Fail E) (answer : Result A E) → IsErr result × IsErrAnd result (λ x. x ≡ e)
    → Answers (Err e) answer → IfRefused result (λ fault. answer ≡ Err fault)
refusal_passed (Ok value) e answer h is = absurd (false≢true h.0)
refusal_passed {T} {A} {E} (Err (Refused fault)) e answer h is = subst (λ (y : Fail E). Answers {A = A} (Err y) answer) (sym h.1) is
refusal_passed (Err Memory) e answer h is = tt
