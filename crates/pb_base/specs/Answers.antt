-- What a call answers that may refuse, or find no memory: the value or the refusal of its definition. Want of memory is free.
--     Answers result answer      a call that gives a value
--     Gives result view answer   a call that gives a value which is seen by `view`
--     Leaves result new answer   a call that changes a value, and leaves it as `new`
--     IfRefused result P         of the refusal, if the call refuses, P is true
--     Changes fail R other       the one refuses where the other does, by refusals that R ties; want of memory stays
use Rattle.std.specs.Prelude.{◌≡◌, Result, Ok, Err}
use Rattle.pb_base.specs.declared.answer.Fail.{Fail}
use Rattle.pb_base.specs.declared.answer.Fail.TheVariants.{Refused, Memory}

abbrev pub Gives : {U A E : Type 0} → Result U (Fail E) → (U → A) → Result A E → Type 0
Gives (Ok value) view answer = answer ≡ Ok (view value)
Gives (Err (Refused fault)) view answer = answer ≡ Err fault
Gives (Err Memory) view answer = Unit {0}

abbrev pub Answers : {A E : Type 0} → Result A (Fail E) → Result A E → Type 0
Answers result answer = Gives result (λ value. value) answer

abbrev pub Leaves : {U A E : Type 0} → Result U (Fail E) → A → Result A E → Type 0
Leaves result new answer = Gives result (λ _. new) answer

abbrev pub IfRefused : {U E : Type 0} → Result U (Fail E) → (E → Type 0) → Type 0
IfRefused (Ok value) P = Unit {0}
IfRefused (Err (Refused fault)) P = P fault
IfRefused (Err Memory) P = Unit {0}

abbrev pub ForRefusal : {E : Type 0} → Fail E → (E → Type 0) → Type 0
ForRefusal (Refused fault) P = P fault
ForRefusal Memory P = Unit {0}

abbrev pub Changes : {E D : Type 0} → Fail E → (E → D → Type 0) → Fail D → Type 0
Changes (Refused fault) R (Refused other) = R fault other
Changes (Refused fault) R Memory = ⊥
Changes Memory R (Refused other) = ⊥
Changes Memory R Memory = Unit {0}
