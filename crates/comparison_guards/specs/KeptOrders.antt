-- What a kept order comes to by another book.
--     IsToldIfRefused to s again    it is told by which rule, if that book refuses it
--     IsRefusedIfTold to s again    that book refuses it by the rule, if it is told so
use Rattle.std.specs.Prelude.{◌≡◌, ℕ, Ok}
use Rattle.book_model.specs.Contents.{Contents}
use Rattle.parts_usage.specs.Outcome.{outcome_of}
use Rattle.parts_usage.specs.declared.judgement.Outcome.TheVariants as outcome
use Rattle.order_again.specs.declared.kept.Stock.{Stock}
use Rattle.order_again.specs.declared.outcome.Again.{Again}
use Rattle.order_again.specs.declared.outcome.Again.TheVariants.{Refused}

abbrev pub IsToldIfRefused : Contents → Stock → Again → Type 0
IsToldIfRefused to s again =
    (rule : ℕ) → outcome_of to s.order.day s.order.codes ≡ Ok (outcome.Refused rule) → again ≡ Refused rule

abbrev pub IsRefusedIfTold : Contents → Stock → Again → Type 0
IsRefusedIfTold to s again =
    (rule : ℕ) → again ≡ Refused rule → outcome_of to s.order.day s.order.codes ≡ Ok (outcome.Refused rule)
