-- What a kept order comes to by another book is that book's own answer.
use Rattle.std.proofs.Common.{◌≡◌, ℕ, List, Bool, subst}
use Rattle.std.specs.Prelude.{Result, Ok, Err}
use Rattle.book_model.specs.Contents.{Contents}
use Rattle.parts_usage.specs.Outcome.{outcome_of}
use Rattle.parts_usage.specs.declared.fault.OrderFault.{OrderFault}
use Rattle.parts_usage.specs.declared.judgement.Outcome.{Outcome}
use Rattle.parts_usage.specs.declared.judgement.Outcome.TheVariants as outcome
use Rattle.release.specs.Orders.{supplemented}
use Rattle.order_again.specs.Again.{IsAgainBy, IsAgainOf, IsSameAgain}
use Rattle.order_again.specs.declared.kept.Stock.{Stock}
use Rattle.order_again.specs.declared.outcome.Again.{Again}
use Rattle.order_again.specs.declared.outcome.Again.TheVariants.{Same, Other, Refused, Fault}
use Rattle.comparison_guards.specs.KeptOrders.{IsRefusedIfTold, IsToldIfRefused}

pub told_refused : (to : Contents) (s : Stock) (again : Again) → IsAgainOf to s again → IsToldIfRefused to s again
told_refused to s again h = λ rule is.
    subst (λ (r : Result Outcome OrderFault). IsAgainBy s.book.value.book to s.order.day (supplemented s.book.value.book s.order.day s.order.codes) r again) is h

same_not_refused : (own to : Contents) (day : ℕ) (x y : List Bool) (again : Again) (rule : ℕ) → again ≡ Refused rule → IsSameAgain own to day x y again → ⊥
same_not_refused own to day x y Same rule is h = cc
same_not_refused own to day x y Other rule is h = cc
same_not_refused own to day x y (Refused r) rule is h = h
same_not_refused own to day x y (Fault f) rule is h = h

by_refused : (own to : Contents) (day : ℕ) (x : List Bool) (r : Result Outcome OrderFault) (again : Again) (rule : ℕ) → again ≡ Refused rule
    → IsAgainBy own to day x r again → r ≡ Ok (outcome.Refused rule)
by_refused own to day x (Ok (outcome.Accepted y list)) again rule is h = absurd (same_not_refused own to day x y again rule is h)
by_refused own to day x (Ok (outcome.Refused broken)) again rule is h = cc
by_refused own to day x (Ok (outcome.Unfit position count)) again rule is h = absurd h
by_refused own to day x (Err fault) again rule is h = cc

pub refused_told : (to : Contents) (s : Stock) (again : Again) → IsAgainOf to s again → IsRefusedIfTold to s again
refused_told to s again h = λ rule is.
    by_refused s.book.value.book to s.order.day (supplemented s.book.value.book s.order.day s.order.codes) (outcome_of to s.order.day s.order.codes) again rule is h
