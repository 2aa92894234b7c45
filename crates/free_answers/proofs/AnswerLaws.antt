-- Orders without a fault.
use Rattle.std.proofs.Common.{◌≡◌, ℕ, Bool, true, false, cond, List, [], Option, Some, None, Ok, Err, option_map, refl}
use Rattle.pb_base.specs.NamedSet.{first_fault}
use Rattle.pb_base.specs.Results.{unless}
use Rattle.pb_base.specs.Answers.{Gives, IfRefused}
use Rattle.pb_base.specs.declared.answer.Fail.{Fail}
use Rattle.pb_base.specs.declared.answer.Fail.TheVariants.{Refused, Memory}
use Rattle.pb_base.specs.declared.named_set.NameFault.{NameFault}
use Rattle.book_model.specs.Activity.{is_within}
use Rattle.book_model.specs.Contents.{Contents}
use Rattle.parts_usage.specs.Fault.{fault_of_name, order_fault}
use Rattle.parts_usage.specs.declared.fault.OrderFault.TheVariants.{DayOutsideTerm}

in_term : (within : Bool) (fault : Option NameFault) → cond within (option_map fault_of_name fault) (Some DayOutsideTerm) ≡ None → within ≡ true
in_term true fault h = refl
in_term false fault h = absurd (cc)

-- the day of an order without a fault is in the term
pub day_in_term : (b : Contents) (day : ℕ) (names : List (List ℕ)) → order_fault b day names ≡ None → is_within b.first b.last day ≡ true
day_in_term b day names h = in_term (is_within b.first b.last day) (first_fault b.codes [] names) h

-- what is answered behind the test for a fault
pub ok_behind : {A E : Type 0} (fault : Option E) (o o' : A) → unless fault (Ok o) ≡ Ok o' → (fault ≡ None) × (o' ≡ o)
ok_behind None o o' h = (refl, cc)
ok_behind (Some fault) o o' h = absurd (cc)

pub err_behind : {A E : Type 0} (fault : Option E) (o : A) (e : E) → unless fault (Ok o) ≡ Err e → fault ≡ Some e
err_behind None o e h = absurd (cc)
err_behind (Some fault) o e h = cc

-- a call that fails names the fault, if it refuses
pub fail_behind : {A E : Type 0} (fault : Option E) (o : A) (fail : Fail E) → Gives {U = A} {A = A} {E = E} (Err fail) (λ value. value) (unless fault (Ok o))
    → IfRefused {U = A} {E = E} (Err fail) (λ e. fault ≡ Some e)
fail_behind fault o (Refused e) h = err_behind fault o e h
fail_behind fault o Memory h = tt
