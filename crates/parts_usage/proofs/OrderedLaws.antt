-- What is named behind the test for a fault.
use Rattle.std.proofs.Common.{◌≡◌, ℕ, Option, None, Some, Ok, Err, List, Bool, refl}
use Rattle.pb_base.specs.NamedSet.{named}
use Rattle.pb_base.specs.Results.{unless}
use Rattle.book_model.specs.Contents.{Contents}
use Rattle.parts_usage.specs.Fault.{order_fault}
use Rattle.parts_usage.specs.Ordered.{unless_fault, ordered_of}
use Rattle.parts_usage.specs.declared.fault.OrderFault.{OrderFault}

pub found_some : (fault : Option OrderFault) (ordered set : List Bool) → unless fault (Ok ordered) ≡ Ok set → Some set ≡ unless_fault fault ordered
found_some None ordered set h = cc
found_some (Some fault) ordered set h = absurd (cc)

pub found_none : (fault : Option OrderFault) (ordered : List Bool) (other : OrderFault) → unless fault (Ok ordered) ≡ Err other → None ≡ unless_fault fault ordered
found_none None ordered other h = absurd (cc)
found_none (Some fault) ordered other h = refl

pub faultless_only : (fault : Option OrderFault) (ordered set : List Bool) → unless fault (Ok ordered) ≡ Ok set → set ≡ ordered
faultless_only None ordered set h = cc
faultless_only (Some fault) ordered set h = absurd (cc)

pub never_refused : (fault : Option OrderFault) (ordered : List Bool) (other : OrderFault) → fault ≡ None → unless fault (Ok ordered) ≡ Err other → ⊥
never_refused None ordered other none h = absurd (cc)
never_refused (Some fault) ordered other none h = absurd (cc)

-- an order that names a set has no fault
pub record IsOrdered (b : Contents) (day : ℕ) (names : List (List ℕ)) (set : List Bool) : Type 0 where
  pub faultless : order_fault b day names ≡ None
  pub is : set ≡ named b.codes names

pub ordered_is : (b : Contents) (day : ℕ) (names : List (List ℕ)) (set : List Bool) → ordered_of b day names ≡ Some set → IsOrdered b day names set
ordered_is b day names set h = by (order_fault b day names) refl h
  where
    by : (fault : Option OrderFault) → order_fault b day names ≡ fault → unless_fault fault (named b.codes names) ≡ Some set → IsOrdered b day names set
    by None found is = record { faultless = found; is = cc }
    by (Some fault) found is = absurd (cc)
