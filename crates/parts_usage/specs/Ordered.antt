-- The codes that an order names, where it has no fault.
--     ordered_of b day names    the set of the codes; None where the order has a fault
use Rattle.std.specs.Prelude.{ℕ, Bool, List, Option, None, Some}
use Rattle.pb_base.specs.NamedSet.{named}
use Rattle.book_model.specs.Contents.{Contents}
use Rattle.parts_usage.specs.Fault.{order_fault}
use Rattle.parts_usage.specs.declared.fault.OrderFault.{OrderFault}

abbrev pub unless_fault : Option OrderFault → List Bool → Option (List Bool)
unless_fault None set = Some set
unless_fault (Some fault) set = None

abbrev pub ordered_of : Contents → ℕ → List (List ℕ) → Option (List Bool)
ordered_of b day names = unless_fault (order_fault b day names) (named b.codes names)
