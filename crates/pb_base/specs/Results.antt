-- How definitions that answer a value or a fault are put together.
--     and_then answer next    goes on with the value; a fault stays
--     unless fault answer     the fault, or else the answer
use Rattle.std.specs.Prelude.{Result, Ok, Err, Option, Some, None}

abbrev pub and_then : {A B E : Type 0} → Result A E → (A → Result B E) → Result B E
and_then (Ok value) next = next value
and_then (Err fault) next = Err fault

abbrev pub unless : {A E : Type 0} → Option E → Result A E → Result A E
unless None answer = answer
unless (Some fault) answer = Err fault
