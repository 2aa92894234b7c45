-- The codes of an order, one further.
use Rattle.std.proofs.Common.{ℕ, ◌+◌, List, ◌++◌, Option, option_map}
use Rattle.serde_json.specs.View.{items_view}
use Rattle.serde_json.specs.declared.value.Value.{Value}
use Rattle.http_api.specs.Body.{codes_in}

-- what was read so far and the codes that are left
abbrev pub with_left : List (List ℕ) → List Value → Option (List (List ℕ))
with_left names left = option_map (λ rest. names ++ rest) (codes_in (items_view left))
