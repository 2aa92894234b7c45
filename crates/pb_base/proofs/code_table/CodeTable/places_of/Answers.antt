use Rattle.std.proofs.Common.{ℕ, List, All, ◌<◌, length, sym, subst}
use Rattle.pb_base.proofs.PlacesLaws.{places_within}
use Rattle.pb_base.proofs.code_table.CodeTable.places_of.Goals as goal

pub returns-clause-within : goal.returns-clause-within
returns-clause-within c =
    subst (λ (places : List ℕ). All (λ (place : ℕ). place < length c.args.self.now) places) (sym c.in_ok-places.ensures) (places_within c.args.self.now c.args.names.now)
