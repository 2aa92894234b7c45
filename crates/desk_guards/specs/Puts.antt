-- A put of an order in a journal.
--     IsSure stage                      the keeper has a journal, and no gate of it is in doubt
--     IsWithOrWithout row rows found    these rows were found, or these and the order's
use Rattle.std.specs.Prelude.{◌≡◌, ◌⊎◌, ℕ, false}
use Rattle.journal_keeper.specs.declared.stage.Stage.{Stage}
use Rattle.journal_keeper.specs.declared.stage.Stage.TheVariants.{Open}
use Rattle.keeper.specs.Rows.{Kept, with_order}
use Rattle.keeper.specs.declared.rows.OrderRow.{OrderRow}

abbrev pub IsSure : Stage → Type 0
IsSure stage = (gate : ℕ) × (stage ≡ Open gate false)

abbrev pub IsWithOrWithout : OrderRow → Kept → Kept → Type 0
IsWithOrWithout row rows found = (found ≡ rows) ⊎ (found ≡ with_order row rows)
