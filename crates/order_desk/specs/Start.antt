-- How a desk is started from the rows of its keeper.
--     tables_in read                        the tables that were read
--     IsCause told before after why         why it isn't started: a row that isn't right, which is the first one where the rows
--                                           are told, or a call of the keeper that failed
--     IsLeft told after why                 the rows that the keeper tells afterwards
--     IsBegun told before after             how many calls of the keeper a start makes
use Rattle.std.specs.Prelude.{◌≡◌, ◌⊎◌, ℕ, Option, Some, IfSome}
use Rattle.std.specs.Option.{option_map}
use Rattle.pb_base.specs.declared.answer.Fail.{Fail}
use Rattle.pb_base.specs.declared.answer.Fail.TheVariants.{Refused, Memory}
use Rattle.pb_outside.specs.Faults.{Faults, Fails, raised}
use Rattle.pb_outside.specs.declared.error.OutError.{OutError}
use Rattle.pb_outside.specs.declared.error.OutError.TheVariants as out
use Rattle.keeper.specs.Rows.{Kept, begun}
use Rattle.order_desk.specs.declared.start.ReadTables.{ReadTables}
use Rattle.order_desk.specs.declared.start.StartFault.{StartFault}
use Rattle.order_desk.specs.declared.start.StartFault.TheVariants.{BadRow, Store}
use Rattle.order_desk.specs.RightRows.{first_bad}
use Rattle.order_desk.specs.Tables.{Tables}

abbrev pub tables_in : ReadTables → Tables
tables_in read = record { drafts = read.drafts.entries; books = read.books.items; orders = read.orders.entries }

-- a row isn't right, and no call of the keeper failed
pub record IsBadRow (told : Option Kept) (before after : Faults) (table place : ℕ) : Type 0 where
  pub first : IfSome told (λ rows. first_bad (begun rows) ≡ Some (table, place))
  pub count : after.count ≡ before.count

-- a call of the keeper failed, with these counts before and after
pub record IsStoreFailure (before after : Faults) (first last : ℕ) : Type 0 where
  pub first_count : first ≡ before.count
  pub last_count : last ≡ after.count
  pub fails : Fails before after

abbrev pub IsCause : Option Kept → Faults → Faults → Fail StartFault → Type 0
IsCause told before after (Refused (BadRow table place)) = IsBadRow told before after table place
IsCause told before after (Refused (Store first last)) = IsStoreFailure before after first last
IsCause told before after Memory = Unit {0}

-- how a call of the keeper that gave nothing is told, with the counts before and after
abbrev pub store_fault : OutError → ℕ → ℕ → Fail StartFault
store_fault out.Failed before after = Refused (Store before after)
store_fault out.Memory before after = Memory

-- rows that were read are begun, and else they are so or as they were
abbrev pub IsLeft : Option Kept → Option Kept → Fail StartFault → Type 0
IsLeft told after (Refused (BadRow table place)) = after ≡ option_map begun told
IsLeft told after (Refused (Store first last)) = (after ≡ told) ⊎ (after ≡ option_map begun told)
IsLeft told after Memory = (after ≡ told) ⊎ (after ≡ option_map begun told)

-- two calls of the keeper: it is begun, and its rows are loaded
abbrev pub loaded : Option ℕ → Option ℕ
loaded before = option_map raised (option_map raised before)

-- these two, and a third just where the rows are to be migrated
abbrev pub IsBegun : Option Kept → Option ℕ → Option ℕ → Type 0
IsBegun told before after =
    (after ≡ loaded before) ⊎ (IfSome told (λ rows. (begun rows).form ≡ 1) × (after ≡ option_map raised (loaded before)))
