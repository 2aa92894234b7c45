-- Which runs serve their link to its end.
--     IsOrderly before          the rows are right, and nothing in the stream is refused or cut
--     IsUnfailing before after  no count rose
--     IsDoneOrMemory how        the run served its link to the end, or memory was wanting
use Rattle.std.specs.Prelude.{◌≡◌, ◌⊎◌, ℕ, List, None, IsSomeAnd}
use Rattle.pb_base.specs.declared.answer.Fail.TheVariants.{Memory as NoMemory}
use Rattle.pb_outside.specs.Faults.{Rose}
use Rattle.keeper.specs.Rows.{begun}
use Rattle.order_desk.specs.RightRows.{first_bad}
use Rattle.http_wire.specs.Items.{Items, Last, ended, refused, cut, closed}
use Rattle.http_wire.specs.declared.message.Message.{Message}
use Rattle.session.specs.declared.end.SessionEnd.TheVariants.{Done, Memory}
use Rattle.desk_run.specs.DeskRun.{DeskOutside}
use Rattle.desk_run.specs.declared.end.DeskEnd.{DeskEnd}
use Rattle.desk_run.specs.declared.end.DeskEnd.TheVariants.{NotStarted, Served}

abbrev pub IsGoodLast : Last → Type 0
IsGoodLast ended = Unit {0}
IsGoodLast (refused status) = ⊥
IsGoodLast (cut head) = ⊥
IsGoodLast closed = Unit {0}

-- the messages of the stream stop at its end, or behind one that closes
abbrev pub HasWholeMessages : List ℕ → Type 0
HasWholeMessages s = (messages : List Message) (last : Last) → Items s messages last → IsGoodLast last

-- rows and stream are told; an empty store is right
pub record IsOrderly (before : DeskOutside) : Type 0 where
  pub rows : IsSomeAnd before.rows (λ rows. first_bad (begun rows) ≡ None)
  pub stream : IsSomeAnd before.link.input.left HasWholeMessages

pub record IsUnfailing (before after : DeskOutside) : Type 0 where
  pub source : ¬ Rose before.link.input.faults.count after.link.input.faults.count
  pub sink : ¬ Rose before.link.output.faults after.link.output.faults
  pub keeper : ¬ Rose before.faults.count after.faults.count

abbrev pub IsDoneOrMemory : DeskEnd → Type 0
IsDoneOrMemory how = (how ≡ Served Done) ⊎ (how ≡ Served Memory) ⊎ (how ≡ NotStarted NoMemory)
