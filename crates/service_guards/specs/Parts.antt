-- The steps of a service, and those of each of its workers.
--     IsWithinParts old new share ports    one legal history leads from the old state to the new one, in which the steps of each port
--                                          stand at some places, and are no more than the share
use Rattle.std.specs.Prelude.{◌≡◌, ℕ, ◌≤◌, List, length}
use Rattle.std.specs.List.{AllByRecursion}
use Rattle.pb_door.specs.PortTold.{PortTold}
use Rattle.turn_book.specs.History.{end_of}
use Rattle.turn_book.specs.Places.{at_places}
use Rattle.answering.specs.Seat.{steps_of}
use Rattle.order_desk.specs.History.{IsLegal}
use Rattle.order_desk.specs.Tables.{State}
use Rattle.serve_run.specs.ServeRun.{Log}

pub record IsWithinPart (old : State) (share : ℕ) (history : Log) (port : PortTold) : Type 0 where
  pub places : List ℕ
  pub few : length (at_places (steps_of old history) places) ≤ share

pub record IsWithinParts (old new : State) (share : ℕ) (ports : List PortTold) : Type 0 where
  pub history : Log
  pub legal : IsLegal old history
  pub reached : end_of old history ≡ new
  pub each : AllByRecursion (IsWithinPart old share history) ports
