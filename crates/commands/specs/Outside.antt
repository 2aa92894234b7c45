-- The outside of a run: what it reads from, what it writes to, what keeps the rows of its desk, and where connections come from.
use Rattle.std.specs.Prelude.{Bool, Option}
use Rattle.pb_door.specs.DoorTold.{DoorTold}
use Rattle.pb_outside.specs.Faults.{Faults}
use Rattle.pb_outside.specs.Source.{SourceTold}
use Rattle.pb_outside.specs.Sink.{SinkTold}
use Rattle.pb_outside.specs.Files.{FilesTold}
use Rattle.keeper.specs.Rows.{Kept}
use Rattle.book_commands.specs.Inputs.{Inputs, inputs}
use Rattle.book_commands.specs.Tells.{Outputs, outputs}
use Rattle.commands.specs.declared.world.Channels.{Channels}
use Rattle.commands.specs.declared.world.World.{World}

-- the rows that are kept, where the keeper tells them, and its faults
pub record KeeperTold : Type 0 where
  pub rows : Option Kept
  pub faults : Faults

-- what the door tells, and whether no call on it or on one of its ports fails from here on
pub record DoorSaid : Type 0 where
  pub told : DoorTold
  pub faultless : Bool

pub record Outside : Type 0 where
  pub reads : Inputs
  pub writes : Outputs
  pub keeper : KeeperTold
  pub door : DoorSaid

abbrev pub keeps : Option Kept → Faults → KeeperTold
keeps rows faults = record { rows = rows; faults = faults }

abbrev pub opens : DoorTold → Bool → DoorSaid
opens told faultless = record { told = told; faultless = faultless }

-- what is told of the channels of a run, by what is told of each of them, and of its keeper
abbrev pub channels_seen : {S K F D : Type 0} → (S → SourceTold) → (K → SinkTold) → (F → FilesTold) → (D → DoorTold) → (D → Bool) → KeeperTold
    → Channels S K F D → Outside
channels_seen input output files told faultless kept c = record {
  reads = inputs (input c.source) (files c.files);
  writes = outputs (output c.sink) c.log;
  keeper = kept;
  door = opens (told c.door) (faultless c.door);
}

-- what is told of a world
abbrev pub seen : {S K F P D : Type 0} → (S → SourceTold) → (K → SinkTold) → (F → FilesTold) → (P → Option Kept) → (P → Faults) → (D → DoorTold)
    → (D → Bool) → World S K F P D → Outside
seen input output files rows failures told faultless w =
    channels_seen input output files told faultless (keeps (rows w.keeper) (failures w.keeper)) w.channels
