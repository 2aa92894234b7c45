-- What became of the words of a run before anything waits.
--     IfEnded begun P      of the run that ended, where it did
--     IfService begun P    of the service that is asked for, and of the world, where nothing was begun
use Rattle.command_words.specs.Service.{Service}
use Rattle.commands.specs.declared.begun.Begun.{Begun}
use Rattle.commands.specs.declared.begun.Begun.TheVariants.{Ended, Awaited}
use Rattle.commands.specs.declared.run_end.RunEnd.{RunEnd}

abbrev pub IfEnded : {W : Type 0} → Begun W → (RunEnd W → Type 0) → Type 0
IfEnded (Ended end) R = R end
IfEnded (Awaited service world) R = Unit {0}

abbrev pub IfService : {W : Type 0} → Begun W → (Service → W → Type 0) → Type 0
IfService (Ended end) R = Unit {0}
IfService (Awaited service world) R = R service world
