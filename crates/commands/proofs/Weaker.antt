-- What is known of words, once it is known what became of them.
use Rattle.commands.specs.Begun.{IfEnded, IfService}
use Rattle.command_words.specs.Service.{Service}
use Rattle.commands.specs.declared.begun.Begun.{Begun}
use Rattle.commands.specs.declared.begun.Begun.TheVariants.{Ended, Awaited}
use Rattle.commands.specs.declared.run_end.RunEnd.{RunEnd}

pub IfEnded-weaker : {W : Type 0} (begun : Begun W) (A B : RunEnd W → Type 0) → ((end : RunEnd W) → A end → B end) → IfEnded begun A → IfEnded begun B
IfEnded-weaker (Ended end) A B more h = more end h
IfEnded-weaker (Awaited service world) A B more h = tt

pub IfService-weaker : {W : Type 0} (begun : Begun W) (A B : Service → W → Type 0) → ((service : Service) (world : W) → A service world → B service world)
    → IfService begun A → IfService begun B
IfService-weaker (Ended end) A B more h = tt
IfService-weaker (Awaited service world) A B more h = more service world h
