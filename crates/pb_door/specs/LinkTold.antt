-- What a link tells of its two ends.
use Rattle.std.specs.Prelude.{◌≡◌, [], IfSome}
use Rattle.pb_outside.specs.Sink.{SinkTold}
use Rattle.pb_outside.specs.Source.{SourceTold}

pub record LinkTold : Type 0 where
  pub input : SourceTold
  pub output : SinkTold

abbrev pub link_told : SourceTold → SinkTold → LinkTold
link_told input output = record { input = input; output = output }

-- it has taken nothing yet, where it tells that
abbrev pub IsUnwritten : LinkTold → Type 0
IsUnwritten link = IfSome link.output.taken (λ bytes. bytes ≡ [])
