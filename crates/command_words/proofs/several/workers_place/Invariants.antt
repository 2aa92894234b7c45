use Rattle.std.proofs.Common.{◌≡◌, drop}
use Rattle.command_words.specs.Prepared.{texts_of}
use Rattle.command_words.specs.Several.{workers_from, workers_place}
use Rattle.command_words.proofs.several.workers_place.Given as goal

abbrev pub invariant-loop-place : goal.invariant-loop-place
invariant-loop-place l = workers_from l.place (texts_of (drop l.place l.words)) ≡ workers_place (texts_of l.words)
