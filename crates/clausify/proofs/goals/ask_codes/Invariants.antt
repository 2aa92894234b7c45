use Rattle.std.proofs.Common.{◌≡◌, ◌++◌, drop}
use Rattle.clausify.specs.Goals.{codes_asked_from}
use Rattle.clausify.proofs.goals.ask_codes.Given as goal

abbrev pub invariant-loop-code : goal.invariant-loop-code
invariant-loop-code l = l.asked.items ++ codes_asked_from l.code (drop l.code l.codes) ≡ l.initial.asked.items ++ codes_asked_from 0 l.codes
