use Rattle.std.proofs.Common.{◌≡◌, ◌++◌, drop, map}
use Rattle.clausify.specs.Goals.{superfluous_asked}
use Rattle.clausify.proofs.goals.ask_superfluous.Given as goal

abbrev pub invariant-loop-usage : goal.invariant-loop-usage
invariant-loop-usage l = l.asked.items ++ map superfluous_asked (drop l.usage-index l.usages) ≡ l.initial.asked.items ++ map superfluous_asked l.usages
