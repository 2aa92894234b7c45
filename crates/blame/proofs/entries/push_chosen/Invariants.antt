use Rattle.std.proofs.Common.{◌≡◌, ◌++◌, map, drop}
use Rattle.blame.specs.declared.entries.Entry.TheVariants.{Chosen}
use Rattle.blame.proofs.entries.push_chosen.Given as goal

abbrev pub invariant-loop-code : goal.invariant-loop-code
invariant-loop-code l = l.all.items ++ map (λ c. Chosen c) (drop l.code-index l.chosen) ≡ l.initial.all.items ++ map (λ c. Chosen c) l.chosen
