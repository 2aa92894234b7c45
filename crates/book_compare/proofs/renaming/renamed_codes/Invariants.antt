use Rattle.std.proofs.Common.{◌≡◌, map, take}
use Rattle.book_compare.specs.JointItems.{number_at}
use Rattle.book_compare.proofs.renaming.renamed_codes.Given as goal

abbrev pub invariant-loop-code : goal.invariant-loop-code
invariant-loop-code l = l.renamed.items ≡ map (number_at l.numbers) (take l.code-index l.codes)
