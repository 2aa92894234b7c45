use Rattle.std.proofs.Common.{◌≡◌, ◌-◌}
use Rattle.book_sample.specs.Groups.{behind_groups}
use Rattle.book_sample.proofs.sampler.Sampler.after_book.Given as goal

-- what the draws that are left come to
abbrev pub invariant-loop-number : goal.invariant-loop-number
invariant-loop-number l = behind_groups (l.groups - l.number) l.number l.draws ≡ behind_groups l.groups 0 l.initial.draws
