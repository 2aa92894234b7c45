use Rattle.std.proofs.Common.{◌≡◌, ◌-◌, ◌++◌}
use Rattle.book_sample.specs.Orders.{picks, behind_picks}
use Rattle.book_sample.proofs.sampler.draw_codes.Given as goal

-- what the draws that are left come to, behind the codes so far
abbrev pub invariant-loop-group : goal.invariant-loop-group
invariant-loop-group l = record {
  codes : l.codes ++ picks (l.groups - l.group) l.group l.draws ≡ picks l.groups 0 l.initial.draws;
  state : behind_picks (l.groups - l.group) l.draws ≡ behind_picks l.groups l.initial.draws;
}
