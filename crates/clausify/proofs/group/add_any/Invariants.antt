use Rattle.std.proofs.Common.{◌≡◌, ◌+◌, ◌++◌, take, length}
use Rattle.clausify.specs.Items.{any_literals}
use Rattle.clausify.proofs.group.add_any.Given as goal

-- the guard's literal, and those of the codes so far
abbrev pub invariant-loop-place : goal.invariant-loop-place
invariant-loop-place l = record {
  lits : take (l.place + 1) l.lits ≡ take 1 l.initial.lits ++ any_literals (take l.place l.codes);
  size : length l.lits ≡ 65;
}
