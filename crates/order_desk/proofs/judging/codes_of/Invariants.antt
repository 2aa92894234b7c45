use Rattle.std.proofs.Common.{◌≡◌, map, true}
use Rattle.std.specs.List.{list_all}
use Rattle.pb_base.specs.Names.{is_code_name}
use Rattle.order_desk.proofs.judging.codes_of.Given as goal

-- the codes are those that were taken
abbrev pub invariant-loop-name : goal.invariant-loop-name
invariant-loop-name l = record {
  next : (goal.iterator-loop-name).can_next l.name-iterator;
  ends : (goal.iterator-loop-name).is_finite l.name-iterator;
  taken : l.codes.items ≡ map (λ n. n.now) l.yielded;
  named : list_all is_code_name (map (λ n. n.now) l.yielded) ≡ true;
}
