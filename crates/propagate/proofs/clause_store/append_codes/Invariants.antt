use Rattle.std.proofs.Common.{◌≡◌, ◌++◌, ◌≤◌, take}
use Rattle.std.specs.Vec.{vec_capacity}
use Rattle.propagate.proofs.clause_store.append_codes.Given as goal

abbrev pub invariant-loop-lit : goal.invariant-loop-lit
invariant-loop-lit l = record { items : l.codes.items ≡ l.initial.codes.items ++ take l.lit-index l.lits; room : vec_capacity l.initial.codes ≤ vec_capacity l.codes }
