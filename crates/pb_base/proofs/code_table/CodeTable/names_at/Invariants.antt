use Rattle.std.proofs.Common.{◌≡◌, ◌++◌, drop}
use Rattle.pb_base.specs.Places.{names_at}
use Rattle.pb_base.proofs.code_table.CodeTable.names_at.Given as goal

-- the names so far and those of the places that are left make the whole
abbrev pub invariant-loop-place : goal.invariant-loop-place
invariant-loop-place l = l.names.items ++ names_at l.self (drop l.place-index l.places) ≡ names_at l.self l.places
