use Rattle.std.proofs.Common.{◌≡◌, ◌++◌, drop}
use Rattle.pb_base.specs.NamesText.{names_from}
use Rattle.pb_base.proofs.set_names.put_names.Given as goal

-- the text so far and the names that are left make the whole
abbrev pub invariant-loop-place : goal.invariant-loop-place
invariant-loop-place l = l.text ++ names_from l.place l.set (drop l.place l.codes) ≡ l.initial.text ++ names_from 0 l.set l.codes
