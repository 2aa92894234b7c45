use Rattle.std.proofs.Common.{◌≡◌, ℕ, ◌<◌, true, List, get_or}
use Rattle.pb_base.specs.Names.{is_code_name}
use Rattle.answering.proofs.names.code_names_law.Given as goal

-- those that were read are code names
abbrev pub invariant-loop-code : goal.invariant-loop-code
invariant-loop-code l = (k : ℕ) (d : List ℕ) → k < l.code-index → is_code_name (get_or l.codes k d) ≡ true
