use Rattle.std.proofs.Common.{◌≡◌, ◌++◌, drop}
use Rattle.std.specs.List.{list_all}
use Rattle.pb_base.specs.Names.{is_code_name}
use Rattle.command_words.specs.Prepared.{lent}
use Rattle.command_words.proofs.asked.codes_of.Given as goal

-- the words so far are names, and they were kept
abbrev pub invariant-loop-name : goal.invariant-loop-name
invariant-loop-name l = record {
  names : list_all is_code_name (lent l.names) ≡ list_all is_code_name (lent (drop l.name-index l.names));
  kept : l.codes ++ lent (drop l.name-index l.names) ≡ lent l.names;
}
