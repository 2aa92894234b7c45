use Rattle.std.proofs.Common.{◌∙◌, Some, None}
use Rattle.std.proofs.lemmas.Result.{IfOk-weaker}
use Rattle.clap.specs.Words.{found_of}
use Rattle.command_words.specs.Prepared.{lent, lent_option}
use Rattle.command_words.proofs.Grammars.{rows_read}
use Rattle.command_words.proofs.parse.read_rows.Goals as goal

pub returns-in-Some : goal.returns-in-Some
returns-in-Some c =
    IfOk-weaker c.asked.result _ _
    (λ command is. is ∙ rows_read (found_of c.args.found.now) c.args.name.now (lent_option c.get_str-budget.result) (Some (lent c.in-Some.operands.now)) c.get_str-budget.ensures c.in-Some.ensures)
    c.asked.ensures

pub returns-in-None : goal.returns-in-None
returns-in-None c =
    IfOk-weaker c.asked-in-None.result _ _
    (λ command is. is ∙ rows_read (found_of c.args.found.now) c.args.name.now (lent_option c.get_str-budget.result) None c.get_str-budget.ensures c.in-None.ensures)
    c.asked-in-None.ensures
