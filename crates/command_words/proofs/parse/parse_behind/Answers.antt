use Rattle.std.proofs.Common.{◌∙◌, sym}
use Rattle.std.proofs.lemmas.Result.{IfOk-weaker}
use Rattle.clap.specs.Words.{app_of}
use Rattle.command_words.specs.Prepared.{lent}
use Rattle.command_words.proofs.Tops.{failed_is, found_is}
use Rattle.command_words.proofs.parse.parse_behind.Goals as goal

pub returns-in-Ok : goal.returns-in-Ok
returns-in-Ok c =
    IfOk-weaker c.read_rows.result _ _
    (λ command is. is ∙ found_is (app_of c.in_ok-grammar.field-0) c.args.name.now (lent c.args.words.now) c.in-Ok.matches c.in_ok-grammar.ensures c.requires c.in-Ok.ensures.matches c.in-Ok.ensures.kinds)
    c.read_rows.ensures

pub returns : goal.returns
returns c =
    sym (failed_is (app_of c.in_ok-grammar.field-0) c.args.name.now (lent c.args.words.now) c.in-Err.error c.in_ok-grammar.ensures c.requires c.in-Err.ensures.kinds
    (λ memory. c.in_default.not-OutOfMemory (c.kind.ensures ∙ memory)))
