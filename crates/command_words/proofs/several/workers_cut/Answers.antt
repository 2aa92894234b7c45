use Rattle.std.proofs.Common.{sym, ◌∙◌, None, Some}
use Rattle.command_words.specs.Prepared.{texts_of}
use Rattle.command_words.proofs.SeveralWords.{cut_nothing, cut_value}
use Rattle.command_words.proofs.several.workers_cut.Goals as goal

pub returns-in_err-value : goal.returns-in_err-value
returns-in_err-value c =
    rw c.from_residual.ensures (cut_nothing c.args.words.now c.args.place (sym c.is_value.ensures ∙ c.if-is_value.false) c.in_err-value.ensures)

pub returns-in_err-workers : goal.returns-in_err-workers
returns-in_err-workers c =
    rw c.from_residual-in_err-workers.ensures
    (cut_value c.args.words.now c.args.place (sym c.is_value.ensures ∙ c.if-is_value.false) c.in_ok-value.value.now (texts_of c.in_ok-value.behind.now) None c.in_ok-value.ensures c.in_err-workers.ensures)

pub returns : goal.returns
returns c =
    cut_value c.args.words.now c.args.place (sym c.is_value.ensures ∙ c.if-is_value.false) c.in_ok-value.value.now (texts_of c.in_ok-value.behind.now) (Some c.in_ok-workers.workers) c.in_ok-value.ensures
    c.in_ok-workers.ensures
