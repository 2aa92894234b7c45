use Rattle.std.proofs.Common.{sym, append-nil}
use Rattle.findings.proofs.questions.put_uncovered.Goals as goal

pub returns-then-not-mandatory : goal.returns-then-not-mandatory
returns-then-not-mandatory c = rw c.if-not-mandatory.true (sym (append-nil c.args.questions.now.items))

pub returns : goal.returns
returns c = rw c.if-not-mandatory.false c.in_ok-push.ensures.items
