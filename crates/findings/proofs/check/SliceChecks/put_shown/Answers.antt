use Rattle.std.proofs.Common.{sym, ◌∙◌}
use Rattle.std.proofs.lemmas.Bool.{true≢false}
use Rattle.findings.proofs.check.SliceChecks.put_shown.Goals as goal

pub returns-then-stopped-clause-text : goal.returns-then-stopped-clause-text
returns-then-stopped-clause-text c = λ count before free is begun. absurd (true≢false (sym c.if-stopped.true ∙ free))

pub returns-clause-text : goal.returns-clause-text
returns-clause-text c = λ count before free is begun. c.in_ok-put_proof.ensures count before is begun
