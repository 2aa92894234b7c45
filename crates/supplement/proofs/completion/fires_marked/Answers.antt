-- A true formula leaves the activity and the absence of the code.
use Rattle.std.proofs.Common.{sym, ◌∙◌}
use Rattle.supplement.proofs.WorklistLemmas.{fires_absent, fires_present}
use Rattle.supplement.proofs.completion.fires_marked.Goals as goal

pub returns-then-has : goal.returns-then-has
returns-then-has c = sym (fires_present c.args.day c.args.set.now c.args.supplement.now (sym c.has.ensures ∙ c.if-has.true))

pub returns : goal.returns
returns c =
    c.active.ensures
    ∙ sym (fires_absent c.args.day c.args.set.now c.args.supplement.now (c.requires.holding c.if-marked.false) (sym c.has.ensures ∙ c.if-has.false))
