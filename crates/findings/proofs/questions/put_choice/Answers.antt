use Rattle.findings.proofs.QuestionSteps.{choice_put}
use Rattle.findings.proofs.questions.put_choice.Goals as goal

pub returns : goal.returns
returns c =
    choice_put c.args.questions.now.items c.put_variants.new.questions.items c.put_pairs.new.questions.items c.put_uncovered.new.questions.items
    (record { position = c.args.position; mandatory = c.args.mandatory; variants = c.args.variants.now })
    c.in_ok-put_variants.ensures c.in_ok-put_pairs.ensures c.in_ok-put_uncovered.ensures
