use Rattle.lost_cars.specs.declared.question.Question.TheVariants.{Breaks}
use Rattle.lost_cars.proofs.AskLaws.{put_more}
use Rattle.lost_cars.proofs.questions.put_breaking.Goals as goal

pub loop-place-preserved : goal.loop-place-preserved
loop-place-preserved c =
    put_more (λ p. Breaks p) c.args.questions.now.items c.loop-place.questions.items c.push.new.self.items c.loop-place.place c.loop-place.invariant c.in_ok-push.ensures.items
