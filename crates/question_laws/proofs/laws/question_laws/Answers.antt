use Rattle.question_laws.proofs.QuestionLaws.{met, shown}
use Rattle.question_laws.proofs.laws.question_laws.Goals as goal

pub returns : goal.returns
returns c = record { met = met; shown = shown }
