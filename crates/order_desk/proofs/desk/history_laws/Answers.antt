use Rattle.order_desk.proofs.EffectWrites.{reads_nothing}
use Rattle.order_desk.proofs.Growth.{reaches_grows}
use Rattle.order_desk.proofs.Lasting.{fits_reached}
use Rattle.order_desk.proofs.StepValid.{step_valid, reaches_valid}
use Rattle.order_desk.proofs.desk.history_laws.Goals as goal

pub returns-clause-grows : goal.returns-clause-grows
returns-clause-grows c = reaches_grows

pub returns-clause-fits : goal.returns-clause-fits
returns-clause-fits c = fits_reached

pub returns-clause-step : goal.returns-clause-step
returns-clause-step c = λ old new event answer. step_valid old event answer new

pub returns-clause-valid : goal.returns-clause-valid
returns-clause-valid c = reaches_valid

pub returns-clause-reads : goal.returns-clause-reads
returns-clause-reads c = reads_nothing
