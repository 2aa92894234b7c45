-- What fits tables fits them at every later step.
use Rattle.order_desk.specs.declared.event.Event.{Event}
use Rattle.order_desk.specs.Fits.{Fits}
use Rattle.order_desk.specs.History.{Reaches}
use Rattle.order_desk.specs.Lasting.{fits_last}
use Rattle.order_desk.specs.Tables.{State}
use Rattle.order_desk.proofs.Growth.{reaches_grows}

pub fits_reached : (old new : State) (e : Event) → Reaches old new → Fits old.tables e → Fits new.tables e
fits_reached old new e reached fits = fits_last old.tables new.tables e (reaches_grows old new reached) fits
