use Rattle.std.proofs.Common.{inr, subst}
use Rattle.desk_words.specs.declared.order_words.OrderWords.{OrderWords}
use Rattle.order_desk.specs.declared.event.Event.TheVariants.{Read}
use Rattle.order_desk.specs.declared.event.Reading.TheVariants.{Look}
use Rattle.answering.specs.Hand.{Takes}
use Rattle.answering.specs.Told.{IsBookThere, as_looked}
use Rattle.answering.specs.declared.asked.Looked.TheVariants.{Kept}
use Rattle.answering.proofs.TableLaws.{kept_accepted}
use Rattle.answering.proofs.orders.look_and_place.Goals as goal

-- the order that was looked for is a copy of the one that is placed
pub judge_and_place-requires-clause-there : goal.judge_and_place-requires-clause-there
judge_and_place-requires-clause-there g c =
    subst (λ (o : OrderWords). IsBookThere (g.T.Turns.hand c.ask_number.new.turns).state.tables o.book c.in-Ok-Free.book) c.requires.same
    (rw c.in-Ok-Free.field-0-is at c.in-Ok-Free.ensures.tells)

pub tell_placed-requires : goal.tell_placed-requires
tell_placed-requires g c =
    kept_accepted _ c.in-Ok-Kept.kept.order c.in-Ok-Kept.kept.book c.in-Ok-Kept.ensures.valid
    (rw c.in-Ok-Kept.field-0-is at c.in-Ok-Kept.ensures.tells)

pub returns-in-Ok-Kept : goal.returns-in-Ok-Kept
returns-in-Ok-Kept g c =
    let found = Kept c.in-Ok-Kept.kept in
    let new = g.T.Turns.hand c.ask_number.new.turns in
    inr (
      found,
      new,
      subst (λ (o : OrderWords). Takes (g.T.Turns.hand c.args.turns.now) (Read (Look c.args.caller c.args.number o)) (as_looked found) new)
          c.requires.same (rw c.in-Ok-Kept.field-0-is at c.in-Ok-Kept.ensures.takes),
      c.tell_placed.ensures new,
    )
