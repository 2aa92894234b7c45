use Rattle.std.proofs.Common.{◌≡◌, [], IfOk, sym, subst, All}
use Rattle.book_model.specs.Contents.{Contents}
use Rattle.rules_met.specs.Met.{IsCounted}
use Rattle.lost_cars.specs.Losses.{AreLosses, KeepsCars}
use Rattle.book_changes.proofs.run_work.losses.Goals as goal

pub lost_cars-requires-clause-counted : goal.lost_cars-requires-clause-counted
lost_cars-requires-clause-counted c =
    subst (λ (b : Contents). All (IsCounted b) c.args.sets.now) (sym c.book-one.ensures.value) c.requires.sets

pub returns-clause-sets : goal.returns-clause-sets
returns-clause-sets c =
    subst (λ (b : Contents). All (IsCounted b) c.lost_cars.new.sets) c.book-one.ensures.value c.lost_cars.ensures.counted

pub returns-clause-notes : goal.returns-clause-notes
returns-clause-notes c =
    subst (λ (b : Contents). IfOk c.lost_cars.result (λ ns. AreLosses b c.args.other.now.book c.args.run.first c.args.budget ns.items)) c.book-one.ensures.value
    (subst (λ (b : Contents). IfOk c.lost_cars.result (λ ns. AreLosses c.book-one.result.now b c.args.run.first c.args.budget ns.items)) c.book-two.ensures.value c.lost_cars.ensures.notes)

pub returns-clause-keeps : goal.returns-clause-keeps
returns-clause-keeps c =
    subst (λ (b : Contents). IfOk c.lost_cars.result (λ ns. ns.items ≡ [] → KeepsCars b c.args.other.now.book c.args.run.first)) c.book-one.ensures.value
    (subst (λ (b : Contents). IfOk c.lost_cars.result (λ ns. ns.items ≡ [] → KeepsCars c.book-one.result.now b c.args.run.first)) c.book-two.ensures.value c.lost_cars.ensures.keeps)
