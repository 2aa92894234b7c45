use Rattle.std.proofs.Common.{◌≡◌, ℕ, ◌+◌, ◌-◌, List, [], ◌∷◌, ◌++◌, length, take, refl, sym, ap, subst, ◌∙◌, arith}
use Rattle.std.proofs.lemmas.List.{length-append}
use Rattle.blame.specs.Entries.{Among}
use Rattle.blame.proofs.ListLaws.{among_self}
use Rattle.order_stays.proofs.StayLaws.{tried_within, tried_few, stays_there, stays_by, stays_not, within_car}
use Rattle.order_stays.proofs.staying.try_code.Goals as goal

pub has-requires : goal.has-requires
has-requires c = within_car c.args.book.now c.args.day c.args.code c.args.stay.now.car c.requires.car.good c.requires.within

pub find_unless-requires-clause-kept : goal.find_unless-requires-clause-kept
find_unless-requires-clause-kept c =
    tried_within c.args.book.now c.args.day c.args.code c.args.stay.now c.deref.result.now (c.deref.ensures.value ∙ c.in_ok-push.ensures.items) c.requires.car
    c.requires.kept c.requires.within

pub find_unless-requires-clause-few : goal.find_unless-requires-clause-few
find_unless-requires-clause-few c =
    tried_few c.args.book.now c.args.day c.args.code c.args.stay.now c.deref.result.now (c.deref.ensures.value ∙ c.in_ok-push.ensures.items) c.requires.car c.requires.few

pub returns-then-has-clause-tried : goal.returns-then-has-clause-tried
returns-then-has-clause-tried c =
    stays_there c.args.book.now c.args.day c.args.code c.args.stay.now _ c.in_ok-push.ensures.items c.requires.car _ refl refl (sym c.has.ensures ∙ c.if-has.true)

pub returns-in-Car-clause-tried : goal.returns-in-Car-clause-tried
returns-in-Car-clause-tried c =
    stays_by c.args.book.now c.args.day c.args.code c.args.stay.now c.deref.result.now (c.deref.ensures.value ∙ c.in_ok-push.ensures.items) c.requires.car _
    (sym c.deref.ensures.value) (rw c.in-Car.is at c.in_ok-found.ensures.found)

pub returns-in-NoCar-clause-tried : goal.returns-in-NoCar-clause-tried
returns-in-NoCar-clause-tried c =
    let last : c.push.new.self.len - 1 + 1 ≡ length c.deref.result.now =
    omega (
      arith,
      c.push.new.self.ok.0,
      ap length c.deref.ensures.value,
      ap length c.in_ok-push.ensures.items,
      length-append c.args.stay.now.kept.items (c.args.code ∷ []),
    ) in
    stays_not c.args.book.now c.args.day c.args.code c.args.stay.now c.deref.result.now (c.deref.ensures.value ∙ c.in_ok-push.ensures.items) c.requires.car _
    (c.push.new.self.len - 1) (c.pop.ensures.rest ∙ ap (λ (ks : List ℕ). take (c.push.new.self.len - 1) ks) (sym c.deref.ensures.value)) last refl
    (rw c.in-NoCar.is at c.in_ok-found.ensures.found)

pub returns-in-Undecided-clause-tried : goal.returns-in-Undecided-clause-tried
returns-in-Undecided-clause-tried c = record {
  kept = c.deref.result.now;
  among = subst (Among (c.args.stay.now.kept.items ++ c.args.code ∷ [])) (sym (c.deref.ensures.value ∙ c.in_ok-push.ensures.items)) (among_self (c.args.stay.now.kept.items ++ c.args.code ∷ []));
  left = rw c.in-Undecided.is at c.in_ok-found.ensures.found;
}
