use Rattle.std.proofs.Common.{◌∙◌, ℕ, List, refl, sym, ap, subst}
use Rattle.order_repair.specs.Places.{left_out}
use Rattle.order_repair.specs.Repair.{IsChange}
use Rattle.order_repair.proofs.RepairLaws.{all_stay}
use Rattle.order_repair.proofs.keeping.keep_all.Goals as goal

pub returns : goal.returns
returns c =
    let b = c.args.book.now in
    let chosen = c.args.chosen.now in
    let codes_are = c.in_ok-codes.ensures.items in (
      refl,
      record {
        clash = tt;
        all = λ none. codes_are;
        car = c.args.car;
        stay = all_stay b c.args.day chosen (record { kept = c.in_ok-codes.codes; car = c.args.car }) codes_are c.requires.car;
        left = c.in_ok-left.ensures ∙ ap (left_out chosen) (sym codes_are);
        change = subst (λ (ks : List ℕ). IsChange b c.args.day ks c.in_ok-change.change) (sym codes_are) c.in_ok-change.ensures;
      },
    )
