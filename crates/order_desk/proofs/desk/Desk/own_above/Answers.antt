use Rattle.std.proofs.Common.{ap, arith, ◌∙◌}
use Rattle.order_desk.specs.Listing.{own_above}
use Rattle.order_desk.specs.Tables.{State}
use Rattle.order_desk.proofs.Lists.{between_keys, keys_forward}
use Rattle.order_desk.proofs.desk.Desk.own_above.Goals as goal

pub range-requires : goal.range-requires
range-requires g c = keys_forward c.args.caller c.args.number 4294967295 (omega arith)

pub returns : goal.returns
returns g c =
    c.range.ensures.between tt
    ∙ between_keys c.self.inside.books.items c.self.inside.orders.entries c.args.caller c.args.number 4294967295 (omega arith)
    c.self.invariant.valid.orders
    ∙ ap (λ (s : State). own_above c.args.caller c.args.number s.tables.orders) c.self.view_is
