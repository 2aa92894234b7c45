use Rattle.std.proofs.Common.{◌≡◌, map, ap, ◌∙◌, rules}
use Rattle.keeper.specs.Put.{put}
use Rattle.keeper.specs.Keys.{by_caller}
use Rattle.journal_keeper.specs.declared.tables.OrderFields.{OrderFields}
use Rattle.journal_keeper.specs.Tables.{order_of}
use Rattle.journal_keeper.proofs.Sets.{order_set}
use Rattle.journal_keeper.proofs.tables.set_order.Goals as goal

pub returns : goal.returns
returns c =
    let caller_is : c.in_ok-caller.caller.items ≡ c.args.caller.now = search rules in
    let codes_is : c.in_ok-body.field-0 ≡ c.args.codes.now = c.in_ok-body.ensures in
    let fields : OrderFields = record { book = c.args.book; day = c.args.day; codes = c.in_ok-body.field-0 } in
    ap (map order_of) c.in_ok-insert.ensures.entries ∙ order_set c.args.table.now.entries (c.in_ok-caller.caller, c.args.number) fields
    ∙ ap (λ k. put by_caller (record { caller = k; number = c.args.number; book = c.args.book; day = c.args.day; codes = c.in_ok-body.field-0 }) (map order_of c.args.table.now.entries)) caller_is
    ∙ ap (λ t. put by_caller (record { caller = c.args.caller.now; number = c.args.number; book = c.args.book; day = c.args.day; codes = t }) (map order_of c.args.table.now.entries)) codes_is
