use Rattle.std.proofs.Common.{◌≡◌, ◌∙◌, None, ap, subst, sym}
use Rattle.desk_words.specs.declared.order_words.OrderWords.{OrderWords}
use Rattle.book_sample.specs.Orders.{Stream}
use Rattle.book_text.proofs.BookLaw.{book_of-book}
use Rattle.parts_usage.specs.Fault.{order_fault}
use Rattle.book_commands.proofs.SampleLaws.{no_order_fault, orders_more, lines_more, tally_more}
use Rattle.book_commands.proofs.sample.judge_orders.Goals as goal

pub judge_order-requires : goal.judge_order-requires
judge_order-requires c =
    let lawful = rw c.codes_of.ensures.value at c.codes_of.ensures.lawful in
    subst (λ (order : OrderWords). order_fault c.args.released.now.book order.day order.codes ≡ None) (sym c.in_ok-order.ensures.order)
    (no_order_fault _ _ _ c.loop.sampler lawful c.requires c.loop.invariant.groups)

pub loop-preserved : goal.loop-preserved
loop-preserved c =
    let whole = tally_more _ _ _ _ _ _ _ _ _ _ (rw c.orders-end.ensures at c.loop-test.true) c.in_ok-order.ensures.order c.in_ok-order.ensures.ok
    c.in_ok-judge_order.ensures c.with-tally.ensures c.loop.invariant.whole in
    record {
      whole = whole;
      groups = ap (λ (s : Stream). s.groups) c.in_ok-order.ensures.ok ∙ c.loop.invariant.groups;
      orders = orders_more _ _ _ _ c.with-tally.ensures c.loop.invariant.orders;
      lines = lines_more _ c.in_ok-order.order _ _ _ _ (book_of-book _ _ c.requires) c.in_ok-judge_order.ensures c.with-tally.ensures c.loop.invariant.lines;
    }
