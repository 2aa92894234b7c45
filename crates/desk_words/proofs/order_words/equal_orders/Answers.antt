use Rattle.std.proofs.Common.{◌≡◌, sym, ◌∙◌, ap}
use Rattle.std.proofs.lemmas.Bool.{eqb-true}
use Rattle.desk_words.specs.declared.order_words.OrderWords.{OrderWords}
use Rattle.desk_words.proofs.order_words.equal_orders.Goals as goal
use Rattle.desk_words.proofs.order_words.equal_orders.Goals.{then-a-b, else-a-b}

-- two orders whose parts are the same
same_order : (a b : OrderWords) → a.book ≡ b.book → a.day ≡ b.day → a.codes ≡ b.codes → a ≡ b
same_order a b book day codes = λ i. record { book = book i; day = day i; codes = codes i }

pub returns-then-a-b-2 : goal.returns-then-a-b-2
returns-then-a-b-2 c = elim c.if-a-b.branch [
  | then-a-b w ↦
      let day = eqb-true c.args.a.now.day c.args.b.now.day (sym w.value-is ∙ c.if-a-b-2.true) in (
        λ equal. same_order c.args.a.now c.args.b.now w.if-a-b.true day (c.same_codes.ensures.0 equal),
        λ same. c.same_codes.ensures.1 (ap (λ (o : OrderWords). o.codes) same),
      )
  | else-a-b w ↦ absurd (w.if-a-b.false (eqb-true c.args.a.now.book c.args.b.now.book (sym w.value-is ∙ c.if-a-b-2.true)))
]
