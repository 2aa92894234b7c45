-- The text of a right answer is what is told of an order without a fault.
use Rattle.std.proofs.Common.{◌≡◌, ℕ, List, None, ◌⊎◌, inl, inr, sym, subst}
use Rattle.book_model.specs.Contents.{Contents}
use Rattle.parts_usage.specs.Fault.{order_fault}
use Rattle.desk_words.specs.declared.order_words.OrderWords.{OrderWords}
use Rattle.desk_words.specs.declared.reply.Reply.{Reply}
use Rattle.desk_words.specs.declared.reply.Reply.TheVariants as reply
use Rattle.answering.specs.Answers.{IsAdvice, Telling, by_fault}

pub advised : (tells : Telling) (b : Contents) (order : OrderWords) (budget : ℕ) (text : List ℕ) (said : Reply)
    → order_fault b order.day order.codes ≡ None → tells b order budget text → (said ≡ reply.Memory) ⊎ (said ≡ reply.Report text)
    → IsAdvice tells b order budget said
advised tells b order budget text said none right (inl is) = inl is
advised tells b order budget text said none right (inr is) =
    inr (subst (λ o. by_fault tells o b order budget said) (sym none) (text, right, is))
