use Rattle.left_laws.proofs.laws.named.Goals as goal

pub returns : goal.returns
returns c = record { book = c.codes.ensures.book; distinct = rw c.codes.ensures.value at c.names_law.ensures.distinct }
