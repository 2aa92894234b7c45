-- The lines that tell what kept orders come to by another book.
--     stock_line to s again        the caller, the number, and what the order comes to
--     stock_text to stock told     a line for each order, then how many there are
use Rattle.std.specs.Prelude.{ℕ, List, [], ◌∷◌, ◌++◌, codes, length}
use Rattle.book_model.specs.Contents.{Contents}
use Rattle.desk_words.specs.FaultText.{order_fault_text}
use Rattle.pb_base.specs.Lines.{line, number_behind}
use Rattle.order_text.specs.OutcomeText.{refused_text}
use Rattle.order_again.specs.declared.outcome.Again.{Again}
use Rattle.order_again.specs.declared.outcome.Again.TheVariants.{Same, Other, Refused, Fault}
use Rattle.order_again.specs.declared.kept.Stock.{Stock}

abbrev pub again_text : Contents → Again → List ℕ
again_text to Same = line (codes "same")
again_text to Other = line (codes "other")
again_text to (Refused rule) = refused_text to rule
again_text to (Fault fault) = order_fault_text fault

abbrev pub stock_line : Contents → Stock → Again → List ℕ
stock_line to s again = s.caller ++ number_behind s.number ++ codes " " ++ again_text to again

abbrev pub lines_from : Contents → List Stock → List Again → List ℕ
lines_from to (s ∷ stock) (again ∷ told) = stock_line to s again ++ lines_from to stock told
lines_from to stock told = []

abbrev pub stock_text : Contents → List Stock → List Again → List ℕ
stock_text to stock told = lines_from to stock told ++ line (codes "end" ++ number_behind (length stock))
