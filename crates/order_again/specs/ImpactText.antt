-- The lines that tell what a book would change for kept orders.
--     is_of kind again             the answer is of this kind
--     impact_text to stock told    a line for each order, then how many there are, and how many of each kind
use Rattle.std.specs.Prelude.{ℕ, Bool, true, false, List, ◌++◌, codes, count_by, length}
use Rattle.book_model.specs.Contents.{Contents}
use Rattle.pb_base.specs.Lines.{line, number_behind}
use Rattle.order_again.specs.StockText.{lines_from}
use Rattle.order_again.specs.declared.impact.Kind.{Kind}
use Rattle.order_again.specs.declared.impact.Kind.TheVariants as kind
use Rattle.order_again.specs.declared.kept.Stock.{Stock}
use Rattle.order_again.specs.declared.outcome.Again.{Again}
use Rattle.order_again.specs.declared.outcome.Again.TheVariants.{Same, Other, Refused, Fault}

abbrev pub kind_of : Again → Kind
kind_of Same = kind.Same
kind_of Other = kind.Other
kind_of (Refused rule) = kind.Refused
kind_of (Fault fault) = kind.Fault

abbrev pub is_same_kind : Kind → Kind → Bool
is_same_kind kind.Same kind.Same = true
is_same_kind kind.Other kind.Other = true
is_same_kind kind.Refused kind.Refused = true
is_same_kind kind.Fault kind.Fault = true
is_same_kind k l = false

abbrev pub is_of : Kind → Again → Bool
is_of k again = is_same_kind (kind_of again) k

abbrev pub counts_text : List Again → List ℕ
counts_text told =
    codes " same" ++ number_behind (count_by (is_of kind.Same) told)
    ++ codes " other" ++ number_behind (count_by (is_of kind.Other) told)
    ++ codes " refused" ++ number_behind (count_by (is_of kind.Refused) told)
    ++ codes " fault" ++ number_behind (count_by (is_of kind.Fault) told)

abbrev pub impact_text : Contents → List Stock → List Again → List ℕ
impact_text to stock told = lines_from to stock told ++ line (codes "end" ++ number_behind (length stock) ++ counts_text told)
