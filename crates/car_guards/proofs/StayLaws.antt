-- What the contract of the codes that stay says of each that doesn't.
use Rattle.std.proofs.Common.{inl, inr, ℕ, List, [], ◌∷◌, sym, ◌∙◌}
use Rattle.std.specs.List.{AllByRecursion}
use Rattle.std.proofs.lemmas.Bool.{true≢false}
use Rattle.book_model.specs.Contents.{Contents}
use Rattle.order_stays.specs.Stays.{IsStaying, StaysOrNot}
use Rattle.order_stays.specs.declared.stay.Staying.{Staying}
use Rattle.order_stays.specs.declared.stay.Staying.TheVariants.{Codes, NoCar, Undecided}
use Rattle.car_guards.specs.Staying.{LeavesOutNone, StaysWhere}

stays_where : (b : Contents) (day : ℕ) (kept : List ℕ) (code : ℕ) → StaysOrNot b day kept code → StaysWhere b day kept code
stays_where b day kept code (inl stays) = λ x good kept_there there. stays
stays_where b day kept code (inr none) = λ x good kept_there there.
    absurd (true≢false (sym there ∙ none x (record { good = good; has_kept = kept_there })))

each_where : (b : Contents) (day : ℕ) (kept chosen : List ℕ) → AllByRecursion (StaysOrNot b day kept) chosen → AllByRecursion (StaysWhere b day kept) chosen
each_where b day kept [] h = tt
each_where b day kept (code ∷ chosen) h = (stays_where b day kept code h.0, each_where b day kept chosen h.1)

pub leaves_out_none : (b : Contents) (day : ℕ) (chosen : List ℕ) (budget : ℕ) (answer : Staying) → IsStaying b day chosen budget answer → LeavesOutNone b day chosen answer
leaves_out_none b day chosen budget (Codes stay) h = each_where b day stay.kept.items chosen h.each
leaves_out_none b day chosen budget NoCar h = tt
leaves_out_none b day chosen budget (Undecided learnt) h = tt
