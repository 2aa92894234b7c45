-- Answers that were all given.
use Rattle.std.proofs.Common.{◌≡◌, ℕ, zero, suc, ◌<◌, List, [], ◌∷◌, Result, Ok, length, get_or, map, refl, sym, ap, subst, ◌∙◌, arith}
use Rattle.std.specs.Result.{IfOk}
use Rattle.std.proofs.lemmas.List.{length-map}
use Rattle.pb_base.specs.declared.answer.Memory.{Memory}
use Rattle.book_model.specs.Contents.{Contents}
use Rattle.order_again.specs.Again.{IsAgainOf, AreAgain}
use Rattle.order_again.specs.declared.kept.Stock.{Stock}
use Rattle.order_again.specs.declared.outcome.Again.{Again}

abbrev given : Again → Result Again Memory
given again = Ok again

given_at : (all : List Again) (k : ℕ) (d : Again) → k < length all → get_or (map given all) k (given d) ≡ given (get_or all k d)
given_at [] k d within = absurd (omega arith)
given_at (a ∷ all) zero d within = refl
given_at (a ∷ all) (suc k) d within = given_at all k d (omega arith)

pub gathered_each : (to : Contents) (stock : List Stock) (told read : List (Result Again Memory)) (all : List Again) → read ≡ told → read ≡ map given all → length told ≡ length stock
    → ((k : ℕ) (s : Stock) (d : Result Again Memory) → k < length stock → IfOk (get_or told k d) (IsAgainOf to (get_or stock k s))) → AreAgain to stock all
gathered_each to stock told read all same_list is same each =
    let told_is : told ≡ map given all = sym same_list ∙ is in
    let count : length all ≡ length stock = sym (length-map all given) ∙ sym (ap length told_is) ∙ same in
    record {
      count = count;
      each = λ k s again within.
          subst (λ (r : Result Again Memory). IfOk r (IsAgainOf to (get_or stock k s)))
          (ap (λ (rs : List (Result Again Memory)). get_or rs k (given again)) told_is ∙ given_at all k again (omega (arith, within, count)))
          (each k s (given again) within);
    }
