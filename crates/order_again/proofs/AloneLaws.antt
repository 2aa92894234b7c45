-- An order, the book that accepted it and the other book determine the answer.
use Rattle.std.proofs.Common.{◌≡◌, ℕ, suc, Bool, List, [], ◌∷◌, Result, Ok, Err, length, refl, sym, ap, ap₂, ◌∙◌, arith}
use Rattle.book_model.specs.Contents.{Contents}
use Rattle.parts_usage.specs.Outcome.{outcome_of}
use Rattle.parts_usage.specs.declared.fault.OrderFault.{OrderFault}
use Rattle.parts_usage.specs.declared.judgement.Outcome.{Outcome}
use Rattle.parts_usage.specs.declared.judgement.Outcome.TheVariants as outcome
use Rattle.release.specs.Orders.{supplemented}
use Rattle.order_again.specs.Again.{IsSameAgain, IsAgainBy, IsAgain, IsAgainOf, AreAgain}
use Rattle.order_again.specs.declared.kept.Stock.{Stock}
use Rattle.order_again.specs.declared.outcome.Again.{Again}
use Rattle.order_again.specs.declared.outcome.Again.TheVariants.{Same, Other, Refused, Fault}

one_of_both : (own to : Contents) (day : ℕ) (x y : List Bool) (a b : Again) → IsSameAgain own to day x y a → IsSameAgain own to day x y b → a ≡ b
one_of_both own to day x y Same Same h k = refl
one_of_both own to day x y Same Other h k = absurd (k.differ (h k.id))
one_of_both own to day x y Same (Refused rule) h k = absurd k
one_of_both own to day x y Same (Fault fault) h k = absurd k
one_of_both own to day x y Other Same h k = absurd (h.differ (k h.id))
one_of_both own to day x y Other Other h k = refl
one_of_both own to day x y Other (Refused rule) h k = absurd k
one_of_both own to day x y Other (Fault fault) h k = absurd k
one_of_both own to day x y (Refused rule) b h k = absurd h
one_of_both own to day x y (Fault fault) b h k = absurd h

alone_by : (own to : Contents) (day : ℕ) (x : List Bool) (o : Result Outcome OrderFault) (a b : Again) → IsAgainBy own to day x o a → IsAgainBy own to day x o b → a ≡ b
alone_by own to day x (Ok (outcome.Accepted y list)) a b h k = one_of_both own to day x y a b h k
alone_by own to day x (Ok (outcome.Refused rule)) a b h k = h ∙ sym k
alone_by own to day x (Ok (outcome.Unfit position count)) a b h k = absurd h
alone_by own to day x (Err fault) a b h k = h ∙ sym k

pub alone : (own to : Contents) (day : ℕ) (names : List (List ℕ)) (a b : Again) → IsAgain own to day names a → IsAgain own to day names b → a ≡ b
alone own to day names a b h k = alone_by own to day (supplemented own day names) (outcome_of to day names) a b h k

-- the answers of several orders, one after the other
pub first_again : (to : Contents) (s : Stock) (stock : List Stock) (a : Again) (told : List Again) → AreAgain to (s ∷ stock) (a ∷ told) → IsAgainOf to s a
first_again to s stock a told h = h.each 0 s a (omega arith)

pub more_again : (to : Contents) (s : Stock) (stock : List Stock) (a : Again) (told : List Again) → AreAgain to (s ∷ stock) (a ∷ told) → AreAgain to stock told
more_again to s stock a told h = record {
  count = let count : suc (length told) ≡ suc (length stock) = h.count in omega (arith, count);
  each = λ k t again within. h.each (suc k) t again (omega (arith, within));
}

pub all_alone : (to : Contents) (stock : List Stock) (told other : List Again) → AreAgain to stock told → AreAgain to stock other → told ≡ other
all_alone to [] [] [] h k = refl
all_alone to [] [] (b ∷ other) h k = absurd (omega (arith, k.count))
all_alone to [] (a ∷ told) other h k = absurd (omega (arith, h.count))
all_alone to (s ∷ stock) [] other h k = absurd (omega (arith, h.count))
all_alone to (s ∷ stock) (a ∷ told) [] h k = absurd (omega (arith, k.count))
all_alone to (s ∷ stock) (a ∷ told) (b ∷ other) h k =
    ap₂ (λ (x : Again) (xs : List Again). x ∷ xs)
    (alone s.book.value.book to s.order.day s.order.codes a b (first_again to s stock a told h) (first_again to s stock b other k))
    (all_alone to stock told other (more_again to s stock a told h) (more_again to s stock b other k))
