-- What is kept of an order.
use Rattle.std.proofs.Common.{◌≡◌, ℕ, Bool, true, false, ◌||◌, ◌==◌, List, [], ◌∷◌, ◌++◌, Ok, Err, arith, refl, sym, ap, subst, ◌∙◌, inl, append-nil, append_assoc}
use Rattle.std.specs.List.{list_all, list_any, AllByRecursion}
use Rattle.std.proofs.lemmas.Bool.{and_parts, eq-eqb}
use Rattle.std.proofs.lemmas.List.Folds.{list_all-append}
use Rattle.std.proofs.Math.Bool.{or-true}
use Rattle.pb_base.specs.Places.{names_at}
use Rattle.pb_base.specs.Sets.{has}
use Rattle.book_model.specs.Contents.{Contents}
use Rattle.clausify.proofs.ListLaws.{all_weaker}
use Rattle.blame.specs.Entries.{Among}
use Rattle.blame.proofs.ListLaws.{among_self}
use Rattle.order_stays.specs.Stays.{IsCarWith, IsGreedy, IsStay, StaysOrNot}
use Rattle.order_stays.specs.declared.stay.Stay.{Stay}
use Rattle.order_added.specs.Accepted.{is_acceptance, is_accepted}
use Rattle.parts_usage.specs.Outcome.{outcome_of}
use Rattle.parts_usage.specs.declared.fault.OrderFault.{OrderFault}
use Rattle.parts_usage.specs.declared.judgement.Outcome.{Outcome}
use Rattle.parts_usage.specs.declared.judgement.Outcome.TheVariants.{Accepted, Refused, Unfit as UnfitOutcome}
use Rattle.order_repair.specs.Repair.{accepts, IsAddition}

abbrev IsIn : List ℕ → ℕ → Type 0
IsIn cs c = list_any (λ k. k == c) cs ≡ true

all_in : (cs : List ℕ) → AllByRecursion (IsIn cs) cs
all_in [] = tt
all_in (c ∷ cs) = (
  ap (λ (t : Bool). t || list_any (λ k. k == c) cs) (eq-eqb c c refl),
  all_weaker (IsIn cs) (IsIn (c ∷ cs)) (λ d there. ap (λ (t : Bool). (c == d) || t) there ∙ or-true (c == d)) cs (all_in cs),
)

-- going from the left, each stays
greedy_all : (b : Contents) (day : ℕ) (x : List Bool) (before rest : List ℕ) → IsCarWith b day (before ++ rest) x → IsGreedy b day before rest (before ++ rest)
greedy_all b day x before [] car = append-nil before
greedy_all b day x before (c ∷ cs) car =
    let joined : (before ++ c ∷ []) ++ cs ≡ before ++ c ∷ cs = append_assoc before (c ∷ []) cs in
    let whole : IsCarWith b day ((before ++ c ∷ []) ++ cs) x = subst (λ (ks : List ℕ). IsCarWith b day ks x) (sym joined) car in
    let front : IsCarWith b day (before ++ c ∷ []) x = record {
      good = car.good;
      has_kept = (and_parts (list_all (has x) (before ++ c ∷ [])) (list_all (has x) cs) (sym (list_all-append (has x) (before ++ c ∷ []) cs) ∙ whole.has_kept)).0;
    } in
    inl ((x, front), subst (IsGreedy b day (before ++ c ∷ []) cs) joined (greedy_all b day x (before ++ c ∷ []) cs whole))

-- where a car has all codes, all stay
pub all_stay : (b : Contents) (day : ℕ) (chosen : List ℕ) (s : Stay) → s.kept.items ≡ chosen → IsCarWith b day chosen s.car → IsStay b day chosen s
all_stay b day chosen s is car = record {
  greedy = subst (λ (ks : List ℕ). IsGreedy b day [] chosen ks) (sym is) (greedy_all b day s.car [] chosen car);
  among = subst (λ (ks : List ℕ). Among chosen ks) (sym is) (among_self chosen);
  car = subst (λ (ks : List ℕ). IsCarWith b day ks s.car) (sym is) car;
  each = subst (λ (ks : List ℕ). AllByRecursion (StaysOrNot b day ks) chosen) (sym is) (all_weaker (IsIn chosen) (StaysOrNot b day chosen) (λ c there. inl there) chosen (all_in chosen));
}

none_among : (xs : List (List ℕ)) → Among xs []
none_among [] = refl
none_among (x ∷ xs) = inl (none_among xs)

-- nothing is added to codes that are accepted
pub nothing_to_add : (b : Contents) (day : ℕ) (kept : List ℕ) (names added : List (List ℕ)) → names ≡ names_at b.codes kept → added ≡ [] → is_accepted b day names ≡ true
    → IsAddition b day kept added
nothing_to_add b day kept names added are none accepted =
    let there : is_accepted b day (names_at b.codes kept) ≡ true = ap (is_accepted b day) (sym are) ∙ accepted in
    subst (IsAddition b day kept) (sym none) (record {
      added = record {
        accepted = ap (is_accepted b day) (append-nil (names_at b.codes kept)) ∙ there;
        needed = λ place within. absurd (omega arith);
      };
      in_order = none_among b.codes;
      none = λ accepted. refl;
    })

-- an outcome is an acceptance just where its order is accepted
pub accepted_as : (b : Contents) (day : ℕ) (names : List (List ℕ)) (o : Outcome) → outcome_of b day names ≡ Ok o → accepts o ≡ is_accepted b day names
unfolding is_accepted
accepted_as b day names o is = by o ∙ sym (ap is_acceptance is)
  where
    by : (p : Outcome) → accepts p ≡ is_acceptance (Ok p)
    by (Accepted set list) = refl
    by (Refused rule) = refl
    by (UnfitOutcome position count) = refl

pub faulty_refused : (b : Contents) (day : ℕ) (names : List (List ℕ)) (fault : OrderFault) → outcome_of b day names ≡ Err fault → false ≡ is_accepted b day names
unfolding is_accepted
faulty_refused b day names fault is = sym (ap is_acceptance is)
