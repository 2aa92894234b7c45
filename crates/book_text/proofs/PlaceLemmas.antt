-- The places that names stand for are among the records, and those of distinct names are distinct.
use Rattle.std.proofs.Common.{◌≡◌, ◌<◌, ◌≤◌, ◌+◌, ◌++◌, ℕ, drop, append_assoc, Result, Bool, true, false, List, [], ◌∷◌, length, Option, Some, None, Ok, Err, refl, sym, ap, ◌∙◌, subst, arith, get_or}
use Rattle.std.specs.Prelude.{nat_eq, ok_or, IfSome, All}
use Rattle.std.specs.List.{IsDistinct, AllByRecursion, list_all}
use Rattle.std.specs.Cmp.Lexicographic.{nat_list_eq_equiv, bytes_decides}
use Rattle.std.proofs.lemmas.List.{drop_more, drop_all, append-nil}
use Rattle.std.proofs.lemmas.List.Elements.{All-nil, All-cons}
use Rattle.std.proofs.lemmas.List.Folds.{list_all_at}
use Rattle.std.proofs.lemmas.List.Quantifiers.{position-Some}
use Rattle.pb_base.specs.Names.{is_code_name, same_name, place_in}
use Rattle.pb_base.specs.Answers.{Answers}
use Rattle.pb_base.specs.Results.{and_then}
use Rattle.pb_base.specs.declared.answer.Fail.{Fail}
use Rattle.pb_base.specs.declared.answer.Fail.TheVariants.{Refused, Memory}
use Rattle.book_text.specs.SecondPass.{place_of, places_of, place_if_named}
use Rattle.book_text.specs.declared.fault.BookKind.{BookKind}
use Rattle.book_text.specs.declared.fault.BookKind.TheVariants.{UnknownName}
use Rattle.book_text.proofs.DistinctLemmas.{IsAbsent}
use Rattle.book_text.proofs.Faultless.{and_then-Ok}

known-Ok : (o : Option ℕ) (place : ℕ) → ok_or o UnknownName ≡ Ok place → o ≡ Some place
known-Ok (Some p) place h = let same : p ≡ place = cc in ap (λ n. Some n) same
known-Ok None place h = cc

pub place_of-below : (names : List (List ℕ)) (name : List ℕ) (place : ℕ) → place_of names name ≡ Ok place → place < length names
place_of-below names name place h = (position-Some (same_name name) names place [] (known-Ok (place_in names name) place h)).0

pub place_if_named-below : (names : List (List ℕ)) (name : Option (List ℕ)) (place : Option ℕ) → place_if_named names name ≡ Ok place → IfSome place (λ p. p < length names)
place_if_named-below names None place h =
    let none : None ≡ place = cc in let P : Option ℕ → Type 0 = λ o. IfSome o (λ p. p < length names) in subst P none tt
place_if_named-below names (Some name) place h =
    let (p, is, whole) = and_then-Ok (place_of names name) (λ p. Ok (Some p)) place h in
    let some : Some p ≡ place = cc in
    let P : Option ℕ → Type 0 = λ o. IfSome o (λ q. q < length names) in
    subst P some (place_of-below names name p is)

-- what is no name of a code has no place among codes
unknown-by : (o : Option ℕ) (codes : List (List ℕ)) (name : List ℕ) → place_in codes name ≡ o → list_all is_code_name codes ≡ true → is_code_name name ≡ false → ok_or o UnknownName ≡ Err UnknownName
unknown-by None codes name e all wrong = refl
unknown-by (Some place) codes name e all wrong =
    let (within, same, _) = position-Some (same_name name) codes place [] e in
    let is : name ≡ get_or codes place [] = (bytes_decides name (get_or codes place [])).0 same in
    let not_all = list_all_at is_code_name codes place [] within (ap is_code_name (sym is) ∙ wrong) in
    cc

pub unknown-place : (codes : List (List ℕ)) (name : List ℕ) → list_all is_code_name codes ≡ true → is_code_name name ≡ false → place_of codes name ≡ Err UnknownName
unknown-place codes name all wrong = unknown-by (place_in codes name) codes name refl all wrong

-- the first place and the others
record IsPlaced (codes : List (List ℕ)) (name : List ℕ) (names : List (List ℕ)) (places : List ℕ) : Type 0 where
  first : ℕ
  others : List ℕ
  found : place_of codes name ≡ Ok first
  more : places_of codes names ≡ Ok others
  is : first ∷ others ≡ places

placed : (codes : List (List ℕ)) (name : List ℕ) (names : List (List ℕ)) (places : List ℕ) → places_of codes (name ∷ names) ≡ Ok places → IsPlaced codes name names places
placed codes name names places h =
    let (first, found, rest) = and_then-Ok (place_of codes name) (λ place. and_then (places_of codes names) (λ more. Ok (place ∷ more))) places h in
    let (others, more, whole) = and_then-Ok (places_of codes names) (λ more. Ok (first ∷ more)) places rest in
    record { first = first; others = others; found = found; more = more; is = cc }

pub places_of-below : (codes names : List (List ℕ)) (places : List ℕ) → places_of codes names ≡ Ok places → All (λ p. p < length codes) places
places_of-below codes [] places h = let none : [] ≡ places = cc in subst (All (λ p. p < length codes)) none (All-nil (λ p. p < length codes))
places_of-below codes (name ∷ names) places h =
    let p = placed codes name names places h in
    subst (All (λ q. q < length codes)) p.is (All-cons (λ q. q < length codes) p.first p.others (place_of-below codes name p.first p.found) (places_of-below codes names p.others p.more))

pub length-places_of : (codes names : List (List ℕ)) (places : List ℕ) → places_of codes names ≡ Ok places → length places ≡ length names
length-places_of codes [] places h = let none : [] ≡ places = cc in ap length (sym none)
length-places_of codes (name ∷ names) places h =
    let p = placed codes name names places h in
    let whole = ap length (sym p.is) in
    omega (arith, whole, length-places_of codes names p.others p.more)

-- names at one place are the same
same-at : (codes : List (List ℕ)) (a b : List ℕ) (place : ℕ) → place_of codes a ≡ Ok place → place_of codes b ≡ Ok place → same_name a b ≡ true
same-at codes a b place h g =
    let at_a = (position-Some (same_name a) codes place [] (known-Ok (place_in codes a) place h)).1 in
    let at_b = (position-Some (same_name b) codes place [] (known-Ok (place_in codes b) place g)).1 in
    nat_list_eq_equiv.congr a (get_or codes place []) b at_a ∙ nat_list_eq_equiv.symm (get_or codes place []) b ∙ at_b

apart-by : (is : Bool) (codes : List (List ℕ)) (a b : List ℕ) (p q : ℕ) → nat_eq p q ≡ is → place_of codes a ≡ Ok p → place_of codes b ≡ Ok q → same_name a b ≡ false → nat_eq p q ≡ false
apart-by false codes a b p q e h g apart = e
apart-by true codes a b p q e h g apart =
    let at : q ≡ p = grind (arith, e) in
    let same = same-at codes a b p h (subst (λ (n : ℕ). place_of codes b ≡ Ok n) at g) in
    cc

apart-places : (codes : List (List ℕ)) (name : List ℕ) (place : ℕ) (names : List (List ℕ)) (places : List ℕ) → place_of codes name ≡ Ok place → IsAbsent name names → places_of codes names ≡ Ok places
    → AllByRecursion (λ q. nat_eq place q ≡ false) places
apart-places codes name place [] places found absent h =
    let none : [] ≡ places = cc in let P : List ℕ → Type 0 = AllByRecursion (λ q. nat_eq place q ≡ false) in subst P none tt
apart-places codes name place (y ∷ names) places found absent h =
    let p = placed codes y names places h in
    let P : List ℕ → Type 0 = AllByRecursion (λ q. nat_eq place q ≡ false) in
    subst P p.is (apart-by (nat_eq place p.first) codes name y place p.first refl found p.found absent.0, apart-places codes name place names p.others found absent.1 p.more)

pub places_of-distinct : (codes names : List (List ℕ)) (places : List ℕ) → IsDistinct same_name names → places_of codes names ≡ Ok places → IsDistinct nat_eq places
unfolding IsDistinct
places_of-distinct codes [] places d h = let none : [] ≡ places = cc in let P : List ℕ → Type 0 = IsDistinct nat_eq in subst P none tt
places_of-distinct codes (name ∷ names) places d h =
    let p = placed codes name names places h in
    let P : List ℕ → Type 0 = IsDistinct nat_eq in
    subst P p.is (apart-places codes name p.first names p.others p.found d.0 p.more, places_of-distinct codes names p.others d.1 p.more)

-- places, and behind them others if there is no fault
abbrev pub behind : List ℕ → Result (List ℕ) BookKind → Result (List ℕ) BookKind
behind front answer = and_then answer (λ more. Ok (front ++ more))

behind-one : (front : List ℕ) (place : ℕ) (answer : Result (List ℕ) BookKind) → behind front (and_then answer (λ more. Ok (place ∷ more))) ≡ behind (front ++ place ∷ []) answer
behind-one front place (Ok more) = ap (λ (l : List ℕ). Ok l) (sym (append_assoc front (place ∷ []) more))
behind-one front place (Err kind) = refl

-- the names from a place on
module _ (codes all : List (List ℕ)) (front : List ℕ) (k : ℕ) (name : List ℕ) where
  here : k < length all → name ≡ get_or all k name → drop k all ≡ name ∷ drop (k + 1) all
  here within is = drop_more all k name within ∙ ap (λ (n : List ℕ). n ∷ drop (k + 1) all) (sym is)

  pub places-more : (place : ℕ) → k < length all → name ≡ get_or all k name → place_of codes name ≡ Ok place
      → behind (front ++ place ∷ []) (places_of codes (drop (k + 1) all)) ≡ behind front (places_of codes (drop k all))
  places-more place within is found = rw (here within is, found) (sym (behind-one front place (places_of codes (drop (k + 1) all))))

  pub places-fault : (kind : BookKind) → k < length all → name ≡ get_or all k name → place_of codes name ≡ Err kind → behind front (places_of codes (drop k all)) ≡ Err kind
  places-fault kind within is fault = rw (here within is, fault) refl

-- a fault of a name is the fault of all
pub places-refused : (error : Fail BookKind) (codes all : List (List ℕ)) (front : List ℕ) (k : ℕ) (name : List ℕ) → k < length all → name ≡ get_or all k name
    → Answers {A = ℕ} (Err error) (place_of codes name) → Answers {A = List ℕ} (Err error) (behind front (places_of codes (drop k all)))
places-refused (Refused kind) codes all front k name within is fault = places-fault codes all front k name kind within is fault
places-refused Memory codes all front k name within is fault = tt

pub places-end : (codes all : List (List ℕ)) (front : List ℕ) (k : ℕ) → length all ≤ k → behind front (places_of codes (drop k all)) ≡ Ok front
places-end codes all front k past = rw (drop_all k all past) (ap (λ (l : List ℕ). Ok l) (append-nil front))
