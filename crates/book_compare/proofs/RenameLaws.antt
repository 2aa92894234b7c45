-- Items with other variables for their codes: met over a set that has at each variable what another has at the code.
use Rattle.std.proofs.Common.{◌≡◌, ℕ, zero, suc, ◌<◌, Bool, true, not, ltb, nat_le, ◌||◌, ◌==◌, List, [], ◌∷◌, length, get_or, map, refl, sym, ap, ◌∙◌, arith}
use Rattle.std.specs.List.{filter, list_all, AllByRecursion}
use Rattle.std.proofs.lemmas.Bool.{and_parts, and_from, ltb-true, lt-ltb}
use Rattle.std.proofs.lemmas.Option.{slice_get-get_or}
use Rattle.pb_base.specs.Rule.{holds, codes_below}
use Rattle.pb_base.specs.Sets.{has}
use Rattle.pb_base.proofs.LeafLaws.{AtPlaces, holds-with_places, codes_below-with_places}
use Rattle.book_model.specs.Good.{present}
use Rattle.clausify.specs.Items.{Claim, adds, needed_by, needed, one_of, most_of, free, Item}
use Rattle.clausify.proofs.ItemLaws.{meets_claim, meets, claim_fits, item_fits, AllFit, AllMeet}
use Rattle.book_compare.specs.JointItems.{number_at, renamed_claim, renamed_item}
use Rattle.clausify.proofs.AgreeLaws.{counted_alike}

module _ (numbers : List ℕ) (y z : List Bool) (at : AtPlaces numbers y z) where
  has_number : (place : ℕ) → place < length numbers → has z (number_at numbers place) ≡ has y place
  has_number place within = at.same place (number_at numbers place) (slice_get-get_or numbers place 0 within)

  present_renamed : (group : List ℕ) → list_all (λ code. ltb code (length numbers)) group ≡ true → present z (map (number_at numbers) group) ≡ present y group
  present_renamed [] below = refl
  present_renamed (c ∷ cs) below =
      let parts = and_parts (ltb c (length numbers)) (list_all (λ code. ltb code (length numbers)) cs) below in
      counted_alike (has z (number_at numbers c)) (has y c) (number_at numbers c) c (filter (has z) (map (number_at numbers) cs)) (filter (has y) cs)
      (has_number c (ltb-true c (length numbers) parts.0)) (present_renamed cs parts.1)

  claim_renamed : (d : Claim) (t : Bool) → claim_fits (length numbers) d ≡ true → meets_claim z (renamed_claim numbers d) t ≡ meets_claim y d t
  claim_renamed (adds place) t fit = ap (λ b. not t || b) (has_number place (ltb-true place (length numbers) fit))
  claim_renamed (needed_by place) t fit = ap (λ b. not b || t) (has_number place (ltb-true place (length numbers) fit))
  claim_renamed needed t fit = refl
  claim_renamed (one_of group) t fit = ap (λ k. k == 1) (present_renamed group fit)
  claim_renamed (most_of group) t fit = ap (λ k. nat_le k 1) (present_renamed group fit)
  claim_renamed free t fit = refl

  meets_renamed : (i : Item) → item_fits (length numbers) i ≡ true → meets z (renamed_item numbers i) ≡ meets y i
  meets_renamed i fit =
      let fits = and_parts (codes_below (length numbers) i.rule) (claim_fits (length numbers) i.claim) fit in
      ap (meets_claim z (renamed_claim numbers i.claim)) (holds-with_places numbers y z at i.rule) ∙ claim_renamed i.claim (holds i.rule y) fits.1

  pub all_meet_renamed : (is : List Item) → AllFit (length numbers) is → AllMeet y is → AllMeet z (map (renamed_item numbers) is)
  all_meet_renamed [] fit met = tt
  all_meet_renamed (i ∷ is) fit met = (meets_renamed i fit.0 ∙ met.0, all_meet_renamed is fit.1 met.1)

  pub all_meet_own : (is : List Item) → AllFit (length numbers) is → AllMeet z (map (renamed_item numbers) is) → AllMeet y is
  all_meet_own [] fit met = tt
  all_meet_own (i ∷ is) fit met = (sym (meets_renamed i fit.0) ∙ met.0, all_meet_own is fit.1 met.1)

module _ (numbers : List ℕ) (m : ℕ) (below : AllByRecursion (λ n. n < m) numbers) where
  below_at : (ns : List ℕ) → AllByRecursion (λ n. n < m) ns → (place : ℕ) → place < length ns → get_or ns place 0 < m
  below_at [] all place within = absurd (omega arith)
  below_at (n ∷ ns) all zero within = all.0
  below_at (n ∷ ns) all (suc place) within = below_at ns all.1 place (omega arith)

  number_fits : (place : ℕ) → ltb place (length numbers) ≡ true → ltb (number_at numbers place) m ≡ true
  number_fits place fit = lt-ltb (number_at numbers place) m (below_at numbers below place (ltb-true place (length numbers) fit))

  group_fits : (group : List ℕ) → list_all (λ code. ltb code (length numbers)) group ≡ true → list_all (λ code. ltb code m) (map (number_at numbers) group) ≡ true
  group_fits [] fit = refl
  group_fits (c ∷ cs) fit =
      let parts = and_parts (ltb c (length numbers)) (list_all (λ code. ltb code (length numbers)) cs) fit in
      and_from _ _ (number_fits c parts.0) (group_fits cs parts.1)

  claim_fits_renamed : (d : Claim) → claim_fits (length numbers) d ≡ true → claim_fits m (renamed_claim numbers d) ≡ true
  claim_fits_renamed (adds place) fit = number_fits place fit
  claim_fits_renamed (needed_by place) fit = number_fits place fit
  claim_fits_renamed needed fit = refl
  claim_fits_renamed (one_of group) fit = group_fits group fit
  claim_fits_renamed (most_of group) fit = group_fits group fit
  claim_fits_renamed free fit = refl

  pub all_fit_renamed : (is : List Item) → AllFit (length numbers) is → AllFit m (map (renamed_item numbers) is)
  all_fit_renamed [] fit = tt
  all_fit_renamed (i ∷ is) fit =
      let fits = and_parts (codes_below (length numbers) i.rule) (claim_fits (length numbers) i.claim) fit.0 in
      (and_from _ _ (codes_below-with_places (length numbers) m numbers below i.rule fits.0) (claim_fits_renamed i.claim fits.1), all_fit_renamed is fit.1)
