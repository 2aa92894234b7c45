-- Codes that are to blame: no car has them all, and none has more codes with them.
use Rattle.std.proofs.Common.{◌≡◌, ℕ, Bool, true, ◌==◌, List, [], ◌∷◌, ◌++◌, map, refl, sym, subst, ◌∙◌, inl, inr}
use Rattle.std.specs.List.{list_all, list_any, AllByRecursion}
use Rattle.std.proofs.lemmas.Bool.{and_parts, and_from, or_cases, eqb-true, false≢true, true≢false}
use Rattle.std.proofs.lemmas.List.Folds.{list_all-append}
use Rattle.pb_base.specs.Rule.{always}
use Rattle.pb_base.specs.Sets.{has}
use Rattle.book_model.specs.Contents.{Contents}
use Rattle.book_model.specs.Good.{is_good}
use Rattle.clausify.proofs.ItemLaws.{length_from_good}
use Rattle.clausify.proofs.ListLaws.{all-append}
use Rattle.blame.specs.Blame.{AreBlamed}
use Rattle.blame.specs.Entries.{all_entries, supplement_entries, construct_entries, meets_entry, meets_all}
use Rattle.blame.specs.declared.blamed.Blamed.{Blamed}
use Rattle.blame.specs.declared.entries.Entry.{Entry}
use Rattle.blame.specs.declared.entries.Entry.TheVariants.{Supplement, Construct, Chosen}
use Rattle.blame.proofs.EntryLaws.{all_from_good}
use Rattle.blame.proofs.ListLaws.{all_among}
use Rattle.order_stays.specs.Stays.{NoneWith, codes_of}

-- if it is a rule, it is met
abbrev IsRuleMet : Contents → ℕ → List Bool → Entry → Type 0
IsRuleMet b day x (Supplement p) = meets_entry b day x (Supplement p) ≡ true
IsRuleMet b day x (Construct p) = meets_entry b day x (Construct p) ≡ true
IsRuleMet b day x (Chosen c) = Unit {0}

module _ (b : Contents) (day : ℕ) (x : List Bool) where
  rules_met : (m : List Entry) → meets_all b day x m ≡ true → AllByRecursion (IsRuleMet b day x) m
  rules_met [] h = tt
  rules_met (Supplement p ∷ m) h = let parts = and_parts (meets_entry b day x (Supplement p)) (meets_all b day x m) h in (parts.0, rules_met m parts.1)
  rules_met (Construct p ∷ m) h = let parts = and_parts (meets_entry b day x (Construct p)) (meets_all b day x m) h in (parts.0, rules_met m parts.1)
  rules_met (Chosen c ∷ m) h = let parts = and_parts (has x c) (meets_all b day x m) h in (tt, rules_met m parts.1)

  any_codes : (cs : List ℕ) → AllByRecursion (IsRuleMet b day x) (map (λ c. Chosen c) cs)
  any_codes [] = tt
  any_codes (c ∷ cs) = (tt, any_codes cs)

  car_meets : (chosen : List ℕ) → is_good b day x ≡ true → AllByRecursion (IsRuleMet b day x) (all_entries b day chosen)
  car_meets chosen good =
      let all = and_parts (meets_all b day x (supplement_entries b day ++ construct_entries b day)) (meets_all b day x [])
      (sym (list_all-append (meets_entry b day x) (supplement_entries b day ++ construct_entries b day) []) ∙ all_from_good b day [] x good refl) in
      all-append (IsRuleMet b day x) (supplement_entries b day ++ construct_entries b day) (map (λ c. Chosen c) chosen)
      (rules_met (supplement_entries b day ++ construct_entries b day) all.0) (any_codes chosen)

  all_met : (m : List Entry) → AllByRecursion (IsRuleMet b day x) m → list_all (has x) (codes_of m) ≡ true → meets_all b day x m ≡ true
  all_met [] h there = refl
  all_met (Supplement p ∷ m) h there = and_from (meets_entry b day x (Supplement p)) (meets_all b day x m) h.0 (all_met m h.1 there)
  all_met (Construct p ∷ m) h there = and_from (meets_entry b day x (Construct p)) (meets_all b day x m) h.0 (all_met m h.1 there)
  all_met (Chosen c ∷ m) h there =
      let parts = and_parts (has x c) (list_all (has x) (codes_of m)) there in
      and_from (has x c) (meets_all b day x m) parts.0 (all_met m h.1 parts.1)

  one_there : (kept : List ℕ) (c : ℕ) → list_all (has x) kept ≡ true → list_any (λ k. k == c) kept ≡ true → has x c ≡ true
  one_there [] c all among = absurd (false≢true among)
  one_there (k ∷ ks) c all among =
      let parts = and_parts (has x k) (list_all (has x) ks) all in
      elim (or_cases (k == c) (list_any (λ j. j == c) ks) among) [
        | inl same ↦ subst (λ (j : ℕ). has x j ≡ true) (eqb-true k c same) parts.0
        | inr later ↦ one_there ks c parts.1 later
      ]

  all_there : (kept codes : List ℕ) → list_all (has x) kept ≡ true → list_all (λ c. list_any (λ k. k == c) kept) codes ≡ true → list_all (has x) codes ≡ true
  all_there kept [] all among = refl
  all_there kept (c ∷ cs) all among =
      let parts = and_parts (list_any (λ k. k == c) kept) (list_all (λ d. list_any (λ k. k == d) kept) cs) among in
      and_from (has x c) (list_all (has x) cs) (one_there kept c all parts.0) (all_there kept cs all parts.1)

-- no car has the codes that are to blame
pub none_blamed : (b : Contents) (day : ℕ) (chosen : List ℕ) (budget : ℕ) (m : Blamed) → AreBlamed b day chosen always budget m → NoneWith b day (codes_of m.entries.items)
none_blamed b day chosen budget m h x car =
    let each = all_among (IsRuleMet b day x) (all_entries b day chosen) m.entries.items (car_meets b day x chosen car.good) h.among in
    true≢false (h.blame.none x (length_from_good b day x car.good) (all_met b day x m.entries.items each car.has_kept))

-- and none has codes among which they are
pub none_beyond : (b : Contents) (day : ℕ) (codes kept : List ℕ) → NoneWith b day codes → list_all (λ c. list_any (λ k. k == c) kept) codes ≡ true → NoneWith b day kept
none_beyond b day codes kept none among x car = none x (record { good = car.good; has_kept = all_there b day x kept codes car.has_kept among })
