-- The place of a name in a table.
use Rattle.std.proofs.Common.{◌≡◌, ℕ, ◌<◌, true, not, ltb, List, [], Some, length, get_or, slice_get, refl, ap, ◌∙◌, arith}
use Rattle.std.specs.List.{IsDistinct, prefix_len}
use Rattle.std.specs.Cmp.Lexicographic.{nat_list_eq_equiv}
use Rattle.std.proofs.lemmas.List.Sums.{prefix_len_is}
use Rattle.std.proofs.lemmas.Map.Keys.{apart_from_distinct}
use Rattle.std.proofs.lemmas.Bool.Decides.{nat_tests}
use Rattle.std.proofs.lemmas.Option.{slice_get_within, get_or_from_slice_get}
use Rattle.pb_base.specs.Names.{place_in, same_name}

-- of a table whose names are distinct, the name at a place is found there
name_place : (names : List (List ℕ)) (place : ℕ) → IsDistinct same_name names → place < length names → place_in names (get_or names place []) ≡ Some place
name_place names place apart inside =
    let name = get_or names place [] in
    let len : prefix_len (λ x. not (same_name name x)) names ≡ place =
    prefix_len_is (λ x. not (same_name name x)) names place [] (omega arith)
    (λ k before. ap not (nat_list_eq_equiv.symm name (get_or names k []) ∙ apart_from_distinct same_name names k place [] apart before inside))
    (λ _. ap not (nat_list_eq_equiv.refl name)) in
    let test : ltb place (length names) ≡ true = grind (arith, nat_tests) in
    rw (len, test) refl

-- so is any name that is the same as that
pub place_where_it_stands : (names : List (List ℕ)) (name other : List ℕ) (place : ℕ) → IsDistinct same_name names → slice_get names place ≡ Some other → other ≡ name → place_in names name ≡ Some place
place_where_it_stands names name other place apart held one =
    let is : get_or names place [] ≡ other = get_or_from_slice_get names place other [] held in
    rw (← one, ← is) (name_place names place apart (slice_get_within names place other held))
