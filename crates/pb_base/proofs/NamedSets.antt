-- The set of the codes that names name, one name further, and the place of a name among the codes.
use Rattle.std.proofs.Common.{◌≡◌, ℕ, zero, suc, ◌<◌, Bool, ◌||◌, true, false, cond, List, [], ◌∷◌, ◌++◌, Some, None, length, slice_get, slice_set, slice_index_or, nat_lt, refl, sym, ◌∙◌, ap, subst, ltb-true}
use Rattle.std.specs.List.{list_any, IsDistinct, AllByRecursion, position_or_len}
use Rattle.std.specs.Cmp.Lexicographic.{nat_list_eq_equiv, bytes_decides}
use Rattle.std.proofs.lemmas.List.Folds.{list_any-append}
use Rattle.std.proofs.lemmas.List.Sums.{passes_at_first}
use Rattle.std.proofs.lemmas.Map.Keys.{IsDistinct-head, IsDistinct-tail}
use Rattle.std.proofs.lemmas.Option.{slice_get-get_or, slice_get-map, get_or_from_slice_get}
use Rattle.std.specs.Option.{option_map}
use Rattle.std.proofs.Math.Bool.{or-false, or-true}
use Rattle.pb_base.specs.Names.{same_name, place_in}
use Rattle.pb_base.specs.Sets.{has, none_of}
use Rattle.pb_base.specs.NamedSet.{named}

-- the set of no names
pub named_by_none : (codes : List (List ℕ)) → named codes [] ≡ none_of (length codes)
named_by_none [] = refl
named_by_none (code ∷ codes) = ap (λ x. false ∷ x) (named_by_none codes)

found_at : (b : Bool) (first place : ℕ) → cond b (Some first) None ≡ Some place → (b ≡ true) × (first ≡ place)
found_at true first place found = (refl, cc)
found_at false first place found = cc

-- the code at the place of a name has that name
pub code_at_place : (codes : List (List ℕ)) (name : List ℕ) (place : ℕ) → place_in codes name ≡ Some place → slice_get codes place ≡ Some name
code_at_place codes name place found =
    let first : ℕ = position_or_len (same_name name) codes in
    let at : (nat_lt first (length codes) ≡ true) × (first ≡ place) = found_at (nat_lt first (length codes)) first place found in
    let in_range : first < length codes = ltb-true first (length codes) at.0 in
    let same : name ≡ slice_index_or codes first name = (bytes_decides name (slice_index_or codes first name)).0 (passes_at_first (same_name name) codes name in_range) in
    let read : slice_get codes first ≡ Some (slice_index_or codes first name) = slice_get-get_or codes first name in_range in
    ap (slice_get codes) (sym at.1) ∙ read ∙ ap (λ x. Some x) (sym same)

-- a code is in the set where it is named
pub has-named : (codes names : List (List ℕ)) (code : List ℕ) (place : ℕ) → slice_get codes place ≡ Some code → has (named codes names) place ≡ list_any (same_name code) names
has-named codes names code place is_code =
    let is_named : List ℕ → Bool = λ c. list_any (same_name c) names in
    get_or_from_slice_get (named codes names) place (is_named code) false (slice_get-map is_named codes place ∙ ap (option_map is_named) is_code)

named_too : (names : List (List ℕ)) (code name : List ℕ) → same_name code name ≡ true → list_any (same_name code) (names ++ name ∷ []) ≡ true
named_too names code name same =
    list_any-append (same_name code) names (name ∷ [])
    ∙ ap (λ b. list_any (same_name code) names || (b || false)) same
    ∙ or-true (list_any (same_name code) names)

not_named_more : (names : List (List ℕ)) (code name : List ℕ) → same_name code name ≡ false → list_any (same_name code) (names ++ name ∷ []) ≡ list_any (same_name code) names
not_named_more names code name other =
    list_any-append (same_name code) names (name ∷ [])
    ∙ ap (λ b. list_any (same_name code) names || (b || false)) other
    ∙ or-false (list_any (same_name code) names)

-- a name of none of these codes changes nothing
named_by_other : (codes names : List (List ℕ)) (name : List ℕ) → AllByRecursion (λ code. same_name name code ≡ false) codes → named codes names ≡ named codes (names ++ name ∷ [])
named_by_other [] names name others = refl
named_by_other (code ∷ codes) names name others =
    ap (λ b. b ∷ named codes names) (sym (not_named_more names code name (nat_list_eq_equiv.symm code name ∙ others.0)))
    ∙ ap (λ x. list_any (same_name code) (names ++ name ∷ []) ∷ x) (named_by_other codes names name others.1)

-- of a list without repeats, the first element is none of the others
differs : (codes : List (List ℕ)) (code name : List ℕ) (place : ℕ) → AllByRecursion (λ other. same_name code other ≡ false) codes → slice_get codes place ≡ Some name → same_name code name ≡ false
differs [] code name place others is_name = cc
differs (first ∷ codes) code name zero others is_name =
    let same : first ≡ name = cc in
    let P : List ℕ → Type 0 = λ n. same_name code n ≡ false in
    subst P same others.0
differs (first ∷ codes) code name (suc place) others is_name = differs codes code name place others.1 is_name

-- naming one code more puts it into the set
pub named_by_more : (codes names : List (List ℕ)) (name : List ℕ) (place : ℕ) → IsDistinct same_name codes → slice_get codes place ≡ Some name → slice_set (named codes names) place true ≡ named codes (names ++ name ∷ [])
named_by_more [] names name place distinct is_name = cc
named_by_more (code ∷ codes) names name zero distinct is_name =
    let same : code ≡ name = cc in
    let P : List ℕ → Type 0 = λ n. AllByRecursion (λ other. same_name n other ≡ false) codes in
    ap (λ b. b ∷ named codes names) (sym (named_too names code name ((bytes_decides code name).1 same)))
    ∙ ap (λ x. list_any (same_name code) (names ++ name ∷ []) ∷ x) (named_by_other codes names name (subst P same (IsDistinct-head same_name code codes distinct)))
named_by_more (code ∷ codes) names name (suc place) distinct is_name =
    ap (λ b. b ∷ slice_set (named codes names) place true) (sym (not_named_more names code name (differs codes code name place (IsDistinct-head same_name code codes distinct) is_name)))
    ∙ ap (λ x. list_any (same_name code) (names ++ name ∷ []) ∷ x) (named_by_more codes names name place (IsDistinct-tail same_name code codes distinct) is_name)
