-- The names of a set's codes make that set.
use Rattle.std.proofs.Common.{◌≡◌, ℕ, ◌+◌, ◌<◌, ◌≤◌, Bool, true, false, not, ltb, leb, ◌&&◌, List, [], ◌∷◌, Some, Ok, length, map, ◌||◌, drop, inl, inr, refl, ap, ◌∙◌, arith}
use Rattle.std.specs.List.{list_all, list_any, slice_get, IsDistinct, AllByRecursion}
use Rattle.std.specs.Cmp.Lexicographic.{nat_list_eq_equiv}
use Rattle.std.proofs.lemmas.Bool.{and_parts, and_from, or_cases, or_left, or_right, leb-true, lt-ltb}
use Rattle.std.proofs.lemmas.List.{drop_more}
use Rattle.std.proofs.lemmas.Option.{get_or_from_slice_get}
use Rattle.pb_base.specs.Names.{same_name, is_name, is_name_byte, is_code_name, true_word, false_word}
use Rattle.pb_base.proofs.Faultless.{same_self, no_fault}
use Rattle.pb_base.specs.NamedSet.{named, set_of_names}
use Rattle.pb_base.specs.Results.{unless}
use Rattle.pb_base.specs.Sets.{has}
use Rattle.derivation.specs.Written.{members}
use Rattle.derivation.proofs.WordLaws.{is_plain}

pub in_set : (names : List (List ℕ)) (x : List Bool) (i : ℕ) (name : List ℕ) → length x ≡ length names → i < length names → slice_get names i ≡ Some name → has x i ≡ true
    → members (drop i names) (drop i x) ≡ name ∷ members (drop (i + 1) names) (drop (i + 1) x)
in_set names x i name len below is here =
    let within : i < length x = omega arith in
    rw (drop_more names i name below, drop_more x i false within, get_or_from_slice_get names i name name is, here) refl

pub left_out : (names : List (List ℕ)) (x : List Bool) (i : ℕ) → length x ≡ length names → i < length names → has x i ≡ false
    → members (drop i names) (drop i x) ≡ members (drop (i + 1) names) (drop (i + 1) x)
left_out names x i len below here =
    let within : i < length x = omega arith in
    rw (drop_more names i [] below, drop_more x i false within, here) refl

-- the names are those of the set's codes
absent : (n : List ℕ) (names : List (List ℕ)) (x : List Bool) → AllByRecursion (λ m. same_name n m ≡ false) names → list_any (same_name n) (members names x) ≡ false
absent n [] x apart = refl
absent n (m ∷ names) [] apart = refl
absent n (m ∷ names) (true ∷ x) apart = ap (λ t. t || list_any (same_name n) (members names x)) apart.0 ∙ absent n names x apart.1
absent n (m ∷ names) (false ∷ x) apart = absent n names x apart.1

besides : (n : List ℕ) (ms codes : List (List ℕ)) → AllByRecursion (λ m. same_name n m ≡ false) codes
    → map (λ code. list_any (same_name code) (n ∷ ms)) codes ≡ map (λ code. list_any (same_name code) ms) codes
besides n ms [] apart = refl
besides n ms (c ∷ codes) apart =
    ap (λ t. (t || list_any (same_name c) ms) ∷ map (λ code. list_any (same_name code) (n ∷ ms)) codes) (nat_list_eq_equiv.symm c n ∙ apart.0)
    ∙ ap (λ l. list_any (same_name c) ms ∷ l) (besides n ms codes apart.1)

named_back : (names : List (List ℕ)) (x : List Bool) → IsDistinct same_name names → length x ≡ length names → named names (members names x) ≡ x
unfolding IsDistinct
named_back [] [] apart len = refl
named_back [] (b ∷ x) apart len = absurd (omega arith)
named_back (n ∷ names) [] apart len = absurd (omega arith)
named_back (n ∷ names) (true ∷ x) apart len =
    let ms = members names x in
    ap (λ t. (t || list_any (same_name n) ms) ∷ map (λ code. list_any (same_name code) (n ∷ ms)) names) (same_self n)
    ∙ ap (λ l. true ∷ l) (besides n ms names apart.0 ∙ named_back names x apart.1 (omega arith))
named_back (n ∷ names) (false ∷ x) apart len =
    ap (λ t. t ∷ map (λ code. list_any (same_name code) (members names x)) names) (absent n names x apart.0) ∙ ap (λ l. false ∷ l) (named_back names x apart.1 (omega arith))

-- none of them is at fault
all_members : (P : List ℕ → Type 0) (names : List (List ℕ)) (x : List Bool) → AllByRecursion P names → AllByRecursion P (members names x)
all_members P [] x all = tt
all_members P (n ∷ names) [] all = tt
all_members P (n ∷ names) (true ∷ x) all = (all.0, all_members P names x all.1)
all_members P (n ∷ names) (false ∷ x) all = all_members P names x all.1

members_apart : (names : List (List ℕ)) (x : List Bool) → IsDistinct same_name names → IsDistinct same_name (members names x)
unfolding IsDistinct
members_apart [] x apart = tt
members_apart (n ∷ names) [] apart = tt
members_apart (n ∷ names) (true ∷ x) apart = (all_members (λ m. same_name n m ≡ false) names x apart.0, members_apart names x apart.1)
members_apart (n ∷ names) (false ∷ x) apart = members_apart names x apart.1

any_of_more : (n c : List ℕ) (codes : List (List ℕ)) → list_any (same_name n) codes ≡ true → list_any (same_name n) (c ∷ codes) ≡ true
any_of_more n c codes there = or_right (same_name n c) (list_any (same_name n) codes) there

all_there_more : (c : List ℕ) (codes ns : List (List ℕ)) → AllByRecursion (λ n. list_any (same_name n) codes ≡ true) ns → AllByRecursion (λ n. list_any (same_name n) (c ∷ codes) ≡ true) ns
all_there_more c codes [] all = tt
all_there_more c codes (n ∷ ns) all = (any_of_more n c codes all.0, all_there_more c codes ns all.1)

all_there : (codes : List (List ℕ)) → AllByRecursion (λ n. list_any (same_name n) codes ≡ true) codes
all_there [] = tt
all_there (c ∷ codes) = (or_left (same_name c c) (list_any (same_name c) codes) (same_self c), all_there_more c codes codes (all_there codes))

pub set_back : (names : List (List ℕ)) (x : List Bool) → IsDistinct same_name names → length x ≡ length names → set_of_names names (members names x) ≡ Ok x
set_back names x apart len =
    let ms = members names x in
    ap (λ o. unless o (Ok (named names ms)))
    (no_fault names ms (all_members (λ n. list_any (same_name n) names ≡ true) names x (all_there names)) (members_apart names x apart))
    ∙ ap (λ y. Ok y) (named_back names x apart len)

pub members_are_codes : (names : List (List ℕ)) (x : List Bool) → list_all is_code_name names ≡ true → list_all is_code_name (members names x) ≡ true
members_are_codes [] x all = refl
members_are_codes (n ∷ names) [] all = refl
members_are_codes (n ∷ names) (true ∷ x) all =
    let parts = and_parts (is_code_name n) (list_all is_code_name names) all in
    and_from (is_code_name n) (list_all is_code_name (members names x)) parts.0 (members_are_codes names x parts.1)
members_are_codes (n ∷ names) (false ∷ x) all = members_are_codes names x (and_parts (is_code_name n) (list_all is_code_name names) all).1

plain_byte : (b : ℕ) → is_name_byte b ≡ true → ltb 32 b ≡ true
plain_byte b is =
    elim (or_cases (leb 65 b && leb b 90) (leb 48 b && leb b 57) is) [
      | inl letter ↦ lt-ltb 32 b (let low : 65 ≤ b = leb-true 65 b (and_parts (leb 65 b) (leb b 90) letter).0 in omega arith)
      | inr digit ↦ lt-ltb 32 b (let low : 48 ≤ b = leb-true 48 b (and_parts (leb 48 b) (leb b 57) digit).0 in omega arith)
    ]

plain_bytes : (name : List ℕ) → list_all is_name_byte name ≡ true → is_plain name ≡ true
plain_bytes [] all = refl
plain_bytes (b ∷ name) all =
    let parts = and_parts (is_name_byte b) (list_all is_name_byte name) all in
    and_from (ltb 32 b) (is_plain name) (plain_byte b parts.0) (plain_bytes name parts.1)

pub plain_name : (name : List ℕ) → is_name name ≡ true → is_plain name ≡ true
plain_name name is = plain_bytes name (and_parts (leb 1 (length name) && leb (length name) 8) (list_all is_name_byte name) is).1

plain_code : (name : List ℕ) → is_code_name name ≡ true → is_plain name ≡ true
plain_code name is =
    plain_name name (and_parts (is_name name) (not (same_name name true_word)) (and_parts (is_name name && not (same_name name true_word)) (not (same_name name false_word)) is).0).0

pub plain_codes : (names : List (List ℕ)) → list_all is_code_name names ≡ true → list_all is_plain names ≡ true
plain_codes [] all = refl
plain_codes (n ∷ names) all =
    let parts = and_parts (is_code_name n) (list_all is_code_name names) all in
    and_from (is_plain n) (list_all is_plain names) (plain_code n parts.0) (plain_codes names parts.1)
