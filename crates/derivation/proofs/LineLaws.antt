-- A line gives its words back, and a text of whole lines gives its lines back.
use Rattle.std.proofs.Common.{◌≡◌, ℕ, ◌≤◌, ◌<◌, Bool, true, not, eqb, ltb, List, [], ◌∷◌, ◌++◌, refl, sym, ap, ◌∙◌, arith, append_assoc, append-nil, eq-eqb}
use Rattle.std.specs.List.{list_all, onto_first}
use Rattle.std.proofs.lemmas.Bool.{and_parts, and_from, ltb-true, ne_eqb, not-true, not_from_false}
use Rattle.std.proofs.lemmas.Grind.{flat_map-append}
use Rattle.std.proofs.lemmas.List.Folds.{list_all-append}
use Rattle.std.proofs.lemmas.List.Splits.{slice_split-cons_yes, slice_split-cons_no}
use Rattle.derivation.specs.Pieces.{pieces}
use Rattle.derivation.specs.Written.{spaced, line_of}
use Rattle.derivation.proofs.WordLaws.{is_plain}

-- no byte of the piece is the separator
abbrev is_whole : ℕ → List ℕ → Bool
is_whole separator piece = list_all (λ b. not (eqb b separator)) piece

cut_at : (separator : ℕ) (piece rest : List ℕ) → is_whole separator piece ≡ true → pieces separator (piece ++ separator ∷ rest) ≡ piece ∷ pieces separator rest
cut_at separator [] rest whole = slice_split-cons_yes (λ b. eqb b separator) separator rest (eq-eqb separator separator refl)
cut_at separator (x ∷ xs) rest whole =
    let parts = and_parts (not (eqb x separator)) (is_whole separator xs) whole in
    slice_split-cons_no (λ b. eqb b separator) x (xs ++ separator ∷ rest) (not-true (eqb x separator) parts.0) ∙ ap (onto_first x) (cut_at separator xs rest parts.1)

uncut : (separator : ℕ) (piece : List ℕ) → is_whole separator piece ≡ true → pieces separator piece ≡ piece ∷ []
uncut separator [] whole = refl
uncut separator (x ∷ xs) whole =
    let parts = and_parts (not (eqb x separator)) (is_whole separator xs) whole in
    slice_split-cons_no (λ b. eqb b separator) x xs (not-true (eqb x separator) parts.0) ∙ ap (onto_first x) (uncut separator xs parts.1)

plain_is_whole : (separator : ℕ) (word : List ℕ) → separator ≤ 32 → is_plain word ≡ true → is_whole separator word ≡ true
plain_is_whole separator [] low plain = refl
plain_is_whole separator (x ∷ xs) low plain =
    let parts = and_parts (ltb 32 x) (is_plain xs) plain in
    let above : 32 < x = ltb-true 32 x parts.0 in
    and_from (not (eqb x separator)) (is_whole separator xs) (not_from_false (eqb x separator) (ne_eqb x separator (λ same. omega arith))) (plain_is_whole separator xs low parts.1)

pub words_back : (first : List ℕ) (rest : List (List ℕ)) → is_plain first ≡ true → list_all is_plain rest ≡ true → pieces 32 (first ++ spaced rest) ≡ first ∷ rest
words_back first [] plain all = ap (pieces 32) (append-nil first) ∙ uncut 32 first (plain_is_whole 32 first (omega arith) plain)
words_back first (w ∷ ws) plain all =
    let parts = and_parts (is_plain w) (list_all is_plain ws) all in
    cut_at 32 first (w ++ spaced ws) (plain_is_whole 32 first (omega arith) plain) ∙ ap (λ words. first ∷ words) (words_back w ws parts.0 parts.1)

whole_append : (separator : ℕ) (xs ys : List ℕ) → is_whole separator xs ≡ true → is_whole separator ys ≡ true → is_whole separator (xs ++ ys) ≡ true
whole_append separator xs ys p q = list_all-append (λ b. not (eqb b separator)) xs ys ∙ and_from (is_whole separator xs) (is_whole separator ys) p q

spaced_is_whole : (words : List (List ℕ)) → list_all is_plain words ≡ true → is_whole 10 (spaced words) ≡ true
spaced_is_whole [] all = refl
spaced_is_whole (w ∷ ws) all =
    let parts = and_parts (is_plain w) (list_all is_plain ws) all in
    whole_append 10 w (spaced ws) (plain_is_whole 10 w (omega arith) parts.0) (spaced_is_whole ws parts.1)

-- the first line of a text, and the text behind it
pub line_cut : (keyword : List ℕ) (words : List (List ℕ)) (rest : List ℕ) → is_plain keyword ≡ true → list_all is_plain words ≡ true
    → pieces 10 (line_of keyword words ++ rest) ≡ (keyword ++ spaced words) ∷ pieces 10 rest
line_cut keyword words rest plain all =
    ap (pieces 10) (append_assoc (keyword ++ spaced words) (10 ∷ []) rest)
    ∙ cut_at 10 (keyword ++ spaced words) rest (whole_append 10 keyword (spaced words) (plain_is_whole 10 keyword (omega arith) plain) (spaced_is_whole words all))

-- a line that is put together from its keyword, its words and its end
pub some_words : (t₀ t₁ t₂ t₃ keyword : List ℕ) (words : List (List ℕ)) → t₁ ≡ t₀ ++ keyword → t₂ ≡ t₁ ++ spaced words → t₃ ≡ t₂ ++ 10 ∷ [] → t₃ ≡ t₀ ++ line_of keyword words
some_words t₀ t₁ t₂ t₃ keyword words first next last =
    last ∙ ap (λ t. t ++ 10 ∷ []) (next ∙ ap (λ t. t ++ spaced words) first ∙ append_assoc t₀ keyword (spaced words)) ∙ append_assoc t₀ (keyword ++ spaced words) (10 ∷ [])

pub spaced_append : (xs ys : List (List ℕ)) → spaced (xs ++ ys) ≡ spaced xs ++ spaced ys
spaced_append xs ys = flat_map-append (λ word. 32 ∷ word) xs ys

pub more_words : (t₀ t₁ t₂ : List ℕ) (xs ys : List (List ℕ)) → t₁ ≡ t₀ ++ spaced xs → t₂ ≡ t₁ ++ spaced ys → t₂ ≡ t₀ ++ spaced (xs ++ ys)
more_words t₀ t₁ t₂ xs ys first next =
    next ∙ ap (λ t. t ++ spaced ys) first ∙ append_assoc t₀ (spaced xs) (spaced ys) ∙ ap (λ t. t₀ ++ t) (sym (spaced_append xs ys))

-- of the words that are to come, some are written
pub with_words : (whole t t₁ : List ℕ) (words rest : List (List ℕ)) → t₁ ≡ t ++ spaced words → t ++ spaced (words ++ rest) ≡ whole → t₁ ++ spaced rest ≡ whole
with_words whole t t₁ words rest next is =
    ap (λ s. s ++ spaced rest) next ∙ append_assoc t (spaced words) (spaced rest) ∙ ap (λ s. t ++ s) (sym (spaced_append words rest)) ∙ is
