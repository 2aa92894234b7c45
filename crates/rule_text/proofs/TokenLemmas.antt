-- The tokens of a text, one after another.
use Rattle.std.proofs.Common.{◌≡◌, ℕ, suc, ◌+◌, ◌<◌, ◌≤◌, Bool, true, false, cond, List, [], ◌∷◌, length, length-drop, eqb, take, drop, get_or, refl, sym, ap, subst, ◌∙◌, arith}
use Rattle.std.specs.List.{prefix_len, list_all}
use Rattle.std.proofs.lemmas.List.{at_drop_more, drop-drop}
use Rattle.std.proofs.lemmas.List.Folds.{length-prefix_len}
use Rattle.std.proofs.lemmas.List.Sums.{prefix_len-le-length}
use Rattle.std.proofs.lemmas.Bool.Decides.{nat_tests}
use Rattle.pb_base.specs.Names.{is_name_byte}
use Rattle.rule_text.specs.Token.{word, plus, slash, minus, opening, closing, semicolon, other, is_blank, mark, token_at, token_len, tokens_from}

-- no blank is part of a word
pub blank_is_no_name : (b : ℕ) → is_blank b ≡ true → is_name_byte b ≡ false
blank_is_no_name b blank = grind (arith, nat_tests)

-- a blank is no token
pub blank-skips : (b at : ℕ) (bytes : List ℕ) → is_blank b ≡ true → tokens_from false at (b ∷ bytes) ≡ tokens_from false (at + 1) bytes
blank-skips b at bytes blank = let no_name = blank_is_no_name b blank in rw (no_name, blank) refl

in_word-step : (b : ℕ) (bytes : List ℕ) (at : ℕ) (name : Bool) → is_name_byte b ≡ name
    → tokens_from true (at + 1) bytes ≡ tokens_from false ((at + 1) + prefix_len is_name_byte bytes) (drop (prefix_len is_name_byte bytes) bytes)
    → tokens_from true at (b ∷ bytes) ≡ tokens_from false (at + prefix_len is_name_byte (b ∷ bytes)) (drop (prefix_len is_name_byte (b ∷ bytes)) (b ∷ bytes))
in_word-step b bytes at true name rest =
    let n = prefix_len is_name_byte bytes in
    let one_more : 1 + n ≡ suc n = omega arith in
    let place : (at + 1) + n ≡ at + suc n = omega arith in
    rw (name, one_more, ← place) rest
in_word-step b bytes at false name rest =
    let place : at + 0 ≡ at = omega arith in
    rw (name, place, name) refl

-- inside a word, the next token begins behind it
pub in_word-skips : (bytes : List ℕ) (at : ℕ)
    → tokens_from true at bytes ≡ tokens_from false (at + prefix_len is_name_byte bytes) (drop (prefix_len is_name_byte bytes) bytes)
in_word-skips [] at = refl
in_word-skips (b ∷ bytes) at = in_word-step b bytes at (is_name_byte b) refl (in_word-skips bytes (at + 1))

word_bytes-step : (b : ℕ) (bytes : List ℕ) (name : Bool) → is_name_byte b ≡ name
    → list_all is_name_byte (take (prefix_len is_name_byte bytes) bytes) ≡ true
    → list_all is_name_byte (take (prefix_len is_name_byte (b ∷ bytes)) (b ∷ bytes)) ≡ true
word_bytes-step b bytes true name rest =
    let one_more : 1 + prefix_len is_name_byte bytes ≡ suc (prefix_len is_name_byte bytes) = omega arith in
    rw (name, one_more, name) rest
word_bytes-step b bytes false name rest = rw name refl

-- a word has word bytes alone
pub word_bytes : (bytes : List ℕ) → list_all is_name_byte (take (prefix_len is_name_byte bytes) bytes) ≡ true
word_bytes [] = refl
word_bytes (b ∷ bytes) = word_bytes-step b bytes (is_name_byte b) refl (word_bytes bytes)

-- whichever mark the tests choose, it is one byte
chosen_len : (a b c d e f : Bool) → token_len (cond a plus (cond b slash (cond c minus (cond d opening (cond e closing (cond f semicolon other)))))) ≡ 1
chosen_len true b c d e f = refl
chosen_len false true c d e f = refl
chosen_len false false true d e f = refl
chosen_len false false false true e f = refl
chosen_len false false false false true f = refl
chosen_len false false false false false true = refl
chosen_len false false false false false false = refl

mark_len : (b : ℕ) → token_len (mark b) ≡ 1
mark_len b = chosen_len (eqb b 43) (eqb b 47) (eqb b 45) (eqb b 40) (eqb b 41) (eqb b 59)

-- the first token, and those behind it
first_token-by : (b at : ℕ) (bytes : List ℕ) (name : Bool) → is_name_byte b ≡ name → is_blank b ≡ false
    → tokens_from false at (b ∷ bytes)
    ≡ (at, token_at (b ∷ bytes)) ∷ tokens_from false (at + token_len (token_at (b ∷ bytes))) (drop (token_len (token_at (b ∷ bytes))) (b ∷ bytes))
first_token-by b at bytes true name no_blank =
    let n = prefix_len is_name_byte bytes in
    let one_more : 1 + n ≡ suc n = omega arith in
    let len : length (take n bytes) ≡ n = length-prefix_len is_name_byte bytes in
    let place : (at + 1) + n ≡ at + suc n = omega arith in
    rw (name, one_more, len, ← place) (ap (λ ts. (at, word (b ∷ take n bytes)) ∷ ts) (in_word-skips bytes (at + 1)))
first_token-by b at bytes false name no_blank = rw (name, no_blank, mark_len b) refl

pub first_token : (b at : ℕ) (bytes : List ℕ) → is_blank b ≡ false
    → tokens_from false at (b ∷ bytes)
    ≡ (at, token_at (b ∷ bytes)) ∷ tokens_from false (at + token_len (token_at (b ∷ bytes))) (drop (token_len (token_at (b ∷ bytes))) (b ∷ bytes))
first_token b at bytes no_blank = first_token-by b at bytes (is_name_byte b) refl no_blank

-- the same at a place of a text
pub blank-more : (text : List ℕ) (at : ℕ) → at < length text → is_blank (get_or text at 0) ≡ true
    → tokens_from false at (drop at text) ≡ tokens_from false (at + 1) (drop (at + 1) text)
blank-more text at inside blank = at_drop_more (tokens_from false at) text at 0 inside ∙ blank-skips (get_or text at 0) at (drop (at + 1) text) blank

pub token-more : (text : List ℕ) (at : ℕ) → at < length text → is_blank (get_or text at 0) ≡ false
    → tokens_from false at (drop at text)
    ≡ (at, token_at (drop at text)) ∷ tokens_from false (at + token_len (token_at (drop at text))) (drop (at + token_len (token_at (drop at text))) text)
token-more text at inside no_blank =
    let here : drop at text ≡ get_or text at 0 ∷ drop (at + 1) text = at_drop_more (λ ts. ts) text at 0 inside in
    let F : List ℕ → Type 0 = λ rest. tokens_from false at rest ≡ (at, token_at rest) ∷ tokens_from false (at + token_len (token_at rest)) (drop (token_len (token_at rest)) rest) in
    let first : F (drop at text) = subst F (sym here) (first_token (get_or text at 0) at (drop (at + 1) text) no_blank) in
    first ∙ ap (λ bytes. (at, token_at (drop at text)) ∷ tokens_from false (at + token_len (token_at (drop at text))) bytes) (drop-drop (token_len (token_at (drop at text))) at text)

front_len-by : (b : ℕ) (bytes : List ℕ) (name : Bool) → is_name_byte b ≡ name
    → (0 < token_len (token_at (b ∷ bytes))) × (token_len (token_at (b ∷ bytes)) ≤ length (b ∷ bytes))
front_len-by b bytes true name =
    let n = prefix_len is_name_byte bytes in
    let one_more : 1 + n ≡ suc n = omega arith in
    let len : length (take n bytes) ≡ n = length-prefix_len is_name_byte bytes in
    let short = prefix_len-le-length is_name_byte bytes in
    rw (name, one_more, len) (omega arith, omega arith)
front_len-by b bytes false name = rw (name, mark_len b) (omega arith, omega arith)

-- a token has a byte or more, and ends within the text
pub token_len-within : (text : List ℕ) (at : ℕ) → at < length text → (0 < token_len (token_at (drop at text))) × (at + token_len (token_at (drop at text)) ≤ length text)
token_len-within text at inside =
    let here : drop at text ≡ get_or text at 0 ∷ drop (at + 1) text = at_drop_more (λ ts. ts) text at 0 inside in
    let F : List ℕ → Type 0 = λ rest. (0 < token_len (token_at rest)) × (token_len (token_at rest) ≤ length rest) in
    let front : F (drop at text) = subst F (sym here) (front_len-by (get_or text at 0) (drop (at + 1) text) (is_name_byte (get_or text at 0)) refl) in
    (front.0, omega (arith, front.1, length-drop at text))
