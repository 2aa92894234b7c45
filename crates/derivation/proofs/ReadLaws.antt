-- What is read of the words of a line, where some of them have been read.
use Rattle.std.proofs.Common.{◌≡◌, ℕ, ◌<◌, ◌&&◌, cond, length, arith, Bool, true, false, List, [], ◌∷◌, ◌++◌, Option, None, Some, Result, Ok, Err, codes, refl, sym, ap, ◌∙◌, append_assoc, append-nil}
use Rattle.std.specs.List.{list_all}
use Rattle.std.specs.Option.{option_and_then, option_map, option_zip, IfSome}
use Rattle.std.specs.Result.{IfOk}
use Rattle.pb_base.specs.Names.{same_name, is_code_name}
use Rattle.pb_base.specs.declared.answer.Memory.{Memory}
use Rattle.clause_pool.specs.declared.chain.Pair.{Pair}
use Rattle.derivation.specs.CertLine.{CertLine, set_line, step_line, close_line, step_with, step_from, close_from, other_from, line_from}
use Rattle.derivation.specs.Kept.{number_kept, literal_kept, line_kept, pairs_kept, first_as, first_number, first_literal}
use Rattle.derivation.specs.Pieces.{pieces}
use Rattle.derivation.specs.Reading.{HasPairs, line_of}
use Rattle.derivation.specs.declared.line.Line.{Line}

-- the pairs that have been read, and those to come
abbrev pub pairs_on : List Pair → Option (List Pair) → Option (List Pair)
pairs_on read rest = option_map (λ ps. read ++ ps) rest

pub no_pairs_read : (rest : Option (List Pair)) → pairs_on [] rest ≡ rest
no_pairs_read None = refl
no_pairs_read (Some ps) = refl

pub all_pairs_read : (read : List Pair) → pairs_on read (Some []) ≡ Some read
all_pairs_read read = ap Some (append-nil read)

one_more : (read : List Pair) (p : Pair) (rest : Option (List Pair)) → pairs_on (read ++ p ∷ []) rest ≡ pairs_on read (option_map (λ ps. p ∷ ps) rest)
one_more read p None = refl
one_more read p (Some ps) = ap Some (append_assoc read (p ∷ []) ps)

pub pair_read : (read new : List Pair) (words rest : List (List ℕ)) (p : Pair) → pairs_kept words ≡ option_map (λ ps. p ∷ ps) (pairs_kept rest) → new ≡ read ++ p ∷ []
    → pairs_on new (pairs_kept rest) ≡ pairs_on read (pairs_kept words)
pair_read read new words rest p is grown = ap (λ ps. pairs_on ps (pairs_kept rest)) grown ∙ one_more read p (pairs_kept rest) ∙ ap (pairs_on read) (sym is)

-- the first word of some words, where it is read or none is
read_first : (o : Option ℕ) (behind rest : List (List ℕ)) (value : ℕ) → option_map {U = ℕ × List (List ℕ)} (λ v. (v, behind)) o ≡ Some (value, rest) → (o ≡ Some value) × (behind ≡ rest)
read_first None behind rest value h = absurd (cc)
read_first (Some v) behind rest value h = let same : ◌≡◌ {A = ℕ × List (List ℕ)} (v, behind) (value, rest) = cc in (ap (λ z. Some z.0) same, ap (λ z. z.1) same)

none_first : (o : Option ℕ) (behind : List (List ℕ)) → option_map {U = ℕ × List (List ℕ)} (λ v. (v, behind)) o ≡ None → o ≡ None
none_first None behind h = refl
none_first (Some v) behind h = absurd (cc)

pub fewer_left : (read : List ℕ → Option ℕ) (words rest : List (List ℕ)) (value : ℕ) → first_as read words ≡ Some (value, rest) → length rest < length words
fewer_left read [] rest value h = absurd (cc)
fewer_left read (word ∷ words) rest value h = let same : length words ≡ length rest = ap length (read_first (read word) words rest value h).1 in omega arith

pub step_read : (words rest : List (List ℕ)) (start : ℕ) → first_number words ≡ Some (start, rest) → step_from number_kept literal_kept words ≡ step_with (Some start) (pairs_kept rest)
step_read [] rest start h = absurd (cc)
step_read (word ∷ words) rest start h =
    let parts = read_first (number_kept word) words rest start h in
    ap (λ o. step_with o (pairs_kept words)) parts.0 ∙ ap (λ ws. step_with (Some start) (pairs_kept ws)) parts.1

pub no_step : (words : List (List ℕ)) → first_number words ≡ None → step_from number_kept literal_kept words ≡ None
no_step [] h = refl
no_step (word ∷ words) h = ap (λ o. step_with o (pairs_kept words)) (none_first (number_kept word) words h)

-- a step, by what was read behind its start
step_behind : (words rest : List (List ℕ)) (start : ℕ) (are : Bool) (pairs : List Pair) → first_number words ≡ Some (start, rest) → pairs_kept rest ≡ cond are (Some pairs) None
    → step_from number_kept literal_kept words ≡ step_with (Some start) (cond are (Some pairs) None)
step_behind words rest start are pairs first read = step_read words rest start first ∙ ap (step_with (Some start)) read

pub step_unread : (words rest : List (List ℕ)) (start : ℕ) (are : Bool) (pairs : List Pair) → first_number words ≡ Some (start, rest) → pairs_kept rest ≡ cond are (Some pairs) None → are ≡ false
    → step_from number_kept literal_kept words ≡ None
step_unread words rest start are pairs first read none = step_behind words rest start are pairs first read ∙ ap (λ t. step_with (Some start) (cond t (Some pairs) None)) none

pub step_empty : (words rest : List (List ℕ)) (start : ℕ) (are : Bool) (pairs : List Pair) → first_number words ≡ Some (start, rest) → pairs_kept rest ≡ cond are (Some pairs) None → are ≡ true
    → length pairs ≡ 0 → step_from number_kept literal_kept words ≡ None
step_empty words rest start are [] first read all none = step_behind words rest start are [] first read ∙ ap (λ t. step_with (Some start) (cond t (Some []) None)) all
step_empty words rest start are (p ∷ ps) first read all none = absurd (omega arith)

pub step_made : (words rest : List (List ℕ)) (start : ℕ) (are : Bool) (pairs : List Pair) → first_number words ≡ Some (start, rest) → pairs_kept rest ≡ cond are (Some pairs) None → are ≡ true
    → 0 < length pairs → step_from number_kept literal_kept words ≡ Some (step_line start pairs)
step_made words rest start are [] first read all some = absurd (omega arith)
step_made words rest start are (p ∷ ps) first read all some =
    step_behind words rest start are (p ∷ ps) first read ∙ ap (λ t. step_with (Some start) (cond t (Some (p ∷ ps)) None)) all

abbrev pairs_after : Option ℕ → Option ℕ → List (List ℕ) → Option (List Pair)
pairs_after lit other words =
    option_and_then (λ p. option_map (λ ps. p ∷ ps) (pairs_kept words)) (option_map (λ z. record { lit = z.0; with = z.1 }) (option_zip lit other))

none_after : (lit : Option ℕ) (words : List (List ℕ)) → pairs_after lit None words ≡ None
none_after None words = refl
none_after (Some l) words = refl

-- the first of the pairs that are left
pub pair_first : (words between rest : List (List ℕ)) (l n : ℕ) → first_literal words ≡ Some (l, between) → first_number between ≡ Some (n, rest)
    → pairs_kept words ≡ option_map (λ ps. record { lit = l; with = n } ∷ ps) (pairs_kept rest)
pair_first [] between rest l n h k = absurd (cc)
pair_first (word ∷ []) between rest l n h k =
    let none : [] ≡ between = (read_first (literal_kept word) [] between l h).1 in
    let lacks : ◌≡◌ {A = Option (ℕ × List (List ℕ))} None (Some (n, rest)) = ap first_number none ∙ k in absurd (cc)
pair_first (word ∷ other ∷ words) between rest l n h k =
    let parts = read_first (literal_kept word) (other ∷ words) between l h in
    let behind = read_first (number_kept other) words rest n (ap first_number parts.1 ∙ k) in
    ap (λ o. pairs_after o (number_kept other) words) parts.0 ∙ ap (λ o. pairs_after (Some l) o words) behind.0
    ∙ ap (λ ws. option_map (λ ps. record { lit = l; with = n } ∷ ps) (pairs_kept ws)) behind.1

pub no_literal : (words : List (List ℕ)) → (words ≡ [] → ⊥) → first_literal words ≡ None → pairs_kept words ≡ None
no_literal [] some h = absurd (some refl)
no_literal (word ∷ []) some h = refl
no_literal (word ∷ other ∷ words) some h = ap (λ o. pairs_after o (number_kept other) words) (none_first (literal_kept word) (other ∷ words) h)

pub no_number : (words between : List (List ℕ)) (l : ℕ) → first_literal words ≡ Some (l, between) → first_number between ≡ None → pairs_kept words ≡ None
no_number [] between l h k = absurd (cc)
no_number (word ∷ []) between l h k = refl
no_number (word ∷ other ∷ words) between l h k =
    let parts = read_first (literal_kept word) (other ∷ words) between l h in
    ap (λ o. pairs_after (literal_kept word) o words) (none_first (number_kept other) words (ap first_number parts.1 ∙ k)) ∙ none_after (literal_kept word) words

-- a line that closes a question
abbrev closing : Option ℕ → Option ℕ → Option CertLine
closing question clause = option_map (λ z. close_line z.0 z.1) (option_zip question clause)

none_closing : (question : Option ℕ) → closing question None ≡ None
none_closing None = refl
none_closing (Some q) = refl

pub no_question : (words : List (List ℕ)) → first_number words ≡ None → close_from number_kept literal_kept words ≡ None
no_question [] h = refl
no_question (question ∷ []) h = refl
no_question (question ∷ clause ∷ []) h = ap (λ o. closing o (number_kept clause)) (none_first (number_kept question) (clause ∷ []) h)
no_question (question ∷ clause ∷ more ∷ words) h = refl

pub no_clause : (words between : List (List ℕ)) (q : ℕ) → first_number words ≡ Some (q, between) → first_number between ≡ None → close_from number_kept literal_kept words ≡ None
no_clause [] between q h k = refl
no_clause (question ∷ []) between q h k = refl
no_clause (question ∷ clause ∷ []) between q h k =
    let parts = read_first (number_kept question) (clause ∷ []) between q h in
    ap (closing (number_kept question)) (none_first (number_kept clause) [] (ap first_number parts.1 ∙ k)) ∙ none_closing (number_kept question)
no_clause (question ∷ clause ∷ more ∷ words) between q h k = refl

pub more_words : (words between rest : List (List ℕ)) (q c : ℕ) → first_number words ≡ Some (q, between) → first_number between ≡ Some (c, rest) → (rest ≡ [] → ⊥)
    → close_from number_kept literal_kept words ≡ None
more_words [] between rest q c h k more = refl
more_words (question ∷ []) between rest q c h k more = refl
more_words (question ∷ clause ∷ []) between rest q c h k more =
    let parts = read_first (number_kept question) (clause ∷ []) between q h in
    let behind = read_first (number_kept clause) [] rest c (ap first_number parts.1 ∙ k) in
    absurd (more (sym behind.1))
more_words (question ∷ clause ∷ third ∷ words) between rest q c h k more = refl

pub close_read : (words between rest : List (List ℕ)) (q c : ℕ) → first_number words ≡ Some (q, between) → first_number between ≡ Some (c, rest) → rest ≡ []
    → close_from number_kept literal_kept words ≡ Some (close_line q c)
close_read [] between rest q c h k all = absurd (cc)
close_read (question ∷ []) between rest q c h k all =
    let none : [] ≡ between = (read_first (number_kept question) [] between q h).1 in
    let lacks : ◌≡◌ {A = Option (ℕ × List (List ℕ))} None (Some (c, rest)) = ap first_number none ∙ k in absurd (cc)
close_read (question ∷ clause ∷ words) between rest q c h k all =
    let parts = read_first (number_kept question) (clause ∷ words) between q h in
    let behind = read_first (number_kept clause) words rest c (ap first_number parts.1 ∙ k) in
    ap (λ ws. close_from number_kept literal_kept (question ∷ clause ∷ ws)) (behind.1 ∙ all)
    ∙ ap (λ o. closing o (number_kept clause)) parts.0 ∙ ap (closing (Some q)) behind.0

-- the names that have been read, and those to come
abbrev pub set_on : List (List ℕ) → List (List ℕ) → Option CertLine
set_on read words = cond (list_all is_code_name words) (Some (set_line (read ++ words))) None

pub name_read : (read new words rest : List (List ℕ)) (name : List ℕ) → words ≡ name ∷ rest → is_code_name name ≡ true → new ≡ read ++ name ∷ [] → set_on new rest ≡ set_on read words
name_read read new words rest name first is grown =
    ap (λ ns. set_on ns rest) grown ∙ ap (λ ns. cond (list_all is_code_name rest) (Some (set_line ns)) None) (append_assoc read (name ∷ []) rest)
    ∙ sym (ap (set_on read) first ∙ ap (λ t. cond (t && list_all is_code_name rest) (Some (set_line (read ++ name ∷ rest))) None) is)

pub all_names_read : (read : List (List ℕ)) → set_on read [] ≡ Some (set_line read)
all_names_read read = ap (λ ns. Some (set_line ns)) (append-nil read)

-- a line that is no step
pub other_read : (r : Result (Option Line) Memory) (text keyword step : List ℕ) (words rest : List (List ℕ)) (t : Bool) (pairs : List Pair) → words ≡ pieces 32 text → words ≡ keyword ∷ rest
    → t ≡ same_name keyword step → step ≡ codes "step" → t ≡ false
    → IfOk r (λ line. (ps : List Pair) → other_from number_kept literal_kept keyword rest ≡ option_map (λ l. line_of l ps) line)
    → IfOk r (λ line. line_kept text ≡ option_map (λ l. line_of l pairs) line)
other_read (Err e) text keyword step words rest t pairs cut first tested is out h = tt
other_read (Ok line) text keyword step words rest t pairs cut first tested is out h =
    ap (line_from number_kept literal_kept) (sym cut ∙ first)
    ∙ ap (λ b. cond b (step_from number_kept literal_kept rest) (other_from number_kept literal_kept keyword rest)) (ap (same_name keyword) (sym is) ∙ sym tested ∙ out)
    ∙ h pairs

pub other_pairs : (r : Result (Option Line) Memory) (pairs : List Pair) → IfOk r (λ line. (ps : List Pair) → IfSome line (λ l. HasPairs l ps)) → IfOk r (λ line. IfSome line (λ l. HasPairs l pairs))
other_pairs (Ok line) pairs h = h pairs
other_pairs (Err e) pairs h = tt
