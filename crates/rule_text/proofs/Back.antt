-- What is printed is in the grammar, and is read back.
use Rattle.std.proofs.Common.{◌≡◌, ℕ, suc, zero, ◌+◌, ◌<◌, ◌≤◌, Bool, true, false, not, leb, ltb, ◌&&◌, List, [], ◌∷◌, ◌++◌, Some, Ok, length, reverse, length-append, get_or, refl, sym, ap, subst, ◌∙◌, append_assoc, arith}
use Rattle.std.specs.List.{IsDistinct, list_all, prefix_len}
use Rattle.std.specs.Cmp.Lexicographic.{nat_list_eq_equiv}
use Rattle.std.proofs.Math.Seq.{take-append_seam, drop-append_seam}
use Rattle.std.proofs.lemmas.List.{append-nil, reverse-reverse}
use Rattle.std.proofs.lemmas.List.Sums.{prefix_len_is}
use Rattle.std.proofs.lemmas.Map.Keys.{apart_from_distinct}
use Rattle.std.proofs.lemmas.Bool.{and_parts, false≢true}
use Rattle.std.proofs.lemmas.Bool.Decides.{nat_tests}
use Rattle.pb_base.specs.Rule.{Rule, code, negation, both, either, always, never, codes_below, nodes}
use Rattle.pb_base.specs.Names.{is_name, is_name_byte, is_code_name, place_in, same_name, true_word, false_word}
use Rattle.rule_text.specs.Token.{Token, Placed, word, plus, slash, minus, opening, closing, tokens, tokens_from}
use Rattle.rule_text.specs.Grammar.{word_rule, IsFactor, IsTerm, IsExpr, IsText, a_word, a_minus, a_bracket, a_factor, a_plus, a_term, a_slash, plain}
use Rattle.rule_text.specs.Printing.{printed, printed_depth, bracket_depth, bracketed, is_either, is_pair}
use Rattle.rule_text.specs.Reading.{rule_of}
use Rattle.rule_text.proofs.TokenLemmas.{in_word-skips}
use Rattle.rule_text.proofs.Whole.{reads}

-- the names are those of a table of codes
abbrev pub AreCodes : List (List ℕ) → Type 0
AreCodes names = (list_all is_code_name names ≡ true) × IsDistinct same_name names

-- what stands behind a word so that it ends there
abbrev IsEnd : List ℕ → Type 0
IsEnd [] = Unit {0}
IsEnd (b ∷ rest) = is_name_byte b ≡ false

word_len : (name rest : List ℕ) → list_all is_name_byte name ≡ true → IsEnd rest → prefix_len is_name_byte (name ++ rest) ≡ length name
word_len [] [] all ends = refl
word_len [] (b ∷ rest) all ends = rw ends refl
word_len (c ∷ name) rest all ends =
    let parts = and_parts (is_name_byte c) (list_all is_name_byte name) all in
    rw parts.0 (omega (arith, word_len name rest parts.1 ends))

word_tokens : (b : ℕ) (name rest : List ℕ) (at : ℕ) → list_all is_name_byte (b ∷ name) ≡ true → IsEnd rest
    → tokens_from false at (b ∷ (name ++ rest)) ≡ (at, word (b ∷ name)) ∷ tokens_from false (at + length (b ∷ name)) rest
word_tokens b name rest at all ends =
    let parts = and_parts (is_name_byte b) (list_all is_name_byte name) all in
    let len : prefix_len is_name_byte (name ++ rest) ≡ length name = word_len name rest parts.1 ends in
    let one_more : 1 + length name ≡ suc (length name) = omega arith in
    let place : (at + 1) + length name ≡ at + suc (length name) = omega arith in
    let behind : tokens_from true (at + 1) (name ++ rest) ≡ tokens_from false (at + suc (length name)) rest =
    in_word-skips (name ++ rest) (at + 1) ∙ rw (len, drop-append_seam name rest, place) refl in
    rw (parts.0, len, one_more, take-append_seam name rest, behind) refl

-- A text that is followed by the rest: its tokens, and what they are.
record Printed (at : ℕ) (text rest : List ℕ) (P : List Placed → Type 0) : Type 0 where
  ts : List Placed
  form : P ts
  reads : tokens_from false at (text ++ rest) ≡ ts ++ tokens_from false (at + length text) rest

reformed : (at : ℕ) (text rest : List ℕ) (P Q : List Placed → Type 0) → ((ts : List Placed) → P ts → Q ts) → Printed at text rest P → Printed at text rest Q
reformed at text rest P Q f p = record { ts = p.ts; form = f p.ts p.form; reads = p.reads }

word_printed : (names : List (List ℕ)) (d at b : ℕ) (name rest : List ℕ) (rule : Rule) → list_all is_name_byte (b ∷ name) ≡ true → IsEnd rest
    → word_rule names (b ∷ name) ≡ Some rule → Printed at (b ∷ name) rest (λ ts. IsFactor names d ts rule)
word_printed names d at b name rest rule all ends found = record {
  ts = (at, word (b ∷ name)) ∷ [];
  form = a_word d at (b ∷ name) rule found;
  reads = word_tokens b name rest at all ends;
}

in_brackets : (names : List (List ℕ)) (d at : ℕ) (text rest : List ℕ) (rule : Rule) → Printed (at + 1) text (41 ∷ rest) (λ ts. IsExpr names d ts rule)
    → Printed at (bracketed true text) rest (λ ts. IsFactor names (suc d) ts rule)
in_brackets names d at text rest rule p =
    let to = (at + 1) + length text in
    let end : to + 1 ≡ at + suc (length (text ++ 41 ∷ [])) = omega (arith, length-append text (41 ∷ [])) in
    record {
      ts = (at, opening) ∷ (p.ts ++ (to, closing) ∷ []);
      form = a_bracket d at to p.ts _ rule p.form refl;
      reads = ap (λ xs. (at, opening) ∷ xs)
          (ap (tokens_from false (at + 1)) (append_assoc text (41 ∷ []) rest) ∙ p.reads ∙ sym (append_assoc p.ts ((to, closing) ∷ []) (tokens_from false (to + 1) rest))
          ∙ ap (λ k. (p.ts ++ (to, closing) ∷ []) ++ tokens_from false k rest) end);
    }

pair_printed : (at b : ℕ) (m : Token) (left right rest : List ℕ) (P Q R : List Placed → Type 0)
    → ((at : ℕ) (bytes : List ℕ) → tokens_from false at (b ∷ bytes) ≡ (at, m) ∷ tokens_from false (at + 1) bytes)
    → ((ts us : List Placed) (at : ℕ) → P ts → Q us → R (ts ++ (at, m) ∷ us))
    → Printed at left (b ∷ (right ++ rest)) P → Printed ((at + length left) + 1) right rest Q → Printed at (left ++ b ∷ right) rest R
pair_printed at b m left right rest P Q R is_mark joins p q =
    let to = at + length left in
    let end : (to + 1) + length right ≡ at + length (left ++ b ∷ right) = omega (arith, length-append left (b ∷ right)) in
    record {
      ts = p.ts ++ (to, m) ∷ q.ts;
      form = joins p.ts q.ts to p.form q.form;
      reads = ap (tokens_from false at) (append_assoc left (b ∷ right) rest) ∙ p.reads
          ∙ ap (λ xs. p.ts ++ xs) (is_mark to (right ++ rest) ∙ ap (λ xs. (to, m) ∷ xs) q.reads)
          ∙ sym (append_assoc p.ts ((to, m) ∷ q.ts) (tokens_from false ((to + 1) + length right) rest))
          ∙ ap (λ k. (p.ts ++ (to, m) ∷ q.ts) ++ tokens_from false k rest) end;
    }

-- what a rule is in the grammar
abbrev Form : List (List ℕ) → ℕ → List Placed → Rule → Type 0
Form names d ts (either l r) = IsExpr names d ts (either l r)
Form names d ts (both l r) = IsTerm names d ts (both l r)
Form names d ts (code place) = IsFactor names d ts (code place)
Form names d ts (negation r) = IsFactor names d ts (negation r)
Form names d ts always = IsFactor names d ts always
Form names d ts never = IsFactor names d ts never

as_factor : (names : List (List ℕ)) (d : ℕ) (ts : List Placed) (rule : Rule) → is_pair rule ≡ false → Form names d ts rule → IsFactor names d ts rule
as_factor names d ts (either l r) single form = absurd (false≢true (sym single))
as_factor names d ts (both l r) single form = absurd (false≢true (sym single))
as_factor names d ts (code place) single form = form
as_factor names d ts (negation r) single form = form
as_factor names d ts always single form = form
as_factor names d ts never single form = form

as_term : (names : List (List ℕ)) (d : ℕ) (ts : List Placed) (rule : Rule) → is_either rule ≡ false → Form names d ts rule → IsTerm names d ts rule
as_term names d ts (either l r) single form = absurd (false≢true (sym single))
as_term names d ts (both l r) single form = form
as_term names d ts (code place) single form = a_factor d ts _ form
as_term names d ts (negation r) single form = a_factor d ts _ form
as_term names d ts always single form = a_factor d ts _ form
as_term names d ts never single form = a_factor d ts _ form

as_expr : (names : List (List ℕ)) (d : ℕ) (ts : List Placed) (rule : Rule) → Form names d ts rule → IsExpr names d ts rule
as_expr names d ts (either l r) form = form
as_expr names d ts (both l r) form = a_term d ts _ form
as_expr names d ts (code place) form = a_term d ts _ (a_factor d ts _ form)
as_expr names d ts (negation r) form = a_term d ts _ (a_factor d ts _ form)
as_expr names d ts always form = a_term d ts _ (a_factor d ts _ form)
as_expr names d ts never form = a_term d ts _ (a_factor d ts _ form)

abbrev Prints : List (List ℕ) → Rule → Type 0
Prints names rule = (d at : ℕ) (rest : List ℕ) → printed_depth rule ≤ d → IsEnd rest → Printed at (printed names rule) rest (λ ts. Form names d ts rule)

expr_printed : (names : List (List ℕ)) (rule : Rule) → Prints names rule → (d at : ℕ) (rest : List ℕ) → printed_depth rule ≤ d → IsEnd rest
    → Printed at (printed names rule) rest (λ ts. IsExpr names d ts rule)
expr_printed names rule prints d at rest deep ends =
    reformed at (printed names rule) rest (λ ts. Form names d ts rule) (λ ts. IsExpr names d ts rule) (λ ts form. as_expr names d ts rule form) (prints d at rest deep ends)

factor_printed : (names : List (List ℕ)) (rule : Rule) → Prints names rule → (needed : Bool) → is_pair rule ≡ needed → (d at : ℕ) (rest : List ℕ)
    → bracket_depth needed (printed_depth rule) ≤ d → IsEnd rest → Printed at (bracketed needed (printed names rule)) rest (λ ts. IsFactor names d ts rule)
factor_printed names rule prints true is_needed zero at rest deep ends = absurd (omega arith)
factor_printed names rule prints true is_needed (suc d) at rest deep ends =
    in_brackets names d at (printed names rule) rest rule (expr_printed names rule prints d (at + 1) (41 ∷ rest) (omega arith) refl)
factor_printed names rule prints false is_needed d at rest deep ends =
    reformed at (printed names rule) rest (λ ts. Form names d ts rule) (λ ts. IsFactor names d ts rule) (λ ts form. as_factor names d ts rule is_needed form) (prints d at rest deep ends)

term_printed : (names : List (List ℕ)) (rule : Rule) → Prints names rule → (needed : Bool) → is_either rule ≡ needed → (d at : ℕ) (rest : List ℕ)
    → bracket_depth needed (printed_depth rule) ≤ d → IsEnd rest → Printed at (bracketed needed (printed names rule)) rest (λ ts. IsTerm names d ts rule)
term_printed names rule prints true is_needed zero at rest deep ends = absurd (omega arith)
term_printed names rule prints true is_needed (suc d) at rest deep ends =
    reformed at (bracketed true (printed names rule)) rest (λ ts. IsFactor names (suc d) ts rule) (λ ts. IsTerm names (suc d) ts rule) (λ ts form. a_factor (suc d) ts rule form)
    (in_brackets names d at (printed names rule) rest rule (expr_printed names rule prints d (at + 1) (41 ∷ rest) (omega arith) refl))
term_printed names rule prints false is_needed d at rest deep ends =
    reformed at (printed names rule) rest (λ ts. Form names d ts rule) (λ ts. IsTerm names d ts rule) (λ ts form. as_term names d ts rule is_needed form) (prints d at rest deep ends)

negation_prints : (names : List (List ℕ)) (rule : Rule) → Prints names rule → Prints names (negation rule)
negation_prints names rule prints zero at rest deep ends = absurd (omega arith)
negation_prints names rule prints (suc d) at rest deep ends =
    let p = factor_printed names rule prints (is_pair rule) refl d (at + 1) rest (omega arith) ends in
    let text = bracketed (is_pair rule) (printed names rule) in
    let end : (at + 1) + length text ≡ at + suc (length text) = omega arith in
    record {
      ts = (at, minus) ∷ p.ts;
      form = a_minus d at p.ts rule p.form;
      reads = ap (λ xs. (at, minus) ∷ xs) (p.reads ∙ ap (λ k. p.ts ++ tokens_from false k rest) end);
    }

both_prints : (names : List (List ℕ)) (l r : Rule) → Prints names l → Prints names r → Prints names (both l r)
both_prints names l r prints_l prints_r d at rest deep ends =
    pair_printed at 43 plus (bracketed (is_either l) (printed names l)) (bracketed (is_pair r) (printed names r)) rest
    (λ ts. IsTerm names d ts l) (λ ts. IsFactor names d ts r) (λ ts. IsTerm names d ts (both l r)) (λ _ _. refl) (λ ts us at p q. a_plus d at ts us _ l r p q refl)
    (term_printed names l prints_l (is_either l) refl d at _ (omega arith) refl)
    (factor_printed names r prints_r (is_pair r) refl d _ rest (omega arith) ends)

either_prints : (names : List (List ℕ)) (l r : Rule) → Prints names l → Prints names r → Prints names (either l r)
either_prints names l r prints_l prints_r d at rest deep ends =
    pair_printed at 47 slash (printed names l) (bracketed (is_either r) (printed names r)) rest
    (λ ts. IsExpr names d ts l) (λ ts. IsTerm names d ts r) (λ ts. IsExpr names d ts (either l r)) (λ _ _. refl) (λ ts us at p q. a_slash d at ts us _ l r p q refl)
    (expr_printed names l prints_l d at _ (omega arith) refl)
    (term_printed names r prints_r (is_either r) refl d _ rest (omega arith) ends)

not_false : (b : Bool) → not b ≡ true → b ≡ false
not_false true h = sym h
not_false false h = refl

-- the name at a place of a table is found there
pub name_place : (names : List (List ℕ)) (place : ℕ) → IsDistinct same_name names → place < length names → place_in names (get_or names place []) ≡ Some place
name_place names place apart inside =
    let name = get_or names place [] in
    let len : prefix_len (λ x. not (same_name name x)) names ≡ place =
    prefix_len_is (λ x. not (same_name name x)) names place [] (omega arith)
    (λ k before. ap not (nat_list_eq_equiv.symm name (get_or names k []) ∙ apart_from_distinct same_name names k place [] apart before inside))
    (λ _. ap not (nat_list_eq_equiv.refl name)) in
    let test : ltb place (length names) ≡ true = grind (arith, nat_tests) in
    rw (len, test) refl

code_word : (names : List (List ℕ)) (place : ℕ) (name : List ℕ) → is_code_name name ≡ true → place_in names name ≡ Some place → word_rule names name ≡ Some (code place)
code_word names place name is_code found = rw (is_code, found) refl

-- a name is a byte or more, each of them a name's
name_bytes : (name : List ℕ) → is_code_name name ≡ true → (leb 1 (length name) ≡ true) × (list_all is_name_byte name ≡ true)
name_bytes name is_code =
    let parts = and_parts (is_name name && not (same_name name true_word)) (not (same_name name false_word)) is_code in
    let first = and_parts (is_name name) (not (same_name name true_word)) parts.0 in
    let bytes = and_parts (leb 1 (length name) && leb (length name) 8) (list_all is_name_byte name) first.0 in
    ((and_parts (leb 1 (length name)) (leb (length name) 8) bytes.0).0, bytes.1)

name_printed : (names : List (List ℕ)) (d at : ℕ) (name rest : List ℕ) (rule : Rule) → leb 1 (length name) ≡ true → list_all is_name_byte name ≡ true → IsEnd rest
    → word_rule names name ≡ Some rule → Printed at name rest (λ ts. IsFactor names d ts rule)
name_printed names d at [] rest rule some all ends found = absurd (false≢true some)
name_printed names d at (b ∷ name) rest rule some all ends found = word_printed names d at b name rest rule all ends found

all_at : (names : List (List ℕ)) (place : ℕ) → list_all is_code_name names ≡ true → place < length names → is_code_name (get_or names place []) ≡ true
all_at [] place all inside = absurd (omega arith)
all_at (name ∷ names) zero all inside = (and_parts (is_code_name name) (list_all is_code_name names) all).0
all_at (name ∷ names) (suc place) all inside = all_at names place (and_parts (is_code_name name) (list_all is_code_name names) all).1 (omega arith)

code_prints : (names : List (List ℕ)) (place : ℕ) → AreCodes names → ltb place (length names) ≡ true → Prints names (code place)
code_prints names place (codes, apart) below d at rest deep ends =
    let inside : place < length names = grind (arith, nat_tests) in
    let name = get_or names place [] in
    let is_code = all_at names place codes inside in
    let bytes = name_bytes name is_code in
    name_printed names d at name rest (code place) bytes.0 bytes.1 ends (code_word names place name is_code (name_place names place apart inside))

prints : (names : List (List ℕ)) (rule : Rule) → AreCodes names → codes_below (length names) rule ≡ true → Prints names rule
prints names (code place) codes below = code_prints names place codes below
prints names (negation r) codes below = negation_prints names r (prints names r codes below)
prints names (both l r) codes below =
    let parts = and_parts (codes_below (length names) l) (codes_below (length names) r) below in
    both_prints names l r (prints names l codes parts.0) (prints names r codes parts.1)
prints names (either l r) codes below =
    let parts = and_parts (codes_below (length names) l) (codes_below (length names) r) below in
    either_prints names l r (prints names l codes parts.0) (prints names r codes parts.1)
prints names always codes below = λ d at rest deep ends. name_printed names d at true_word rest always refl refl ends refl
prints names never codes below = λ d at rest deep ends. name_printed names d at false_word rest never refl refl ends refl

-- what is printed is in the grammar, as the rule that was printed
pub prints_in_grammar : (names : List (List ℕ)) (rule : Rule) → AreCodes names → codes_below (length names) rule ≡ true
    → IsText names (printed_depth rule) (tokens (printed names rule)) rule
prints_in_grammar names rule codes below =
    let p = expr_printed names rule (prints names rule codes below) (printed_depth rule) 0 [] (omega arith) tt in
    let same : p.ts ≡ tokens (printed names rule) = sym (ap (tokens_from false 0) (sym (append-nil (printed names rule))) ∙ p.reads ∙ append-nil p.ts) in
    plain (printed_depth rule) (tokens (printed names rule)) rule (subst (λ (ts : List Placed). IsExpr names (printed_depth rule) ts rule) same p.form)

-- and it is read as that rule, where it keeps the limits
pub reads_back : (names : List (List ℕ)) (rule : Rule) → AreCodes names → codes_below (length names) rule ≡ true → printed_depth rule ≤ 64 → nodes rule ≤ 512
    → rule_of names (printed names rule) ≡ Ok rule
reads_back names rule codes below shallow short =
    reads names (printed names rule) (printed_depth rule) rule (prints_in_grammar names rule codes below) shallow short

-- what was written from its end, turned round
pub turned_round : (names : List (List ℕ)) (rule part : Rule) (before written text : List ℕ) → part ≡ rule → before ≡ [] → written ≡ before ++ reverse (printed names part)
    → text ≡ reverse written → text ≡ printed names rule
turned_round names rule part before written text is_part none is_written is_text =
    is_text ∙ ap reverse (is_written ∙ ap (λ xs. xs ++ reverse (printed names part)) none) ∙ reverse-reverse (printed names part) ∙ ap (printed names) is_part
