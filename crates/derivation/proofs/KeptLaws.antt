-- A line as it is kept is the line with its numbers and literals kept, and does the same wherever all names are kept.
use Rattle.std.proofs.Common.{◌≡◌, ℕ, ◌+◌, ◌-◌, ◌*◌, ◌/◌, ◌%◌, ◌<◌, ◌≤◌, min, Bool, true, false, cond, eqb, ltb, ◌&&◌, List, [], ◌∷◌, Option, None, Some, Result, Ok, Err, map, length, codes, inl, inr, refl, sym, ap, subst, ◌∙◌, arith, eq-eqb}
use Rattle.std.specs.List.{list_all, slice_get, AllByRecursion}
use Rattle.std.specs.Option.{option_and_then, option_map, option_zip}
use Rattle.std.proofs.lemmas.Bool.{cases_Bool, cases_eq, cond-true, cond-false, eqb-true, eqb-false, ltb-true, ltb-false, ne_eqb}
use Rattle.std.proofs.lemmas.Option.{slice_get_past}
use Rattle.pb_base.specs.Digits.{is_digit, value_from, value_of}
use Rattle.pb_base.specs.Names.{same_name, is_name, is_code_name}
use Rattle.pb_base.specs.Answers.{Gives}
use Rattle.pb_base.specs.Results.{and_then, unless}
use Rattle.pb_base.specs.declared.answer.Fail.{Fail}
use Rattle.book_model.specs.Contents.{Contents}
use Rattle.book_model.specs.declared.record.Slice.{Slice}
use Rattle.clause_pool.specs.Literal.{literal, complement}
use Rattle.clause_pool.specs.Clause.{has, IsBelow, AreBelow}
use Rattle.clause_pool.specs.Chain.{resolved, step_on, started, chain_from, chain}
use Rattle.clause_pool.specs.declared.chain.Pair.{Pair}
use Rattle.clause_pool.specs.declared.chain.StepFault.{StepFault}
use Rattle.clause_pool.specs.declared.chain.StepFault.TheVariants.{NoPivot}
use Rattle.clause_pool.proofs.ChainLaws.{IsBelow-resolved}
use Rattle.clause_pool.proofs.ClauseLaws.{all_found}
use Rattle.derivation.specs.declared.closing.ToClose.{ToClose}
use Rattle.derivation.specs.declared.fault.CertKind.{CertKind}
use Rattle.derivation.specs.declared.fault.CertKind.TheVariants.{Syntax, WrongBook, NotClosed}
use Rattle.derivation.specs.After.{after, after_head, after_name, after_slices, after_number, after_within, next_slice, with_clause, close_next, closed_by, first_left}
use Rattle.derivation.specs.CertLine.{CertLine, head_line, book_line, slice_line, set_line, step_line, close_line, end_line, head_from, set_from, end_from, book_from, slice_from, pair_from, pairs_from, step_with, step_from, close_from, other_from, line_from, cert_line}
use Rattle.derivation.specs.Certificate.{is_step, past_end, taken_as, taken_line}
use Rattle.derivation.specs.Kept.{highest, highest_variable, kept, kept_literal, kept_pair, kept_line, with_digit, digits_kept, number_kept, literal_at, literal_kept, line_kept, NamesKept, AllNamed}
use Rattle.derivation.specs.Pieces.{pieces}
use Rattle.derivation.specs.Reading.{line_of, seen}
use Rattle.derivation.specs.declared.check.Taken.{Taken}
use Rattle.derivation.specs.declared.line.Line.{Line}
use Rattle.derivation.specs.Stage.{SliceSoFar, Stage, at_head, at_book, at_slices, at_set, within, at_end}
use Rattle.derivation.specs.Words.{has_number_form, cert_number, cert_literal}

map_if : {A B : Type 0} (f : A → B) (t : Bool) (x y : Option A) → option_map f (cond t x y) ≡ cond t (option_map f x) (option_map f y)
map_if f true x y = refl
map_if f false x y = refl

-- numbers
pub digits_are : (v : ℕ) (word : List ℕ) → digits_kept (kept v) word ≡ cond (list_all is_digit word) (Some (kept (value_from v word))) None
digits_are v [] = refl
digits_are v (b ∷ bs) =
    let same : with_digit (kept v) b ≡ kept (10 * v + (b - 48)) = omega arith in
    elim (cases_Bool (is_digit b)) [
      | inl met ↦
          cond-true (is_digit b) (digits_kept (with_digit (kept v) b) bs) None met ∙ ap (λ x. digits_kept x bs) same ∙ digits_are (10 * v + (b - 48)) bs
          ∙ sym (ap (λ t. cond (t && list_all is_digit bs) (Some (kept (value_from v (b ∷ bs)))) None) met)
      | inr unmet ↦
          cond-false (is_digit b) (digits_kept (with_digit (kept v) b) bs) None unmet
          ∙ sym (ap (λ t. cond (t && list_all is_digit bs) (Some (kept (value_from v (b ∷ bs)))) None) unmet)
    ]

number_is : (word : List ℕ) → number_kept word ≡ option_map kept (cert_number word)
number_is word =
    let value : Option ℕ = cond (list_all is_digit word) (Some (kept (value_of word))) None in
    elim (cases_Bool (has_number_form word)) [
      | inl met ↦
          cond-true (has_number_form word) (digits_kept 0 word) None met ∙ digits_are 0 word
          ∙ sym (map_if kept (has_number_form word && list_all is_digit word) (Some (value_of word)) None ∙ ap (λ t. cond (t && list_all is_digit word) (Some (kept (value_of word))) None) met)
      | inr unmet ↦
          cond-false (has_number_form word) (digits_kept 0 word) None unmet
          ∙ sym (map_if kept (has_number_form word && list_all is_digit word) (Some (value_of word)) None ∙ ap (λ t. cond (t && list_all is_digit word) (Some (kept (value_of word))) None) unmet)
    ]

-- literals
positive_is : (v : ℕ) → literal_at true (kept v) ≡ kept_literal (literal v true)
positive_is v =
    let half : (2 * v + 0) / 2 ≡ v = omega arith in
    let even : eqb ((2 * v + 0) % 2) 0 ≡ true = eq-eqb ((2 * v + 0) % 2) 0 (omega arith) in
    let same : min (kept v) highest_variable ≡ min v highest_variable = omega arith in
    ap (λ n. literal n true) same ∙ sym (ap (λ t. literal (min ((2 * v + 0) / 2) highest_variable) t) even ∙ ap (λ n. literal (min n highest_variable) true) half)

negative_is : (v : ℕ) → literal_at false (kept v) ≡ kept_literal (literal v false)
negative_is v =
    let half : (2 * v + 1) / 2 ≡ v = omega arith in
    let odd : eqb ((2 * v + 1) % 2) 0 ≡ false = ne_eqb ((2 * v + 1) % 2) 0 (λ e. omega arith) in
    let same : min (kept v) highest_variable ≡ min v highest_variable = omega arith in
    ap (λ n. literal n false) same ∙ sym (ap (λ t. literal (min ((2 * v + 1) / 2) highest_variable) t) odd ∙ ap (λ n. literal (min n highest_variable) false) half)

positives_are : (o : Option ℕ) → option_map (literal_at true) (option_map kept o) ≡ option_map kept_literal (option_map (λ v. literal v true) o)
positives_are None = refl
positives_are (Some v) = ap Some (positive_is v)

negatives_are : (o : Option ℕ) → option_map (literal_at false) (option_map kept o) ≡ option_map kept_literal (option_map (λ v. literal v false) o)
negatives_are None = refl
negatives_are (Some v) = ap Some (negative_is v)

literal_is : (word : List ℕ) → literal_kept word ≡ option_map kept_literal (cert_literal word)
literal_is [] = refl
literal_is (sign ∷ number) =
    let positive = option_map (λ v. literal v true) (cert_number number) in
    let negative = option_map (λ v. literal v false) (cert_number number) in
    ap (λ o. cond (eqb sign 43) (option_map (literal_at true) o) (cond (eqb sign 45) (option_map (literal_at false) o) None)) (number_is number)
    ∙ ap (λ o. cond (eqb sign 43) o (cond (eqb sign 45) (option_map (literal_at false) (option_map kept (cert_number number))) None)) (positives_are (cert_number number))
    ∙ ap (λ o. cond (eqb sign 43) (option_map kept_literal positive) (cond (eqb sign 45) o None)) (negatives_are (cert_number number))
    ∙ sym (map_if kept_literal (eqb sign 43) positive (cond (eqb sign 45) negative None) ∙ ap (cond (eqb sign 43) (option_map kept_literal positive)) (map_if kept_literal (eqb sign 45) negative None))

-- lines
abbrev pair_with : ℕ × ℕ → Pair
pair_with z = record { lit = z.0; with = z.1 }

two_are : (o p : Option ℕ) → option_map pair_with (option_zip (option_map kept_literal o) (option_map kept p)) ≡ option_map kept_pair (option_map pair_with (option_zip o p))
two_are None p = refl
two_are (Some l) None = refl
two_are (Some l) (Some n) = refl

pair_is : (lit other : List ℕ) → pair_from number_kept literal_kept lit other ≡ option_map kept_pair (pair_from cert_number cert_literal lit other)
pair_is lit other =
    ap (λ o. option_map pair_with (option_zip o (number_kept other))) (literal_is lit)
    ∙ ap (λ o. option_map pair_with (option_zip (option_map kept_literal (cert_literal lit)) o)) (number_is other) ∙ two_are (cert_literal lit) (cert_number other)

more_are : (o : Option Pair) (rest : Option (List Pair)) → option_and_then (λ p. option_map (λ ps. p ∷ ps) (option_map (map kept_pair) rest)) (option_map kept_pair o)
    ≡ option_map (map kept_pair) (option_and_then (λ p. option_map (λ ps. p ∷ ps) rest) o)
more_are None rest = refl
more_are (Some p) None = refl
more_are (Some p) (Some ps) = refl

pairs_are : (words : List (List ℕ)) → pairs_from number_kept literal_kept words ≡ option_map (map kept_pair) (pairs_from cert_number cert_literal words)
pairs_are [] = refl
pairs_are (lit ∷ []) = refl
pairs_are (lit ∷ other ∷ words) =
    ap (λ o. option_and_then (λ p. option_map (λ ps. p ∷ ps) (pairs_from number_kept literal_kept words)) o) (pair_is lit other)
    ∙ ap (λ rest. option_and_then (λ p. option_map (λ ps. p ∷ ps) rest) (option_map kept_pair (pair_from cert_number cert_literal lit other))) (pairs_are words)
    ∙ more_are (pair_from cert_number cert_literal lit other) (pairs_from cert_number cert_literal words)

step_with_is : (o : Option ℕ) (ps : Option (List Pair)) → step_with (option_map kept o) (option_map (map kept_pair) ps) ≡ option_map kept_line (step_with o ps)
step_with_is None ps = refl
step_with_is (Some start) None = refl
step_with_is (Some start) (Some []) = refl
step_with_is (Some start) (Some (p ∷ ps)) = refl

step_is : (words : List (List ℕ)) → step_from number_kept literal_kept words ≡ option_map kept_line (step_from cert_number cert_literal words)
step_is [] = refl
step_is (start ∷ words) =
    ap (λ o. step_with o (pairs_from number_kept literal_kept words)) (number_is start)
    ∙ ap (step_with (option_map kept (cert_number start))) (pairs_are words) ∙ step_with_is (cert_number start) (pairs_from cert_number cert_literal words)

closing_is : (o p : Option ℕ) → option_map (λ z. close_line z.0 z.1) (option_zip (option_map kept o) (option_map kept p)) ≡ option_map kept_line (option_map (λ z. close_line z.0 z.1) (option_zip o p))
closing_is None p = refl
closing_is (Some q) None = refl
closing_is (Some q) (Some c) = refl

close_is : (words : List (List ℕ)) → close_from number_kept literal_kept words ≡ option_map kept_line (close_from cert_number cert_literal words)
close_is [] = refl
close_is (question ∷ []) = refl
close_is (question ∷ clause ∷ []) =
    ap (λ o. option_map (λ z. close_line z.0 z.1) (option_zip o (number_kept clause))) (number_is question)
    ∙ ap (λ o. option_map (λ z. close_line z.0 z.1) (option_zip (option_map kept (cert_number question)) o)) (number_is clause) ∙ closing_is (cert_number question) (cert_number clause)
close_is (question ∷ clause ∷ more ∷ words) = refl

one_is : (f g : ℕ → CertLine) → ((n : ℕ) → f (kept n) ≡ kept_line (g n)) → (o : Option ℕ) → option_map f (option_map kept o) ≡ option_map kept_line (option_map g o)
one_is f g same None = refl
one_is f g same (Some n) = ap Some (same n)

slice_is : (words : List (List ℕ)) → slice_from number_kept literal_kept words ≡ option_map kept_line (slice_from cert_number cert_literal words)
slice_is [] = refl
slice_is (k ∷ []) = ap (option_map slice_line) (number_is k) ∙ one_is slice_line slice_line (λ n. refl) (cert_number k)
slice_is (k ∷ more ∷ words) = refl

book_is : (words : List (List ℕ)) → book_from number_kept literal_kept words ≡ option_map kept_line (book_from cert_number cert_literal words)
book_is [] = refl
book_is (name ∷ []) = refl
book_is (name ∷ count ∷ []) =
    ap (λ o. cond (is_name name) o None) (ap (option_map (book_line name)) (number_is count) ∙ one_is (book_line name) (book_line name) (λ n. refl) (cert_number count))
    ∙ sym (map_if kept_line (is_name name) (option_map (book_line name) (cert_number count)) None)
book_is (name ∷ count ∷ more ∷ words) = refl

set_is : (names : List (List ℕ)) → set_from names ≡ option_map kept_line (set_from names)
set_is names = sym (map_if kept_line (list_all is_code_name names) (Some (set_line names)) None)

head_is : (words : List (List ℕ)) → head_from words ≡ option_map kept_line (head_from words)
head_is [] = refl
head_is (subject ∷ []) = refl
head_is (subject ∷ version ∷ []) = sym (map_if kept_line (same_name subject (codes "certificate") && same_name version (codes "1")) (Some head_line) None)
head_is (subject ∷ version ∷ more ∷ words) = refl

end_is : (words : List (List ℕ)) → end_from words ≡ option_map kept_line (end_from words)
end_is [] = refl
end_is (word ∷ words) = refl

if_is : (t : Bool) (x x' y y' : Option CertLine) → x ≡ option_map kept_line x' → y ≡ option_map kept_line y' → cond t x y ≡ option_map kept_line (cond t x' y')
if_is true x x' y y' p q = p
if_is false x x' y y' p q = q

other_is : (keyword : List ℕ) (words : List (List ℕ)) → other_from number_kept literal_kept keyword words ≡ option_map kept_line (other_from cert_number cert_literal keyword words)
other_is keyword words =
    if_is (same_name keyword (codes "close")) _ _ _ _ (close_is words)
    (if_is (same_name keyword (codes "set")) _ _ _ _ (set_is words)
    (if_is (same_name keyword (codes "slice")) _ _ _ _ (slice_is words)
    (if_is (same_name keyword (codes "book")) _ _ _ _ (book_is words)
    (if_is (same_name keyword (codes "end")) _ _ _ _ (end_is words)
    (if_is (same_name keyword (codes "partsbook")) _ _ _ _ (head_is words) refl)))))

words_are : (words : List (List ℕ)) → line_from number_kept literal_kept words ≡ option_map kept_line (line_from cert_number cert_literal words)
words_are [] = refl
words_are (keyword ∷ words) = if_is (same_name keyword (codes "step")) _ _ _ _ (step_is words) (other_is keyword words)

pub line_is : (text : List ℕ) → line_kept text ≡ option_map kept_line (cert_line text)
line_is text = words_are (pieces 32 text)

-- what is kept names the same
same_test : (m n : ℕ) → n < highest → eqb (kept m) n ≡ eqb m n
same_test m n below =
    elim (cases_eq m n) [
      | inl e ↦ let k : kept m ≡ n = omega arith in eq-eqb (kept m) n k ∙ sym (eq-eqb m n e)
      | inr other ↦ ne_eqb (kept m) n (λ k. other (omega arith)) ∙ sym (ne_eqb m n other)
    ]

same_clause : (clauses : List (List ℕ)) (m : ℕ) → length clauses ≤ highest → slice_get clauses (kept m) ≡ slice_get clauses m
same_clause clauses m few =
    elim (cases_eq (kept m) m) [
      | inl e ↦ ap (slice_get clauses) e
      | inr other ↦
          let above : highest ≤ m = omega arith in
          let past : length clauses ≤ kept m = omega arith in
          slice_get_past clauses (kept m) past ∙ sym (slice_get_past clauses m (omega arith))
    ]

not_in : (bound l : ℕ) (c : List ℕ) → bound ≤ l → IsBelow bound c → has c l ≡ false
not_in bound l [] above below = refl
not_in bound l (x ∷ xs) above below = rw (ne_eqb x l (λ e. omega (arith, below.0)), not_in bound l xs above below.1) refl

same_literal : (l : ℕ) → l < 2 * highest_variable → kept_literal l ≡ l
same_literal l below =
    elim (cases_Bool (eqb (l % 2) 0)) [
      | inl even ↦ let rest : l % 2 ≡ 0 = eqb-true (l % 2) 0 even in let same : literal (min (l / 2) highest_variable) true ≡ l = omega arith in rw even same
      | inr odd ↦ let rest = eqb-false (l % 2) 0 odd in let same : literal (min (l / 2) highest_variable) false ≡ l = omega arith in rw odd same
    ]

above_stays : (l : ℕ) → 2 * highest_variable ≤ l → 2 * highest_variable ≤ kept_literal l
above_stays l above =
    elim (cases_Bool (eqb (l % 2) 0)) [
      | inl even ↦ let same : 2 * highest_variable ≤ literal (min (l / 2) highest_variable) true = omega arith in rw even same
      | inr odd ↦ let same : 2 * highest_variable ≤ literal (min (l / 2) highest_variable) false = omega arith in rw odd same
    ]

abbrev on_pivots : List ℕ → ℕ → List ℕ → ℕ → Bool → Result (List ℕ) StepFault
on_pivots running lit other place there = cond (there && has other (complement lit)) (Ok (resolved running lit other)) (Err (NoPivot place))

same_step : (running : List ℕ) (place l : ℕ) (found : Option (List ℕ)) → IsBelow (2 * highest_variable) running → step_on running place (kept_literal l) found ≡ step_on running place l found
same_step running place l None below = refl
same_step running place l (Some other) below =
    elim (cases_Bool (ltb l (2 * highest_variable))) [
      | inl low ↦ ap (λ k. step_on running place k (Some other)) (same_literal l (ltb-true l (2 * highest_variable) low))
      | inr high ↦
          let above : 2 * highest_variable ≤ l = ltb-false l (2 * highest_variable) high in
          ap (on_pivots running (kept_literal l) other place) (not_in (2 * highest_variable) (kept_literal l) running (above_stays l above) below)
          ∙ sym (ap (on_pivots running l other place) (not_in (2 * highest_variable) l running above below))
    ]

chosen : (t : Bool) (c d : List ℕ) (fault : StepFault) → cond t (Ok c) (Err fault) ≡ Ok d → c ≡ d
chosen true c d fault h = cc
chosen false c d fault h = absurd (cc)

below_after : (bound : ℕ) (running : List ℕ) (place l : ℕ) (found : Option (List ℕ)) → IsBelow bound running → ((other : List ℕ) → found ≡ Some other → IsBelow bound other)
    → (c : List ℕ) → step_on running place l found ≡ Ok c → IsBelow bound c
below_after bound running place l None below others c h = absurd (cc)
below_after bound running place l (Some other) below others c h =
    subst (IsBelow bound) (chosen (has running l && has other (complement l)) (resolved running l other) c (NoPivot place) h) (IsBelow-resolved bound running l other below (others other refl))

same_rest : (clauses : List (List ℕ)) → AreBelow (2 * highest_variable) clauses → length clauses ≤ highest → (place : ℕ) (pairs : List Pair) (before : Result (List ℕ) StepFault)
    → ((c : List ℕ) → before ≡ Ok c → IsBelow (2 * highest_variable) c) → chain_from clauses place (map kept_pair pairs) before ≡ chain_from clauses place pairs before
same_rest clauses all few place [] before below = refl
same_rest clauses all few place (p ∷ ps) (Err fault) below = refl
same_rest clauses all few place (p ∷ ps) (Ok running) below =
    let bound = 2 * highest_variable in
    ap (chain_from clauses (place + 1) (map kept_pair ps)) (ap (step_on running place (kept_literal p.lit)) (same_clause clauses p.with few) ∙ same_step running place p.lit (slice_get clauses p.with) (below running refl))
    ∙ same_rest clauses all few (place + 1) ps (step_on running place p.lit (slice_get clauses p.with))
    (below_after bound running place p.lit (slice_get clauses p.with) (below running refl) (λ other e. all_found (IsBelow bound) clauses p.with other all e))

below_start : (bound : ℕ) (found : Option (List ℕ)) → ((other : List ℕ) → found ≡ Some other → IsBelow bound other) → (c : List ℕ) → started found ≡ Ok c → IsBelow bound c
below_start bound None others c h = absurd (cc)
below_start bound (Some d) others c h = subst (IsBelow bound) (let same : d ≡ c = cc in same) (others d refl)

same_chain : (clauses : List (List ℕ)) (start : ℕ) (pairs : List Pair) → AreBelow (2 * highest_variable) clauses → length clauses ≤ highest
    → chain clauses (kept start) (map kept_pair pairs) ≡ chain clauses start pairs
same_chain clauses start pairs all few =
    let bound = 2 * highest_variable in
    ap (λ o. chain_from clauses 1 (map kept_pair pairs) (started o)) (same_clause clauses start few)
    ∙ same_rest clauses all few 1 pairs (started (slice_get clauses start)) (below_start bound (slice_get clauses start) (λ other e. all_found (IsBelow bound) clauses start other all e))

same_next : (slices next : ℕ) (left : Option CertKind) (number : ℕ) → next < highest → next_slice slices next left (kept number) ≡ next_slice slices next left number
same_next slices next left number below = ap (λ t. cond (t && ltb next slices) (unless left (Ok (at_set next))) (Err Syntax)) (same_test number next below)

same_close : (s : SliceSoFar) (left : List ToClose) (question clause : ℕ) → length s.clauses ≤ highest → AllByRecursion (λ w. w.question < highest) left
    → close_next s left (kept question) (kept clause) ≡ close_next s left question clause
same_close s [] question clause few below = refl
same_close s (next ∷ left) question clause few below =
    ap (λ t. cond t (closed_by s next left (slice_get s.clauses (kept clause))) (Err (NotClosed next.question))) (same_test question next.question below.0)
    ∙ ap (λ o. cond (eqb question next.question) (closed_by s next left o) (Err (NotClosed next.question))) (same_clause s.clauses clause few)

same_within : (slices : ℕ) (s : SliceSoFar) (line : CertLine) → NamesKept s → after_within slices s (kept_line line) ≡ after_within slices s line
same_within slices s head_line named = refl
same_within slices s (book_line name count) named = refl
same_within slices s (slice_line number) named = same_next slices (s.slice + 1) (first_left s.left) number named.slice
same_within slices s (set_line names) named = refl
same_within slices s (step_line start pairs) named = ap (with_clause s) (same_chain s.clauses start pairs named.literals named.clauses)
same_within slices s (close_line question clause) named = same_close s s.left question clause named.clauses named.questions
same_within slices s end_line named = refl

same_head : (line : CertLine) → after_head (kept_line line) ≡ after_head line
same_head head_line = refl
same_head (book_line name count) = refl
same_head (slice_line number) = refl
same_head (set_line names) = refl
same_head (step_line start pairs) = refl
same_head (close_line question clause) = refl
same_head end_line = refl

same_name_line : (b : Contents) (slices : ℕ) (line : CertLine) → slices < highest → after_name b slices (kept_line line) ≡ after_name b slices line
same_name_line b slices head_line few = refl
same_name_line b slices (book_line name count) few = ap (λ t. cond (same_name name b.name && t) (Ok at_slices) (Err WrongBook)) (same_test count slices few)
same_name_line b slices (slice_line number) few = refl
same_name_line b slices (set_line names) few = refl
same_name_line b slices (step_line start pairs) few = refl
same_name_line b slices (close_line question clause) few = refl
same_name_line b slices end_line few = refl

same_slices : (slices : ℕ) (line : CertLine) → after_slices slices (kept_line line) ≡ after_slices slices line
same_slices slices head_line = refl
same_slices slices (book_line name count) = refl
same_slices slices (slice_line number) = same_next slices 0 None number (omega arith)
same_slices slices (set_line names) = refl
same_slices slices (step_line start pairs) = refl
same_slices slices (close_line question clause) = refl
same_slices slices end_line = refl

same_number : (b : Contents) (slices : List Slice) (number : ℕ) (line : CertLine) → after_number b slices number (kept_line line) ≡ after_number b slices number line
same_number b slices number head_line = refl
same_number b slices number (book_line name count) = refl
same_number b slices number (slice_line k) = refl
same_number b slices number (set_line names) = refl
same_number b slices number (step_line start pairs) = refl
same_number b slices number (close_line question clause) = refl
same_number b slices number end_line = refl

same_after : (b : Contents) (slices : List Slice) (stage : Stage) (line : CertLine) → length slices < highest → AllNamed stage → after b slices stage (kept_line line) ≡ after b slices stage line
same_after b slices at_head line few named = same_head line
same_after b slices at_book line few named = same_name_line b (length slices) line few
same_after b slices at_slices line few named = same_slices (length slices) line
same_after b slices (at_set number) line few named = same_number b slices number line
same_after b slices (within s) line few named = same_within (length slices) s line named
same_after b slices at_end line few named = refl

same_is_step : (line : CertLine) → is_step (kept_line line) ≡ is_step line
same_is_step head_line = refl
same_is_step (book_line name count) = refl
same_is_step (slice_line number) = refl
same_is_step (set_line names) = refl
same_is_step (step_line start pairs) = refl
same_is_step (close_line question clause) = refl
same_is_step end_line = refl

same_unless : (b : Contents) (slices : List Slice) (stage : Stage) (fault : Option CertKind) (line : CertLine) → length slices < highest → AllNamed stage
    → and_then (unless fault (Ok (kept_line line))) (λ l. and_then (after b slices stage l) (taken_as (is_step l)))
    ≡ and_then (unless fault (Ok line)) (λ l. and_then (after b slices stage l) (taken_as (is_step l)))
same_unless b slices stage (Some fault) line few named = refl
same_unless b slices stage None line few named =
    ap (λ r. and_then r (taken_as (is_step (kept_line line)))) (same_after b slices stage line few named)
    ∙ ap (λ t. and_then (after b slices stage line) (taken_as t)) (same_is_step line)

same_taken : (b : Contents) (slices : List Slice) (stage : Stage) (line : Option CertLine) → length slices < highest → AllNamed stage
    → taken_line b slices stage (option_map kept_line line) ≡ taken_line b slices stage line
same_taken b slices stage None few named = refl
same_taken b slices stage (Some line) few named = same_unless b slices stage (past_end stage) line few named

-- where all names are kept, a line as it is read does what the line does
pub taken_kept : (b : Contents) (slices : List Slice) (stage : Stage) (text : List ℕ) → length slices < highest → AllNamed stage
    → taken_line b slices stage (line_kept text) ≡ taken_line b slices stage (cert_line text)
taken_kept b slices stage text few named = ap (taken_line b slices stage) (line_is text) ∙ same_taken b slices stage (cert_line text) few named

-- the same, of a call that takes the line as it was read
pub taken_as_read : (r : Result Taken (Fail CertKind)) (b : Contents) (slices : List Slice) (stage : Stage) (text : List ℕ) (line : Option Line) (pairs same : List Pair) → length slices < highest → AllNamed stage
    → line_kept text ≡ option_map (λ l. line_of l pairs) line → same ≡ pairs → Gives r seen (taken_line b slices stage (option_map (λ l. line_of l same) line)) → Gives r seen (taken_line b slices stage (cert_line text))
taken_as_read r b slices stage text line pairs same few named read is h =
    let same_line : option_map (λ l. line_of l same) line ≡ line_kept text = ap (λ ps. option_map (λ l. line_of l ps) line) is ∙ sym read in
    subst (λ a. Gives r seen a) (ap (taken_line b slices stage) same_line ∙ taken_kept b slices stage text few named) h
