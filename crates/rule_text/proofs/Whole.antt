-- What is in the grammar is read, unless it meets a limit.
use Rattle.std.proofs.Common.{◌≡◌, ℕ, suc, ◌+◌, ◌<◌, ◌≤◌, ◌⊎◌, inl, inr, Bool, true, false, cond, leb, List, [], ◌∷◌, ◌++◌, Option, Some, None, Result, Ok, Err, refl, sym, ap, subst, length, ◌∙◌, append_assoc, arith}
use Rattle.std.specs.Prelude.{option_map}
use Rattle.std.specs.List.{list_all}
use Rattle.std.proofs.lemmas.List.{append-nil}
use Rattle.std.proofs.lemmas.Bool.{and_parts}
use Rattle.std.proofs.lemmas.Bool.Decides.{nat_tests}
use Rattle.pb_base.specs.Rule.{Rule, code, negation, either, always, never, nodes}
use Rattle.pb_base.specs.Names.{is_code_name, place_in, same_name, true_word, false_word}
use Rattle.rule_text.specs.Token.{Placed, plus, slash, opening, closing, semicolon, is_blank, tokens, tokens_from}
use Rattle.rule_text.specs.Grammar.{word_rule, IsFactor, IsTerm, IsExpr, IsText, a_word, a_minus, a_bracket, a_factor, a_plus, a_term, a_slash, plain, ended}
use Rattle.rule_text.specs.FirstFault.{without_signs}
use Rattle.pb_base.specs.Results.{unless}
use Rattle.rule_text.specs.Reading.{Open, nothing, whole, with_factor, under_signs, rule_of}
use Rattle.rule_text.specs.Steps.{State, begin}
use Rattle.rule_text.specs.declared.standing.Stage.TheVariants.{Awaiting, Complete}
use Rattle.rule_text.specs.declared.standing.Pending.{Pending}
use Rattle.rule_text.specs.declared.standing.Pending.TheVariants.{Bracket, Sign}
use Rattle.rule_text.specs.declared.fault.RuleFault.{RuleFault}
use Rattle.rule_text.specs.declared.fault.RuleFault.TheVariants.{Expected, TooDeep, TooLong}
use Rattle.rule_text.proofs.TokenLemmas.{blank-skips}
use Rattle.rule_text.proofs.StepLemmas.{read_from, rule_of-read}

-- the answer names a limit that a text of this depth and this many nodes does not keep
abbrev pub MeetsLimit : ℕ → ℕ → Result Rule RuleFault → Type 0
MeetsLimit depth count answer = ((at : ℕ) × (answer ≡ Err (TooDeep at)) × (64 < depth)) ⊎ ((at : ℕ) × (answer ≡ Err (TooLong at)) × (512 < count))

-- the answer is the expected one, or a limit is met
abbrev Outcome : Result Rule RuleFault → Result Rule RuleFault → ℕ → ℕ → Type 0
Outcome answer expected depth count = (answer ≡ expected) ⊎ MeetsLimit depth count answer

-- a limit that is met at one place is met where the limits are asked for more
limit-weaker : (x y : Result Rule RuleFault) (d e m n : ℕ) → x ≡ y → d ≤ e → m ≤ n → MeetsLimit d m y → MeetsLimit e n x
limit-weaker x y d e m n same deeper longer (inl deep) = inl (deep.0, same ∙ deep.1, omega (arith, deep.2))
limit-weaker x y d e m n same deeper longer (inr long) = inr (long.0, same ∙ long.1, omega (arith, long.2))

-- one reading after another
and_then : (x y z : Result Rule RuleFault) (d e f m n k : ℕ) → d ≤ f → m ≤ k → e ≤ f → n ≤ k → Outcome x y d m → Outcome y z e n → Outcome x z f k
and_then x y z d e f m n k h1 h2 h3 h4 (inl same) (inl then) = inl (same ∙ then)
and_then x y z d e f m n k h1 h2 h3 h4 (inl same) (inr limit) = inr (limit-weaker x y e f n k same h3 h4 limit)
and_then x y z d e f m n k h1 h2 h3 h4 (inr limit) second = inr (limit-weaker x x d f m k refl h1 h2 limit)

-- the same outcome between equal answers, and where the limits are asked for more
along : (x u y z : Result Rule RuleFault) (d e m n : ℕ) → u ≡ x → y ≡ z → d ≤ e → m ≤ n → Outcome x y d m → Outcome u z e n
along x u y z d e m n first last deeper longer (inl same) = inl (first ∙ same ∙ last)
along x u y z d e m n first last deeper longer (inr limit) = inr (limit-weaker u x d e m n first deeper longer limit)

-- the tests of a limit
short-by : (n at d : ℕ) (answer : Result Rule RuleFault) (long : Bool) → leb 512 n ≡ long
    → Outcome (unless (cond long (Some (TooLong at)) None) answer) answer d (n + 1)
short-by n at d answer true long = inr (inr (at, refl, grind (arith, nat_tests)))
short-by n at d answer false long = inl refl

short : (n at d : ℕ) (answer : Result Rule RuleFault) → Outcome (unless (cond (leb 512 n) (Some (TooLong at)) None) answer) answer d (n + 1)
short n at d answer = short-by n at d answer (leb 512 n) refl

shallow-by : (k n at : ℕ) (answer : Result Rule RuleFault) (deep : Bool) → leb 64 k ≡ deep
    → Outcome (unless (cond deep (Some (TooDeep at)) None) answer) answer (k + 1) n
shallow-by k n at answer true deep = inr (inl (at, refl, grind (arith, nat_tests)))
shallow-by k n at answer false deep = inl refl

shallow : (k n at : ℕ) (answer : Result Rule RuleFault) → Outcome (unless (cond (leb 64 k) (Some (TooDeep at)) None) answer) answer (k + 1) n
shallow k n at answer = shallow-by k n at answer (leb 64 k) refl

sign-by : (k n at : ℕ) (answer : Result Rule RuleFault) (deep : Bool) → leb 64 k ≡ deep
    → Outcome (unless (cond deep (Some (TooDeep at)) (cond (leb 512 n) (Some (TooLong at)) None)) answer) answer (k + 1) (n + 1)
sign-by k n at answer true deep = inr (inl (at, refl, grind (arith, nat_tests)))
sign-by k n at answer false deep = short n at (k + 1) answer

sign : (k n at : ℕ) (answer : Result Rule RuleFault)
    → Outcome (unless (cond (leb 64 k) (Some (TooDeep at)) (cond (leb 512 n) (Some (TooLong at)) None)) answer) answer (k + 1) (n + 1)
sign k n at answer = sign-by k n at answer (leb 64 k) refl

-- a word is one node
code_node : (place : Option ℕ) (rule : Rule) → option_map code place ≡ Some rule → nodes rule ≡ 1
code_node None rule found = cc
code_node (Some place) rule found = let same : code place ≡ rule = cc in ap nodes (sym same)

word_node-by : (names : List (List ℕ)) (w : List ℕ) (rule : Rule) (a b c : Bool)
    → cond c (option_map code (place_in names w)) (cond a (Some always) (cond b (Some never) None)) ≡ Some rule → nodes rule ≡ 1
word_node-by names w rule a b true found = code_node (place_in names w) rule found
word_node-by names w rule true b false found = let same : always ≡ rule = cc in ap nodes (sym same)
word_node-by names w rule false true false found = let same : never ≡ rule = cc in ap nodes (sym same)
word_node-by names w rule false false false found = cc

pub word_node : (names : List (List ℕ)) (w : List ℕ) (rule : Rule) → word_rule names w ≡ Some rule → nodes rule ≡ 1
word_node names w rule found = word_node-by names w rule (same_name w true_word) (same_name w false_word) (is_code_name w) found

-- a factor is awaited, and one was read
abbrev awaiting : List Pending → ℕ → Open → List Open → State
awaiting p n e outer = record { standing = record { stage = Awaiting; pending = p; count = n }; read = record { innermost = e; outer = outer } }

abbrev complete_at : List Pending → ℕ → Open → List Open → State
complete_at p n e outer = record { standing = record { stage = Complete; pending = p; count = n }; read = record { innermost = e; outer = outer } }

abbrev after_terms : Option Rule → Open
after_terms left = record { left = left; product = None }

-- no sign is pending
abbrev IsClear : List Pending → Type 0
IsClear [] = Unit {0}
IsClear (Bracket ∷ p) = Unit {0}
IsClear (Sign ∷ p) = ⊥

clear-stays : (p : List Pending) → IsClear p → without_signs p ≡ p
clear-stays [] clear = refl
clear-stays (Bracket ∷ p) clear = refl
clear-stays (Sign ∷ p) clear = absurd clear

clear-adds : (p : List Pending) (rule : Rule) → IsClear p → under_signs p rule ≡ rule
clear-adds [] rule clear = refl
clear-adds (Bracket ∷ p) rule clear = refl
clear-adds (Sign ∷ p) rule clear = absurd clear

-- where an expression begins, what is read of it
record ExprReads (names : List (List ℕ)) (end d n : ℕ) (p : List Pending) (outer : List Open) (ts : List Placed) (rule : Rule) : Type 0 where
  read : Open
  is_rule : whole read ≡ rule
  outcome : (rest : List Placed) → Outcome (read_from names end (awaiting p n nothing outer) (ts ++ rest))
      (read_from names end (complete_at p (n + nodes rule) read outer) rest) (length p + d) (n + nodes rule)

-- a factor under no sign
under_none : (names : List (List ℕ)) (end d m : ℕ) (answer : Result Rule RuleFault) (rule : Rule) (p : List Pending) → IsClear p → (e : Open) (outer : List Open) (rest : List Placed)
    → Outcome answer (read_from names end (complete_at (without_signs p) m (with_factor e (under_signs p rule)) outer) rest) d m
    → Outcome answer (read_from names end (complete_at p m (with_factor e rule) outer) rest) d m
under_none names end d m answer rule p clear e outer rest outcome =
    along _ _ _ _ d d m m refl
    (ap (λ q. read_from names end (complete_at q m (with_factor e (under_signs p rule)) outer) rest) (clear-stays p clear)
    ∙ ap (λ factor. read_from names end (complete_at p m (with_factor e factor) outer) rest) (clear-adds p rule clear)) (omega arith) (omega arith) outcome

mutual
  factor_reads : (names : List (List ℕ)) (end d : ℕ) (ts : List Placed) (rule : Rule) → IsFactor names d ts rule
      → (p : List Pending) (n : ℕ) (e : Open) (outer : List Open) (rest : List Placed)
      → Outcome (read_from names end (awaiting p n e outer) (ts ++ rest))
      (read_from names end (complete_at (without_signs p) (n + nodes rule) (with_factor e (under_signs p rule)) outer) rest) (length p + d) (n + nodes rule)
  factor_reads names end d ts rule (a_word dd at w r found) p n e outer rest =
      rw (found, word_node names w rule found)
      (short n at (length p + d) (read_from names end (complete_at (without_signs p) (n + 1) (with_factor e (under_signs p rule)) outer) rest))
  factor_reads names end d ts rule (a_minus dd at inner r is_factor) p n e outer rest =
      let then = factor_reads names end dd inner r is_factor (Sign ∷ p) (n + 1) e outer rest in
      let count : (n + 1) + nodes r ≡ n + (nodes r + 1) = omega arith in
      and_then _ _ _ (length p + 1) (length p + suc dd) (length p + suc dd) (n + 1) (n + (nodes r + 1)) (n + (nodes r + 1)) (omega arith) (omega arith) (omega arith) (omega arith)
      (sign (length p) n at (read_from names end (awaiting (Sign ∷ p) (n + 1) e outer) (inner ++ rest)))
      (along _ _ _ _ (suc (length p) + dd) (length p + suc dd) ((n + 1) + nodes r) (n + (nodes r + 1)) refl
      (ap (λ k. read_from names end (complete_at (without_signs p) k (with_factor e (under_signs p (negation r))) outer) rest) count) (omega arith) (omega arith) then)
  factor_reads names end d ts rule (a_bracket dd at to inner all r is_expr joins) p n e outer rest =
      let whole_text = ap (λ ts. ts ++ rest) joins ∙ ap (λ ts. (at, opening) ∷ ts) (append_assoc inner ((to, closing) ∷ []) rest) in
      let inside = expr_reads names end dd inner r is_expr (Bracket ∷ p) tt n (e ∷ outer) in
      along _ _ _ _ (length p + suc dd) (length p + suc dd) (n + nodes r) (n + nodes r)
      (ap (read_from names end (awaiting p n e outer)) whole_text)
      (ap (λ factor. read_from names end (complete_at (without_signs p) (n + nodes r) (with_factor e (under_signs p factor)) outer) rest) inside.is_rule) (omega arith) (omega arith)
      (and_then _ _ _ (length p + 1) (suc (length p) + dd) (length p + suc dd) n (n + nodes r) (n + nodes r) (omega arith) (omega arith) (omega arith) (omega arith)
      (shallow (length p) n at (read_from names end (awaiting (Bracket ∷ p) n nothing (e ∷ outer)) (inner ++ (to, closing) ∷ rest)))
      (inside.outcome ((to, closing) ∷ rest)))

  term_reads : (names : List (List ℕ)) (end d : ℕ) (ts : List Placed) (rule : Rule) → IsTerm names d ts rule
      → (p : List Pending) → IsClear p → (n : ℕ) (left : Option Rule) (outer : List Open) (rest : List Placed)
      → Outcome (read_from names end (awaiting p n (after_terms left) outer) (ts ++ rest))
      (read_from names end (complete_at p (n + nodes rule) (record { left = left; product = Some rule }) outer) rest) (length p + d) (n + nodes rule)
  term_reads names end d ts rule (a_factor dd tt rr is_factor) p clear n left outer rest =
      under_none names end (length p + d) (n + nodes rule) _ rule p clear (after_terms left) outer rest
      (factor_reads names end d ts rule is_factor p n (after_terms left) outer rest)
  term_reads names end d ts rule (a_plus dd at front back all l r is_term is_factor joins) p clear n left outer rest =
      let whole_text = ap (λ ts. ts ++ rest) joins ∙ append_assoc front ((at, plus) ∷ back) rest in
      let e : Open = record { left = left; product = Some l } in
      let count : ((n + nodes l) + 1) + nodes r ≡ n + (nodes l + nodes r + 1) = omega arith in
      let last = along _ _ _ _ (length p + d) (length p + d) (((n + nodes l) + 1) + nodes r) (n + (nodes l + nodes r + 1)) refl
      (ap (λ k. read_from names end (complete_at p k (with_factor e r) outer) rest) count) (omega arith) (omega arith)
      (under_none names end (length p + d) (((n + nodes l) + 1) + nodes r) _ r p clear e outer rest
      (factor_reads names end d back r is_factor p ((n + nodes l) + 1) e outer rest)) in
      along _ _ _ _ (length p + d) (length p + d) (n + (nodes l + nodes r + 1)) (n + (nodes l + nodes r + 1))
      (ap (read_from names end (awaiting p n (after_terms left) outer)) whole_text) refl (omega arith) (omega arith)
      (and_then _ _ _ (length p + d) (length p + d) (length p + d) (n + nodes l) (n + (nodes l + nodes r + 1)) (n + (nodes l + nodes r + 1)) (omega arith) (omega arith) (omega arith) (omega arith)
      (term_reads names end d front l is_term p clear n left outer ((at, plus) ∷ (back ++ rest)))
      (and_then _ _ _ (length p + d) (length p + d) (length p + d) ((n + nodes l) + 1) (n + (nodes l + nodes r + 1)) (n + (nodes l + nodes r + 1)) (omega arith) (omega arith) (omega arith) (omega arith)
      (short (n + nodes l) at (length p + d) (read_from names end (awaiting p ((n + nodes l) + 1) e outer) (back ++ rest)))
      last))

  expr_reads : (names : List (List ℕ)) (end d : ℕ) (ts : List Placed) (rule : Rule) → IsExpr names d ts rule
      → (p : List Pending) → IsClear p → (n : ℕ) (outer : List Open) → ExprReads names end d n p outer ts rule
  expr_reads names end d ts rule (a_term dd tt rr is_term) p clear n outer = record {
    read = record { left = None; product = Some rule };
    is_rule = refl;
    outcome = λ rest. term_reads names end d ts rule is_term p clear n None outer rest;
  }
  expr_reads names end d ts rule (a_slash dd at front back all l r is_expr is_term joins) p clear n outer =
      let e = expr_reads names end d front l is_expr p clear n outer in
      let count : ((n + nodes l) + 1) + nodes r ≡ n + (nodes l + nodes r + 1) = omega arith in
      let last = λ (rest : List Placed). along _ _ _ _ (length p + d) (length p + d) (((n + nodes l) + 1) + nodes r) (n + (nodes l + nodes r + 1)) refl
      (ap (λ k. read_from names end (complete_at p k (record { left = Some (whole e.read); product = Some r }) outer) rest) count) (omega arith) (omega arith)
      (term_reads names end d back r is_term p clear ((n + nodes l) + 1) (Some (whole e.read)) outer rest) in
      record {
        read = record { left = Some (whole e.read); product = Some r };
        is_rule = ap (λ x. either x r) e.is_rule;
        outcome = λ rest.
            along _ _ _ _ (length p + d) (length p + d) (n + (nodes l + nodes r + 1)) (n + (nodes l + nodes r + 1))
            (ap (read_from names end (awaiting p n nothing outer)) (ap (λ ts. ts ++ rest) joins ∙ append_assoc front ((at, slash) ∷ back) rest)) refl (omega arith) (omega arith)
            (and_then _ _ _ (length p + d) (length p + d) (length p + d) (n + nodes l) (n + (nodes l + nodes r + 1)) (n + (nodes l + nodes r + 1)) (omega arith) (omega arith) (omega arith) (omega arith)
            (e.outcome ((at, slash) ∷ (back ++ rest)))
            (and_then _ _ _ (length p + d) (length p + d) (length p + d) ((n + nodes l) + 1) (n + (nodes l + nodes r + 1)) (n + (nodes l + nodes r + 1)) (omega arith) (omega arith) (omega arith) (omega arith)
            (short (n + nodes l) at (length p + d) (read_from names end (awaiting p ((n + nodes l) + 1) (after_terms (Some (whole e.read))) outer) (back ++ rest)))
            (last rest)));
      }

-- from the start of a text to its end
expr_text : (names : List (List ℕ)) (end d : ℕ) (ts : List Placed) (rule : Rule) → IsExpr names d ts rule → Outcome (read_from names end begin ts) (Ok rule) d (nodes rule)
expr_text names end d ts rule is_expr =
    let e = expr_reads names end d ts rule is_expr [] tt 0 [] in
    along _ _ _ _ (0 + d) d (0 + nodes rule) (nodes rule) (ap (read_from names end begin) (sym (append-nil ts))) (ap Ok e.is_rule) (omega arith) (omega arith) (e.outcome [])

ended_text : (names : List (List ℕ)) (end at d : ℕ) (ts : List Placed) (rule : Rule) → IsExpr names d ts rule
    → Outcome (read_from names end begin (ts ++ (at, semicolon) ∷ [])) (Ok rule) d (nodes rule)
ended_text names end at d ts rule is_expr =
    let e = expr_reads names end d ts rule is_expr [] tt 0 [] in
    along _ _ _ _ (0 + d) d (0 + nodes rule) (nodes rule) refl (ap Ok e.is_rule) (omega arith) (omega arith) (e.outcome ((at, semicolon) ∷ []))

text_tokens : (names : List (List ℕ)) (end d : ℕ) (ts : List Placed) (rule : Rule) → IsText names d ts rule → Outcome (read_from names end begin ts) (Ok rule) d (nodes rule)
text_tokens names end d ts rule (plain dd tt rr is_expr) = expr_text names end d ts rule is_expr
text_tokens names end d ts rule (ended dd at inner all rr is_expr joins) =
    along _ _ _ _ d d (nodes rule) (nodes rule) (ap (read_from names end begin) joins) refl (omega arith) (omega arith) (ended_text names end at d inner rule is_expr)

-- a text of the grammar isn't all blanks
no_tokens : (end d : ℕ) (rule : Rule) → Outcome (Err (Expected end)) (Ok rule) d (nodes rule) → ⊥
no_tokens end d rule (inl same) = cc
no_tokens end d rule (inr (inl deep)) = let e = deep.1 in cc
no_tokens end d rule (inr (inr long)) = let e = long.1 in cc

blanks_tokens : (text : List ℕ) (at : ℕ) → list_all is_blank text ≡ true → tokens_from false at text ≡ []
blanks_tokens [] at blank = refl
blanks_tokens (b ∷ text) at blank =
    let parts = and_parts (is_blank b) (list_all is_blank text) blank in
    blank-skips b at text parts.0 ∙ blanks_tokens text (at + 1) parts.1

text_reads-by : (names : List (List ℕ)) (text : List ℕ) (d : ℕ) (rule : Rule) (blank : Bool) → list_all is_blank text ≡ blank → IsText names d (tokens text) rule
    → (rule_of names text ≡ Ok rule) ⊎ MeetsLimit d (nodes rule) (rule_of names text)
text_reads-by names text d rule true blank is_text =
    absurd (no_tokens (length text) d rule (subst (λ ts. Outcome (read_from names (length text) begin ts) (Ok rule) d (nodes rule)) (blanks_tokens text 0 blank)
    (text_tokens names (length text) d (tokens text) rule is_text)))
text_reads-by names text d rule false blank is_text =
    along _ _ _ _ d d (nodes rule) (nodes rule) (sym (rule_of-read names text blank)) refl (omega arith) (omega arith) (text_tokens names (length text) d (tokens text) rule is_text)

-- a text of the grammar is read as its rule, unless it meets a limit
pub complete : (names : List (List ℕ)) (text : List ℕ) (depth : ℕ) (rule : Rule) → IsText names depth (tokens text) rule
    → (rule_of names text ≡ Ok rule) ⊎ MeetsLimit depth (nodes rule) (rule_of names text)
complete names text d rule is_text = text_reads-by names text d rule (list_all is_blank text) refl is_text

keeps : (answer : Result Rule RuleFault) (d : ℕ) (rule : Rule) → d ≤ 64 → nodes rule ≤ 512 → (answer ≡ Ok rule) ⊎ MeetsLimit d (nodes rule) answer → answer ≡ Ok rule
keeps answer d rule shallow_enough short_enough (inl same) = same
keeps answer d rule shallow_enough short_enough (inr (inl deep)) = absurd (omega (arith, deep.2))
keeps answer d rule shallow_enough short_enough (inr (inr long)) = absurd (omega (arith, long.2))

-- one that keeps the limits meets none
pub reads : (names : List (List ℕ)) (text : List ℕ) (depth : ℕ) (rule : Rule) → IsText names depth (tokens text) rule → depth ≤ 64 → nodes rule ≤ 512
    → rule_of names text ≡ Ok rule
reads names text d rule is_text shallow_enough short_enough = keeps (rule_of names text) d rule shallow_enough short_enough (complete names text d rule is_text)
