-- What a text of the grammar has: as many nodes as its rule, and codes of the table alone.
use Rattle.std.proofs.Common.{◌≡◌, ℕ, ◌+◌, ◌≤◌, Bool, true, false, cond, leb, ltb, List, [], ◌∷◌, ◌++◌, Option, Some, None, Ok, length, refl, sym, ap, ◌∙◌, arith}
use Rattle.std.specs.Prelude.{option_map, is_none}
use Rattle.std.specs.List.{position_or_len}
use Rattle.std.proofs.lemmas.Bool.{and_from}
use Rattle.std.proofs.lemmas.Bool.Decides.{nat_tests}
use Rattle.pb_base.specs.Rule.{Rule, code, always, never, nodes, codes_below}
use Rattle.pb_base.specs.Names.{is_code_name, place_in, same_name, true_word, false_word}
use Rattle.rule_text.specs.Token.{Token, Placed, word, plus, slash, minus, opening, closing, semicolon, tokens}
use Rattle.rule_text.specs.Grammar.{word_rule, IsFactor, IsTerm, IsExpr, IsText, a_word, a_minus, a_bracket, a_factor, a_plus, a_term, a_slash, plain, ended}
use Rattle.rule_text.specs.FirstFault.{Standing, is_node, token_fault, behind}
use Rattle.rule_text.specs.Reading.{rule_of}
use Rattle.rule_text.specs.Steps.{State, next, begin}
use Rattle.rule_text.proofs.StepLemmas.{read_from, passed, misfit, behind_end}
use Rattle.rule_text.proofs.Sound.{in_grammar, was_read, read_on}
use Rattle.rule_text.proofs.Whole.{word_node}
use Rattle.rule_text.specs.declared.standing.Stage.{Stage}
use Rattle.rule_text.specs.declared.standing.Stage.TheVariants.{Awaiting, Complete, Ended}
use Rattle.rule_text.specs.declared.standing.Pending.{Pending}
use Rattle.rule_text.specs.declared.standing.Pending.TheVariants.{Bracket}
use Rattle.rule_text.specs.declared.fault.RuleFault.{RuleFault}
use Rattle.rule_text.specs.declared.fault.RuleFault.TheVariants.{TooDeep, TooLong, UnknownCode}

abbrev standing_at : Stage → List Pending → ℕ → Standing
standing_at stage p n = record { stage = stage; pending = p; count = n }

-- how many tokens are nodes
abbrev pub node_count : List Placed → ℕ
node_count [] = 0
node_count (t ∷ ts) = cond (is_node t.1) 1 0 + node_count ts

pub node_count-append : (a b : List Placed) → node_count (a ++ b) ≡ node_count a + node_count b
node_count-append [] b = omega arith
node_count-append (t ∷ a) b = omega (arith, node_count-append a b)

mutual
  factor_nodes : (names : List (List ℕ)) (d : ℕ) (ts : List Placed) (rule : Rule) → IsFactor names d ts rule → node_count ts ≡ nodes rule
  factor_nodes names d ts rule (a_word dd at w r found) = sym (word_node names w rule found)
  factor_nodes names d ts rule (a_minus dd at inner r is_factor) = omega (arith, factor_nodes names dd inner r is_factor)
  factor_nodes names d ts rule (a_bracket dd at to inner all r is_expr joins) =
      omega (arith, expr_nodes names dd inner r is_expr, ap node_count joins, node_count-append inner ((to, closing) ∷ []))

  term_nodes : (names : List (List ℕ)) (d : ℕ) (ts : List Placed) (rule : Rule) → IsTerm names d ts rule → node_count ts ≡ nodes rule
  term_nodes names d ts rule (a_factor dd tt rr is_factor) = factor_nodes names d ts rule is_factor
  term_nodes names d ts rule (a_plus dd at front back all l r is_term is_factor joins) =
      omega (arith, term_nodes names d front l is_term, factor_nodes names d back r is_factor, ap node_count joins, node_count-append front ((at, plus) ∷ back))

  expr_nodes : (names : List (List ℕ)) (d : ℕ) (ts : List Placed) (rule : Rule) → IsExpr names d ts rule → node_count ts ≡ nodes rule
  expr_nodes names d ts rule (a_term dd tt rr is_term) = term_nodes names d ts rule is_term
  expr_nodes names d ts rule (a_slash dd at front back all l r is_expr is_term joins) =
      omega (arith, expr_nodes names d front l is_expr, term_nodes names d back r is_term, ap node_count joins, node_count-append front ((at, slash) ∷ back))

pub text_nodes : (names : List (List ℕ)) (d : ℕ) (ts : List Placed) (rule : Rule) → IsText names d ts rule → node_count ts ≡ nodes rule
text_nodes names d ts rule (plain dd tt rr is_expr) = expr_nodes names d ts rule is_expr
text_nodes names d ts rule (ended dd at inner all r is_expr joins) =
    omega (arith, expr_nodes names dd inner r is_expr, ap node_count joins, node_count-append inner ((at, semicolon) ∷ []))

-- the place of a name is below their number
place_in-below : (names : List (List ℕ)) (w : List ℕ) (place : ℕ) → place_in names w ≡ Some place → ltb place (length names) ≡ true
place_in-below names w place found = below-by (position_or_len (same_name w) names) (length names) (ltb (position_or_len (same_name w) names) (length names)) refl found
  where
    below-by : (p len : ℕ) (inside : Bool) → ltb p len ≡ inside → cond inside (Some p) None ≡ Some place → ltb place len ≡ true
    below-by p len true is_inside found = let same : p ≡ place = cc in ap (λ k. ltb k len) (sym same) ∙ is_inside
    below-by p len false is_inside found = cc

code_below : (names : List (List ℕ)) (found_at : Option ℕ) (rule : Rule) → ((place : ℕ) → found_at ≡ Some place → ltb place (length names) ≡ true)
    → option_map code found_at ≡ Some rule → codes_below (length names) rule ≡ true
code_below names None rule below found = cc
code_below names (Some place) rule below found = let same : code place ≡ rule = cc in ap (codes_below (length names)) (sym same) ∙ below place refl

word_below-by : (names : List (List ℕ)) (w : List ℕ) (rule : Rule) (a b c : Bool)
    → cond c (option_map code (place_in names w)) (cond a (Some always) (cond b (Some never) None)) ≡ Some rule → codes_below (length names) rule ≡ true
word_below-by names w rule a b true found = code_below names (place_in names w) rule (place_in-below names w) found
word_below-by names w rule true b false found = let same : always ≡ rule = cc in ap (codes_below (length names)) (sym same)
word_below-by names w rule false true false found = let same : never ≡ rule = cc in ap (codes_below (length names)) (sym same)
word_below-by names w rule false false false found = cc

word_below : (names : List (List ℕ)) (w : List ℕ) (rule : Rule) → word_rule names w ≡ Some rule → codes_below (length names) rule ≡ true
word_below names w rule found = word_below-by names w rule (same_name w true_word) (same_name w false_word) (is_code_name w) found

mutual
  factor_below : (names : List (List ℕ)) (d : ℕ) (ts : List Placed) (rule : Rule) → IsFactor names d ts rule → codes_below (length names) rule ≡ true
  factor_below names d ts rule (a_word dd at w r found) = word_below names w rule found
  factor_below names d ts rule (a_minus dd at inner r is_factor) = factor_below names dd inner r is_factor
  factor_below names d ts rule (a_bracket dd at to inner all r is_expr joins) = expr_below names dd inner r is_expr

  term_below : (names : List (List ℕ)) (d : ℕ) (ts : List Placed) (rule : Rule) → IsTerm names d ts rule → codes_below (length names) rule ≡ true
  term_below names d ts rule (a_factor dd tt rr is_factor) = factor_below names d ts rule is_factor
  term_below names d ts rule (a_plus dd at front back all l r is_term is_factor joins) =
      and_from (codes_below (length names) l) (codes_below (length names) r) (term_below names d front l is_term) (factor_below names d back r is_factor)

  expr_below : (names : List (List ℕ)) (d : ℕ) (ts : List Placed) (rule : Rule) → IsExpr names d ts rule → codes_below (length names) rule ≡ true
  expr_below names d ts rule (a_term dd tt rr is_term) = term_below names d ts rule is_term
  expr_below names d ts rule (a_slash dd at front back all l r is_expr is_term joins) =
      and_from (codes_below (length names) l) (codes_below (length names) r) (expr_below names d front l is_expr) (term_below names d back r is_term)

text_below : (names : List (List ℕ)) (d : ℕ) (ts : List Placed) (rule : Rule) → IsText names d ts rule → codes_below (length names) rule ≡ true
text_below names d ts rule (plain dd tt rr is_expr) = expr_below names d ts rule is_expr
text_below names d ts rule (ended dd at inner all r is_expr joins) = expr_below names dd inner r is_expr

-- the codes of a rule that was read are in the table
pub rule_of-codes : (names : List (List ℕ)) (text : List ℕ) (rule : Rule) → rule_of names text ≡ Ok rule → codes_below (length names) rule ≡ true
rule_of-codes names text rule is_read = text_below names 64 (tokens text) rule (in_grammar names text rule is_read)

long_test : (n : ℕ) (fault : RuleFault) (long : Bool) → leb 512 n ≡ long → cond long (Some fault) None ≡ None → n + 1 ≤ 512
long_test n fault true is_long none = cc
long_test n fault false is_long none = grind (arith, nat_tests)

-- a token that passes its tests is counted, and the count keeps its limit
counted_next : (names : List (List ℕ)) (stage : Stage) (p : List Pending) (n at : ℕ) (t : Token) → token_fault names (standing_at stage p n) (at, t) ≡ None → n ≤ 512
    → (behind (standing_at stage p n) t).count ≤ 512
counted_next names Awaiting p n at (word w) none within =
    long_test n (TooLong at) (leb 512 n) refl (passed (is_none (word_rule names w)) (UnknownCode at) (cond (leb 512 n) (Some (TooLong at)) None) none).1
counted_next names Awaiting p n at minus none within =
    long_test n (TooLong at) (leb 512 n) refl (passed (leb 64 (length p)) (TooDeep at) (cond (leb 512 n) (Some (TooLong at)) None) none).1
counted_next names Awaiting p n at opening none within = within
counted_next names Complete p n at plus none within = long_test n (TooLong at) (leb 512 n) refl none
counted_next names Complete p n at slash none within = long_test n (TooLong at) (leb 512 n) refl none
counted_next names Complete (Bracket ∷ p) n at closing none within = within
counted_next names Complete [] n at semicolon none within = within
counted_next names Ended p n at t none within = absurd (behind_end _ _ _ none)
counted_next names stage p n at t none within = absurd (misfit _ none)

counted_all : (names : List (List ℕ)) (end : ℕ) (ts : List Placed) (s : State) (rule : Rule)
    → read_from names end s ts ≡ Ok rule → s.standing.count ≤ 512 → s.standing.count + node_count ts ≤ 512
counted_all names end [] s rule is_read within = omega arith
counted_all names end (t ∷ ts) s rule is_read within =
    let parts = read_on names end s t ts rule (token_fault names s.standing t) refl is_read in
    let within_next = counted_next names s.standing.stage s.standing.pending s.standing.count t.0 t.1 parts.0 within in
    let rest = counted_all names end ts (next names s t.1) rule parts.1 within_next in
    omega (arith, rest, counted_by (is_node t.1) s.standing.count)
  where
    counted_by : (node : Bool) (n : ℕ) → cond node (n + 1) n ≡ n + cond node 1 0
    counted_by true n = refl
    counted_by false n = omega arith

-- a rule that was read has at most 512 nodes
pub rule_of-nodes : (names : List (List ℕ)) (text : List ℕ) (rule : Rule) → rule_of names text ≡ Ok rule → nodes rule ≤ 512
rule_of-nodes names text rule is_read =
    let counted = counted_all names (length text) (tokens text) begin rule (was_read names text rule is_read) (omega arith) in
    omega (arith, counted, text_nodes names 64 (tokens text) rule (in_grammar names text rule is_read))
