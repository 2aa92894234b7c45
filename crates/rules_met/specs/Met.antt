-- Which rules some car of a day meets.
--     meets_rule b day f x     the set is good on the day and meets the rule
--     asked_clauses b day fs   the clauses of the day's rules, and then those of these rules, of which nothing is claimed
--     asked_literals b day fs  the literal of each of these rules
--     IsLeftOn b day budget f  the search for a car that meets the rule, over the clauses of the day's rules and of this one, was left
--     IsAnswer b day budget f answer    what is answered of the rule
use Rattle.std.specs.Prelude.{◌≡◌, ℕ, ◌+◌, ◌^◌, ◌≤◌, Bool, true, false, ◌&&◌, List, [], ◌∷◌, ◌++◌, length, map, IsTrue}
use Rattle.pb_base.specs.Node.{size}
use Rattle.pb_base.specs.Rule.{Rule, codes_below, holds}
use Rattle.book_model.specs.Contents.{Contents}
use Rattle.book_model.specs.Good.{is_good}
use Rattle.clausify.specs.Coded.{usages_start}
use Rattle.clausify.specs.Formulas.{formula_literal, literals_from}
use Rattle.clausify.specs.Items.{Item, free_item, encoded_items, rule_items, variables_of}
use Rattle.solver.specs.Answer.{IsSpent}
use Rattle.rules_met.specs.declared.answer.RuleAnswer.{RuleAnswer}
use Rattle.rules_met.specs.declared.answer.RuleAnswer.TheVariants.{Met, NotMet, Left}

abbrev pub meets_rule : Contents → ℕ → Rule → List Bool → Bool
meets_rule b day f x = is_good b day x && holds f x

abbrev pub asked_items : Contents → ℕ → List Rule → List Item
asked_items b day fs = rule_items b day ++ map free_item fs

abbrev pub asked_clauses : Contents → ℕ → List Rule → List (List ℕ)
asked_clauses b day fs = encoded_items (length b.codes) (length b.codes + 1) (asked_items b day fs)

abbrev pub asked_variables : Contents → ℕ → List Rule → ℕ
asked_variables b day fs = length b.codes + 1 + variables_of (asked_items b day fs)

abbrev pub asked_literals : Contents → ℕ → List Rule → List ℕ
asked_literals b day fs = literals_from (length b.codes) (usages_start b day) fs

-- as many clauses as the budget allows were learnt, each of which says what propagation didn't
pub record IsLeftOn (b : Contents) (day budget : ℕ) (f : Rule) : Type 0 where
  pub learnt : List (List ℕ)
  pub spent : IsSpent (asked_variables b day (f ∷ [])) (asked_clauses b day (f ∷ [])) (formula_literal (length b.codes) (usages_start b day) f ∷ []) budget learnt

-- no set of the book's codes meets it
abbrev pub MetByNone : Contents → ℕ → Rule → Type 0
MetByNone b day f = (x : List Bool) → length x ≡ length b.codes → meets_rule b day f x ≡ false

abbrev pub IsAnswer : Contents → ℕ → ℕ → Rule → RuleAnswer → Type 0
IsAnswer b day budget f (Met x) = (length x ≡ length b.codes) × (meets_rule b day f x ≡ true)
IsAnswer b day budget f NotMet = MetByNone b day f
IsAnswer b day budget f Left = IsLeftOn b day budget f

-- a set of the book's codes
abbrev pub IsCounted : Contents → List Bool → Type 0
IsCounted b x = length x ≡ length b.codes

-- a rule over so many codes that can be asked
pub record RuleIsSmall (codes : ℕ) (f : Rule) : Type 0 where
  pub in_range : IsTrue (codes_below codes f)
  pub small : size f ≤ 2 ^ 30
