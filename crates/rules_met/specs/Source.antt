-- Rules as questions, each by its place.
--     rule_at fs place       the rule at the place
--     rules_at fs places     those at these places
--     AreRules b fs          a book, and rules over its codes
--     form b day fs          what is computed of these questions
--     answer_for told place  what is answered of the rule at the place, where this is told of it and those behind it
--     count answer           how much is told of such a rule
use Rattle.std.specs.Prelude.{ℕ, Bool, ◌==◌, ◌+◌, List, [], ◌∷◌, All, length, map, slice_index_or, if◌then◌else◌}
use Rattle.pb_base.specs.Node.{size}
use Rattle.pb_base.specs.Rule.{Rule, never}
use Rattle.book_model.specs.Book.{IsBook}
use Rattle.book_model.specs.Contents.{Contents}
use Rattle.clausify.specs.Coded.{usages_start}
use Rattle.inquiry.specs.Form.{Form}
use Rattle.inquiry.specs.declared.told.Told.{Told}
use Rattle.inquiry.specs.declared.told.Told.TheVariants.{Finding, Undecided}
use Rattle.rules_met.specs.Met.{RuleIsSmall, meets_rule, asked_clauses, asked_variables, asked_literals}
use Rattle.rules_met.specs.declared.answer.RuleAnswer.{RuleAnswer}
use Rattle.rules_met.specs.declared.answer.RuleAnswer.TheVariants.{Met, NotMet, Left}

abbrev pub rule_at : List Rule → ℕ → Rule
rule_at fs place = slice_index_or fs place never

abbrev pub rules_at : List Rule → List ℕ → List Rule
rules_at fs places = map (rule_at fs) places

pub record AreRules (b : Contents) (fs : List Rule) : Type 0 where
  pub book : IsBook b
  pub small : All (RuleIsSmall (length b.codes)) fs

abbrev pub form : Contents → ℕ → List Rule → Form ℕ
form b day fs = record {
  codes = length b.codes;
  shows = λ place x. meets_rule b day (rule_at fs place) x;
  clauses = λ places. asked_clauses b day (rules_at fs places);
  variables = λ places. asked_variables b day (rules_at fs places);
  goals = λ places. asked_literals b day (rules_at fs places);
  shared = usages_start b day;
  size = λ place. size (rule_at fs place);
}

abbrev pub answer_by : Told ℕ → ℕ → RuleAnswer
answer_by (Finding question set) place = if question == place then Met set else NotMet
answer_by (Undecided question learnt) place = if question == place then Left else NotMet

abbrev pub answer_for : List (Told ℕ) → ℕ → RuleAnswer
answer_for [] place = NotMet
answer_for (own ∷ told) place = answer_by own place

abbrev pub count : RuleAnswer → ℕ
count (Met x) = 1
count NotMet = 0
count Left = 1
