-- Budgets that leave nothing: above 3 to the power of the number of variables of each question's clauses, since no more clauses
-- can be new. Of a text that is no book's there is nothing to leave.
--     IsAmpleFor budget text                     the questions of a check, on each day of the book's term
--     IsAmpleForRules budget text                those on its supplementing rules, on each day of the term
--     ArePositionsDecided budget day one other   those on each position of either book on the day
--     AreChangesDecided budget one other         those on what changes, on each day of both terms
--     IsAmpleForBoth budget AreDecided first second    those of the checks of both books, and then those between the two
--     IsAmpleBeside budget day names text        a search for a car of the day that has the codes of an order
--     IsAmpleForSome budget day text             one for a car of the day that has some codes, whichever they are
--     IsAmpleToMeet budget day rule text         one for a car of the day that meets the rule
--     IsAmpleToRequire budget text stated        each search for each of the requirements that the second text states of the first one's book
--     IsAmpleForFile IsAmple file input files    so it is of the input and the content of the file
use Rattle.std.specs.Prelude.{ℕ, ◌<◌, ◌≤◌, ◌^◌, List, [], ◌∷◌, Option, IfOk, IsSomeAnd, length}
use Rattle.std.specs.List.{AllByRecursion}
use Rattle.blame.specs.Blame.{blame_items}
use Rattle.blame.specs.Entries.{all_entries}
use Rattle.book_compare.specs.Asked.{asked_variables}
use Rattle.book_model.specs.Contents.{Contents}
use Rattle.book_text.specs.BookText.{book_of}
use Rattle.chosen_parts.specs.Chosen.{ids_of_either}
use Rattle.findings.specs.Left.{IsAmple}
use Rattle.item_search.specs.Search.{items_variables}
use Rattle.kept_requirements.specs.Kept.{asked_rules}
use Rattle.left_cars.specs.Left.{left_items}
use Rattle.lost_cars.specs.CommonCar.{IsCommonRule}
use Rattle.lost_cars.specs.Losses.{lost_rule, questions as loss_questions}
use Rattle.pb_base.specs.Places.{places_of}
use Rattle.pb_base.specs.Rule.{Rule, always}
use Rattle.pb_outside.specs.Files.{NamedBytes, content_of}
use Rattle.requirements.specs.Requirements.{requirements_of}
use Rattle.requirements.specs.declared.requirement.Requirement.{Requirement}
use Rattle.rule_text.specs.Reading.{rule_of}
use Rattle.rules_met.specs.Met.{asked_variables as rule_variables}
use Rattle.supplement_findings.specs.Clauses.{question_variables}
use Rattle.supplement_findings.specs.Questions.{questions}

abbrev pub IsAmpleFor : ℕ → List ℕ → Type 0
IsAmpleFor budget text = IfOk (book_of text) (λ b. IsAmple b budget)

abbrev pub AreRulesDecided : ℕ → Contents → Type 0
AreRulesDecided budget b =
    (day : ℕ) → b.first ≤ day → day ≤ b.last → AllByRecursion (λ q. 3 ^ question_variables b day q < budget) (questions b day)

abbrev pub IsAmpleForRules : ℕ → List ℕ → Type 0
IsAmpleForRules budget text = IfOk (book_of text) (AreRulesDecided budget)

abbrev pub ArePositionsDecided : ℕ → ℕ → Contents → Contents → Type 0
ArePositionsDecided budget day one other =
    AllByRecursion (λ id. 3 ^ asked_variables one other day id < budget) (ids_of_either one other)

-- each search on the day for a car of the own book that the other loses
abbrev pub AreLossesDecided : ℕ → ℕ → Contents → Contents → Type 0
AreLossesDecided budget day own other =
    AllByRecursion (λ q. 3 ^ rule_variables own day (lost_rule own other q ∷ []) < budget) (loss_questions own other)

-- for cars that are lost, cars that are won, a car of both, and one that gets other parts
pub record IsChangeDecided (budget day : ℕ) (one other : Contents) : Type 0 where
  pub lost : AreLossesDecided budget day one other
  pub won : AreLossesDecided budget day other one
  pub common : (f : Rule) → IsCommonRule one other day f → 3 ^ rule_variables one day (f ∷ []) < budget
  pub positions : ArePositionsDecided budget day one other

abbrev pub AreChangesDecided : ℕ → Contents → Contents → Type 0
AreChangesDecided budget one other =
    (day : ℕ) → one.first ≤ day → day ≤ one.last → other.first ≤ day → day ≤ other.last → IsChangeDecided budget day one other

pub record IsAmpleForBoth (budget : ℕ) (AreDecided : Contents → Contents → Type 0) (first second : List ℕ) : Type 0 where
  pub first_check : IsAmpleFor budget first
  pub second_check : IsAmpleFor budget second
  pub between : IfOk (book_of first) (λ one. IfOk (book_of second) (AreDecided one))

abbrev pub IsAmpleBeside : ℕ → ℕ → List (List ℕ) → List ℕ → Type 0
IsAmpleBeside budget day names text =
    IfOk (book_of text) (λ b. 3 ^ items_variables (length b.codes) (left_items b day (places_of b.codes names)) < budget)

-- the search for a car that has the codes and meets the rule is over so many variables
abbrev pub met_variables : Contents → ℕ → List ℕ → Rule → ℕ
met_variables b day kept rule = items_variables (length b.codes) (blame_items b (all_entries b day kept) rule)

abbrev pub IsAmpleForSome : ℕ → ℕ → List ℕ → Type 0
IsAmpleForSome budget day text = IfOk (book_of text) (λ b. (kept : List ℕ) → 3 ^ met_variables b day kept always < budget)

abbrev pub IsAmpleToMeet : ℕ → ℕ → List ℕ → List ℕ → Type 0
IsAmpleToMeet budget day rule text =
    IfOk (book_of text) (λ b. IfOk (rule_of b.codes rule) (λ f. 3 ^ met_variables b day [] f < budget))

-- each search on a day for a car that meets a rule which is asked of the requirement
abbrev pub IsDecidedOn : ℕ → Contents → Requirement → ℕ → Type 0
IsDecidedOn budget b r day = AllByRecursion (λ f. 3 ^ rule_variables b day (f ∷ []) < budget) (asked_rules b day r.claim)

-- on each day of the term
abbrev pub AreRequirementsDecided : ℕ → Contents → List Requirement → Type 0
AreRequirementsDecided budget b rs = AllByRecursion (λ r. (day : ℕ) → b.first ≤ day → day ≤ b.last → IsDecidedOn budget b r day) rs

abbrev pub IsAmpleToRequire : ℕ → List ℕ → List ℕ → Type 0
IsAmpleToRequire budget text stated = IfOk (book_of text) (λ b. IfOk (requirements_of b stated) (AreRequirementsDecided budget b))

-- the file is told and there
abbrev pub IsAmpleForFile : (List ℕ → List ℕ → Type 0) → List ℕ → List ℕ → Option (List NamedBytes) → Type 0
IsAmpleForFile IsAmple file input files = IsSomeAnd files (λ all. IsSomeAnd (content_of all file) (IsAmple input))
