-- The clauses of questions on supplementing rules: those of the day's constructibility rules, then those of further formulas, and
-- then for each question those of its goal, of which a new variable asks that all are met. Variable i below the number of codes is
-- code i, and the next is always true. A question alone has the formulas that it is about, coded as clausify does. Where several share
-- the clauses, what the constructibility rules ask of a set with a code is one formula, which all questions on rules that add the code
-- share, and a chain of connectives takes one variable (wide_clauses).
--     own b day q                  the formulas that the question is about, in the order in which they get their literals
--     question_lits b day v q      their literals, where v is the first variable that they take
--     unbroken b day code          the set with the code breaks no constructibility rule, over sets that break none without
--     shared_rules b day codes qs  that of each of the codes, and the other formulas of questions
--     goal_clauses w lits          where variable w is true, the goal of a question with these literals is met
--     question_clauses b day q     the whole, of one question alone
--     together_clauses b day codes qs    and of several
--     questions_clauses b day codes qs   of one alone, or of any other number of them
use Rattle.std.specs.Prelude.{ℕ, ◌+◌, ◌==◌, true, false, List, [], ◌∷◌, ◌++◌, Option, None, Some, length, map, if◌then◌else◌}
use Rattle.std.specs.List.{flat_map}
use Rattle.pb_base.specs.Leaves.{with_present}
use Rattle.pb_base.specs.Rule.{Rule, both, always}
use Rattle.book_model.specs.Contents.{Contents}
use Rattle.book_model.specs.declared.record.Supplement.{Supplement}
use Rattle.clause_pool.specs.Literal.{literal, complement}
use Rattle.clause_pool.specs.Clause.{clause_of}
use Rattle.clausify.specs.Coded.{construct_variables}
use Rattle.clausify.specs.Formulas.{connectives, formula_literal, literals_from}
use Rattle.clausify.specs.Items.{Item, construct_items, free_item, encoded_items, variables_of}
use Rattle.wide_clauses.specs.Chains.{wide_literal, wide_variables}
use Rattle.wide_clauses.specs.WideItems.{taken_by, wide_items, wide_literals}
use Rattle.supplement_findings.specs.Questions.{rule_at}
use Rattle.supplement_findings.specs.Touching.{afters}
use Rattle.supplement_findings.specs.declared.lits.QuestionLits.{QuestionLits}
use Rattle.supplement_findings.specs.declared.lits.QuestionLits.TheVariants.{BreaksLits, SwapsLits}
use Rattle.supplement_findings.specs.declared.question.SupplementQuestion.{SupplementQuestion}
use Rattle.supplement_findings.specs.declared.question.SupplementQuestion.TheVariants.{Breaks, Swaps}

-- the formula of the rule, and what each constructibility rule that its code touches asks of the set with the code
abbrev pub breaks_own : Contents → ℕ → Supplement → List Rule
breaks_own b day s = s.rule ∷ afters b day s.code

-- both formulas, and then each with the code of the other rule read as present, the second first
abbrev pub swaps_own : Supplement → Supplement → List Rule
swaps_own s t = s.rule ∷ t.rule ∷ with_present s.code t.rule ∷ with_present t.code s.rule ∷ []

abbrev pub own : Contents → ℕ → SupplementQuestion → List Rule
own b day (Breaks place) = breaks_own b day (rule_at b place)
own b day (Swaps first second) = swaps_own (rule_at b first) (rule_at b second)

-- how many variables the formulas of the question take
abbrev pub own_variables : Contents → ℕ → SupplementQuestion → ℕ
own_variables b day q = variables_of (map free_item (own b day q))

abbrev pub breaks_lits : Contents → ℕ → ℕ → Supplement → QuestionLits
breaks_lits b day v s =
    BreaksLits (formula_literal (length b.codes) v s.rule) s.code
    (literals_from (length b.codes) (v + connectives s.rule) (afters b day s.code))

abbrev pub swaps_lits : ℕ → ℕ → Supplement → Supplement → QuestionLits
swaps_lits n v s t =
    SwapsLits (formula_literal n v s.rule) s.code (formula_literal n (v + connectives s.rule) t.rule) t.code
    (formula_literal n (v + connectives s.rule + connectives t.rule) (with_present s.code t.rule))
    (formula_literal n (v + connectives s.rule + connectives t.rule + connectives (with_present s.code t.rule)) (with_present t.code s.rule))

abbrev pub question_lits : Contents → ℕ → ℕ → SupplementQuestion → QuestionLits
question_lits b day v (Breaks place) = breaks_lits b day v (rule_at b place)
question_lits b day v (Swaps first second) = swaps_lits (length b.codes) v (rule_at b first) (rule_at b second)

-- one of each of these literals has to be true: the rule's formula is true and its code absent, and not all that is asked of the set
-- with the code is true; or both rules' formulas are true and their codes absent, and not both formulas stay true
abbrev pub goal_parts : QuestionLits → List (List ℕ)
goal_parts (BreaksLits rule added afterwards) = (rule ∷ []) ∷ (literal added false ∷ []) ∷ map complement afterwards ∷ []
goal_parts (SwapsLits first first_added second second_added second_afterwards first_afterwards) =
    (first ∷ []) ∷ (literal first_added false ∷ []) ∷ (second ∷ []) ∷ (literal second_added false ∷ [])
    ∷ (complement second_afterwards ∷ complement first_afterwards ∷ []) ∷ []

abbrev pub goal_clauses : ℕ → QuestionLits → List (List ℕ)
goal_clauses w lits = map (λ ls. clause_of (literal w false ∷ ls)) (goal_parts lits)

-- the goals of several, each behind the other
abbrev pub all_goal_clauses : ℕ → List QuestionLits → List (List ℕ)
all_goal_clauses w [] = []
all_goal_clauses w (lits ∷ later) = goal_clauses w lits ++ all_goal_clauses (w + 1) later

-- the rule f and all of these, grouped to the left
abbrev pub and_all : Rule → List Rule → Rule
and_all f [] = f
and_all f (g ∷ gs) = and_all (both f g) gs

abbrev pub all_rule : List Rule → Rule
all_rule [] = always
all_rule (f ∷ fs) = and_all f fs

-- the formula so far and all of these
abbrev pub and_rest : Option Rule → List Rule → Rule
and_rest None fs = all_rule fs
and_rest (Some f) fs = and_all f fs

abbrev pub unbroken : Contents → ℕ → ℕ → Rule
unbroken b day code = all_rule (afters b day code)

abbrev pub unbroken_rules : Contents → ℕ → List ℕ → List Rule
unbroken_rules b day codes = map (unbroken b day) codes

-- the formulas of a question besides that of its code
abbrev pub other_own : Contents → SupplementQuestion → List Rule
other_own b (Breaks place) = (rule_at b place).rule ∷ []
other_own b (Swaps first second) = swaps_own (rule_at b first) (rule_at b second)

abbrev pub other_variables : Contents → SupplementQuestion → ℕ
other_variables b q = taken_by (map free_item (other_own b q))

abbrev pub all_other : Contents → List SupplementQuestion → List Rule
all_other b qs = flat_map (other_own b) qs

abbrev pub shared_rules : Contents → ℕ → List ℕ → List SupplementQuestion → List Rule
shared_rules b day codes qs = unbroken_rules b day codes ++ all_other b qs

-- the literal that stands with a code
abbrev pub literal_with : List ℕ → List ℕ → ℕ → ℕ
literal_with [] lits code = 0
literal_with (k ∷ codes) [] code = 0
literal_with (k ∷ codes) (l ∷ lits) code = if k == code then l else literal_with codes lits code

abbrev pub together_swaps : ℕ → ℕ → Supplement → Supplement → QuestionLits
together_swaps n v s t =
    SwapsLits (wide_literal n v s.rule) s.code (wide_literal n (v + wide_variables s.rule) t.rule) t.code
    (wide_literal n (v + wide_variables s.rule + wide_variables t.rule) (with_present s.code t.rule))
    (wide_literal n (v + wide_variables s.rule + wide_variables t.rule + wide_variables (with_present s.code t.rule)) (with_present t.code s.rule))

-- the literals of a question, where those of the codes are known
abbrev pub other_lits : Contents → List ℕ → List ℕ → ℕ → SupplementQuestion → QuestionLits
other_lits b codes known v (Breaks place) =
    BreaksLits (wide_literal (length b.codes) v (rule_at b place).rule) (rule_at b place).code
    (literal_with codes known (rule_at b place).code ∷ [])
other_lits b codes known v (Swaps first second) = together_swaps (length b.codes) v (rule_at b first) (rule_at b second)

abbrev pub all_other_lits : Contents → List ℕ → List ℕ → ℕ → List SupplementQuestion → List QuestionLits
all_other_lits b codes known v [] = []
all_other_lits b codes known v (q ∷ qs) = other_lits b codes known v q ∷ all_other_lits b codes known (v + other_variables b q) qs

abbrev pub unbroken_taken : Contents → ℕ → List ℕ → ℕ
unbroken_taken b day codes = taken_by (map free_item (unbroken_rules b day codes))

-- and where each connective takes one
abbrev pub unbroken_variables : Contents → ℕ → List ℕ → ℕ
unbroken_variables b day codes = variables_of (map free_item (unbroken_rules b day codes))

-- where v is the first variable of the formulas
abbrev pub shared_lits : Contents → ℕ → List ℕ → ℕ → List SupplementQuestion → List QuestionLits
shared_lits b day codes v qs =
    all_other_lits b codes (wide_literals (length b.codes) v (unbroken_rules b day codes)) (v + unbroken_taken b day codes) qs

abbrev pub together_items : Contents → ℕ → List ℕ → List SupplementQuestion → List Item
together_items b day codes qs = construct_items b day ++ map free_item (shared_rules b day codes qs)

-- the first variable of the formulas, and that of the first goal; those of the other goals follow
abbrev pub shared_start : Contents → ℕ → ℕ
shared_start b day = length b.codes + 1 + taken_by (construct_items b day)

abbrev pub together_start : Contents → ℕ → List ℕ → List SupplementQuestion → ℕ
together_start b day codes qs = length b.codes + 1 + taken_by (together_items b day codes qs)

abbrev pub together_clauses : Contents → ℕ → List ℕ → List SupplementQuestion → List (List ℕ)
together_clauses b day codes qs =
    wide_items (length b.codes) (together_items b day codes qs)
    ++ all_goal_clauses (together_start b day codes qs) (shared_lits b day codes (shared_start b day) qs)

abbrev pub together_variables : Contents → ℕ → List ℕ → List SupplementQuestion → ℕ
together_variables b day codes qs = together_start b day codes qs + length qs

-- a question alone has its own formulas
abbrev pub asked_items : Contents → ℕ → List Rule → List Item
asked_items b day rules = construct_items b day ++ map free_item rules

-- the variable of its goal
abbrev pub goals_start : Contents → ℕ → List Rule → ℕ
goals_start b day rules = length b.codes + 1 + variables_of (asked_items b day rules)

abbrev pub goals_clauses : Contents → ℕ → List Rule → List QuestionLits → List (List ℕ)
goals_clauses b day rules goals =
    encoded_items (length b.codes) (length b.codes + 1) (asked_items b day rules)
    ++ all_goal_clauses (goals_start b day rules) goals

abbrev pub question_clauses : Contents → ℕ → SupplementQuestion → List (List ℕ)
question_clauses b day q = goals_clauses b day (own b day q) (question_lits b day (construct_variables b day) q ∷ [])

abbrev pub question_variables : Contents → ℕ → SupplementQuestion → ℕ
question_variables b day q = goals_start b day (own b day q) + 1

abbrev pub question_goal : Contents → ℕ → SupplementQuestion → ℕ
question_goal b day q = literal (goals_start b day (own b day q)) true

-- of one alone, or of any other number of them
abbrev pub questions_clauses : Contents → ℕ → List ℕ → List SupplementQuestion → List (List ℕ)
questions_clauses b day codes [] = together_clauses b day codes []
questions_clauses b day codes (q ∷ []) = question_clauses b day q
questions_clauses b day codes (p ∷ q ∷ qs) = together_clauses b day codes (p ∷ q ∷ qs)

abbrev pub questions_variables : Contents → ℕ → List ℕ → List SupplementQuestion → ℕ
questions_variables b day codes [] = together_variables b day codes []
questions_variables b day codes (q ∷ []) = question_variables b day q
questions_variables b day codes (p ∷ q ∷ qs) = together_variables b day codes (p ∷ q ∷ qs)

-- the variable of the first goal
abbrev pub asked_start : Contents → ℕ → List ℕ → List SupplementQuestion → ℕ
asked_start b day codes [] = together_start b day codes []
asked_start b day codes (q ∷ []) = goals_start b day (own b day q)
asked_start b day codes (p ∷ q ∷ qs) = together_start b day codes (p ∷ q ∷ qs)
