-- The clauses of a slice, the number of their variables, and the literals of its goals. Variable i below n is code i, and
-- variable n is always true. All records are taken as they are active on one day.
use Rattle.std.specs.Prelude.{◌≡◌, ℕ, ◌+◌, List, ◌∷◌, ◌++◌, length}
use Rattle.book_model.specs.Contents.{Contents}
use Rattle.clausify.specs.Choices.{choices}
use Rattle.clausify.specs.Items.{construct_items, rule_items, items, encoded_items, variables_of}
use Rattle.clausify.specs.Goals.{NumberedChoice, numbered_from, goals_clauses, goals_variables, goals_asked, codes_asked_from, void_asked}
use Rattle.clausify.specs.declared.question.Asked.{Asked}
use Rattle.clausify.specs.declared.question.Coded.{Coded}

-- the first variable of the usages
abbrev pub usages_start : Contents → ℕ → ℕ
usages_start b day = length b.codes + 1 + variables_of (rule_items b day)

-- the first variable of the goals
abbrev pub goals_start : Contents → ℕ → ℕ
goals_start b day = length b.codes + 1 + variables_of (items b day)

-- the choices of the day numbered, where w is the first variable of their goals
abbrev pub numbered_at : Contents → ℕ → ℕ → List NumberedChoice
numbered_at b day w = numbered_from b (length b.codes) (usages_start b day) w (choices b day)

abbrev pub numbered_choices : Contents → ℕ → List NumberedChoice
numbered_choices b day = numbered_at b day (goals_start b day)

-- the clauses of the rules and usages
abbrev pub core_clauses : Contents → ℕ → List (List ℕ)
core_clauses b day = encoded_items (length b.codes) (length b.codes + 1) (items b day)

-- how many variables the constructibility rules alone have, with the codes and the variable that is always true
abbrev pub construct_variables : Contents → ℕ → ℕ
construct_variables b day = length b.codes + 1 + variables_of (construct_items b day)

abbrev pub slice_clauses : Contents → ℕ → List (List ℕ)
slice_clauses b day = core_clauses b day ++ goals_clauses (numbered_choices b day)

abbrev pub slice_variables : Contents → ℕ → ℕ
slice_variables b day = goals_start b day + goals_variables (numbered_choices b day)

abbrev pub slice_asked : Contents → ℕ → List Asked
slice_asked b day =
    void_asked (length b.codes) ∷ (codes_asked_from 0 b.codes ++ goals_asked (length b.codes) (numbered_choices b day))

pub record IsCoded (b : Contents) (day : ℕ) (c : Coded) : Type 0 where
  pub clauses : c.pool.clauses ≡ slice_clauses b day
  pub variables : c.vars ≡ slice_variables b day
  pub asked : c.questions.items ≡ slice_asked b day
