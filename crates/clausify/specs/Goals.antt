-- The literals of the goals, and the clauses of those that take variables of their own: the goals of two variants together,
-- and of none of a position's variants.
use Rattle.std.specs.Prelude.{ℕ, suc, ◌+◌, ◌-◌, Bool, true, false, List, [], ◌∷◌, ◌++◌, length, map, if◌then◌else◌}
use Rattle.std.specs.List.{flat_map}
use Rattle.book_model.specs.Contents.{Contents}
use Rattle.clause_pool.specs.Literal.{literal, complement}
use Rattle.clausify.specs.Formulas.{connectives, formula_literal, both_clauses}
use Rattle.clausify.specs.Items.{variables_of, usage_item}
use Rattle.clausify.specs.Choices.{Choice, usage}
use Rattle.clausify.specs.Pairs.{pairs}
use Rattle.clausify.specs.declared.question.Asked.{Asked}
use Rattle.clausify.specs.declared.question.Question.TheVariants.{Void, Necessary, Inadmissible, Superfluous, Ambiguous, Uncovered}
use Rattle.clausify.specs.declared.usage.Usage.{Usage}

-- the variants with the literals of their usages, where v is the first variable that these take
abbrev pub usages_from : Contents → ℕ → ℕ → List ℕ → List Usage
usages_from b n v [] = []
usages_from b n v (variant ∷ variants) =
    record { variant = variant; literal = formula_literal n v (usage b variant) } ∷ usages_from b n (v + connectives (usage b variant)) variants

-- each pair takes the next variable
abbrev pub pair_clauses : ℕ → List (Usage × Usage) → List (List ℕ)
pair_clauses v [] = []
pair_clauses v (p ∷ ps) = both_clauses v p.0.literal p.1.literal ++ pair_clauses (v + 1) ps

abbrev pub pairs_asked : ℕ → ℕ → List (Usage × Usage) → List Asked
pairs_asked position v [] = []
pairs_asked position v (p ∷ ps) =
    record { question = Ambiguous position p.0.variant p.1.variant; goal = literal v true } ∷ pairs_asked position (v + 1) ps

-- what has the literal l, and none of these: each takes the next variable
abbrev pub none_clauses : ℕ → ℕ → List Usage → List (List ℕ)
none_clauses v l [] = []
none_clauses v l (u ∷ us) = both_clauses v l (complement u.literal) ++ none_clauses (v + 1) (literal v true) us

abbrev pub none_literal : ℕ → ℕ → List Usage → ℕ
none_literal v l [] = l
none_literal v l (u ∷ us) = none_literal (v + 1) (literal v true) us

abbrev pub uncovered_clauses : ℕ → List Usage → List (List ℕ)
uncovered_clauses v [] = []
uncovered_clauses v (u ∷ us) = none_clauses v (complement u.literal) us

abbrev pub uncovered_literal : ℕ → ℕ → List Usage → ℕ
uncovered_literal n v [] = literal n true
uncovered_literal n v (u ∷ us) = none_literal v (complement u.literal) us

-- those of one choice, with its usages
abbrev pub choice_variables : Bool → List Usage → ℕ
choice_variables mandatory us = length (pairs us) + (if mandatory then length us - 1 else 0)

abbrev pub choice_clauses : ℕ → Bool → List Usage → List (List ℕ)
choice_clauses v mandatory us = pair_clauses v (pairs us) ++ (if mandatory then uncovered_clauses (v + length (pairs us)) us else [])

abbrev pub superfluous_asked : Usage → Asked
superfluous_asked u = record { question = Superfluous u.variant; goal = u.literal }

abbrev pub uncovered_asked : ℕ → ℕ → ℕ → Bool → List Usage → List Asked
uncovered_asked n v position mandatory us =
    if mandatory then record { question = Uncovered position; goal = uncovered_literal n v us } ∷ [] else []

abbrev pub choice_asked : ℕ → ℕ → ℕ → Bool → List Usage → List Asked
choice_asked n v position mandatory us =
    map superfluous_asked us ++ pairs_asked position v (pairs us) ++ uncovered_asked n (v + length (pairs us)) position mandatory us

-- the usages of all choices, where v is the first variable that they take
abbrev pub all_usages : Contents → ℕ → ℕ → List Choice → List Usage
all_usages b n v [] = []
all_usages b n v (c ∷ cs) = usages_from b n v c.variants ++ all_usages b n (v + variables_of (map (usage_item b) c.variants)) cs

-- a choice with its variants' usages and the first variable of its goals
pub record NumberedChoice : Type 0 where
  pub position : ℕ
  pub mandatory : Bool
  pub usages : List Usage
  pub goals_from : ℕ

-- the choices numbered, where v is the first variable of their usages and w the first of their goals
abbrev pub numbered_from : Contents → ℕ → ℕ → ℕ → List Choice → List NumberedChoice
numbered_from b n v w [] = []
numbered_from b n v w (c ∷ cs) =
    let us = usages_from b n v c.variants in
    record { position = c.position; mandatory = c.mandatory; usages = us; goals_from = w }
    ∷ numbered_from b n (v + variables_of (map (usage_item b) c.variants)) (w + choice_variables c.mandatory us) cs

-- what the goals of numbered choices take and make
abbrev pub goals_variables : List NumberedChoice → ℕ
goals_variables [] = 0
goals_variables (c ∷ cs) = choice_variables c.mandatory c.usages + goals_variables cs

abbrev pub goals_clauses : List NumberedChoice → List (List ℕ)
goals_clauses cs = flat_map (λ c. choice_clauses c.goals_from c.mandatory c.usages) cs

abbrev pub goals_asked : ℕ → List NumberedChoice → List Asked
goals_asked n cs = flat_map (λ c. choice_asked n c.goals_from c.position c.mandatory c.usages) cs

abbrev pub codes_asked_from : ℕ → List (List ℕ) → List Asked
codes_asked_from i [] = []
codes_asked_from i (name ∷ names) =
    record { question = Necessary i; goal = literal i false } ∷ record { question = Inadmissible i; goal = literal i true }
    ∷ codes_asked_from (suc i) names

abbrev pub void_asked : ℕ → Asked
void_asked n = record { question = Void; goal = literal n true }
