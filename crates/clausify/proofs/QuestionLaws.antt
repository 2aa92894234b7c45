-- The questions that are asked, in order, are those of the slice.
use Rattle.std.proofs.Common.{◌≡◌, ℕ, suc, ◌+◌, Bool, true, false, List, [], ◌∷◌, ◌++◌, length, map, refl, ap, ◌∙◌}
use Rattle.std.specs.List.{flat_map}
use Rattle.std.proofs.lemmas.List.{map-append}
use Rattle.book_model.specs.Contents.{Contents}
use Rattle.clausify.specs.Formulas.{connectives}
use Rattle.clausify.specs.Items.{variables_of, usage_item}
use Rattle.clausify.specs.Choices.{Choice, choices, usage}
use Rattle.clausify.specs.Questions.{questions, choice_questions, uncovered_question, code_questions_from}
use Rattle.clausify.specs.Pairs.{pairs}
use Rattle.clausify.specs.Goals.{usages_from, pairs_asked, superfluous_asked, uncovered_asked, choice_asked, choice_variables, numbered_from, goals_asked, codes_asked_from}
use Rattle.clausify.specs.Coded.{usages_start, goals_start, slice_asked}
use Rattle.clausify.specs.declared.question.Asked.{Asked}
use Rattle.clausify.specs.declared.question.Question.{Question}
use Rattle.clausify.specs.declared.question.Question.TheVariants.{Void, Necessary, Inadmissible, Superfluous, Ambiguous}
use Rattle.clausify.specs.declared.usage.Usage.{Usage}

abbrev question_of : Asked → Question
question_of q = q.question

abbrev variant_of : Usage → ℕ
variant_of u = u.variant

codes_in_order : (i : ℕ) (names : List (List ℕ)) → map question_of (codes_asked_from i names) ≡ code_questions_from i names
codes_in_order i [] = refl
codes_in_order i (name ∷ names) = ap (λ (qs : List Question). Necessary i ∷ Inadmissible i ∷ qs) (codes_in_order (suc i) names)

variants_in_order : (b : Contents) (n v : ℕ) (variants : List ℕ) → map variant_of (usages_from b n v variants) ≡ variants
variants_in_order b n v [] = refl
variants_in_order b n v (variant ∷ variants) = ap (λ (vs : List ℕ). variant ∷ vs) (variants_in_order b n (v + connectives (usage b variant)) variants)

superfluous_in_order : (us : List Usage) → map question_of (map superfluous_asked us) ≡ map Superfluous (map variant_of us)
superfluous_in_order [] = refl
superfluous_in_order (u ∷ us) = ap (λ (qs : List Question). Superfluous u.variant ∷ qs) (superfluous_in_order us)

abbrev ambiguous : ℕ → ℕ × ℕ → Question
ambiguous position p = Ambiguous position p.0 p.1

abbrev variants_of_pair : Usage × Usage → ℕ × ℕ
variants_of_pair p = (p.0.variant, p.1.variant)

pairs_in_order : (position v : ℕ) (ps : List (Usage × Usage)) → map question_of (pairs_asked position v ps) ≡ map (ambiguous position) (map variants_of_pair ps)
pairs_in_order position v [] = refl
pairs_in_order position v (p ∷ ps) = ap (λ (qs : List Question). Ambiguous position p.0.variant p.1.variant ∷ qs) (pairs_in_order position (v + 1) ps)

pairs_with_first : (u : Usage) (us : List Usage) → map variants_of_pair (map (λ (y : Usage). (u, y)) us) ≡ map (λ (y : ℕ). (u.variant, y)) (map variant_of us)
pairs_with_first u [] = refl
pairs_with_first u (y ∷ us) = ap (λ (ps : List (ℕ × ℕ)). (u.variant, y.variant) ∷ ps) (pairs_with_first u us)

pairs_of_variants : (us : List Usage) → map variants_of_pair (pairs us) ≡ pairs (map variant_of us)
pairs_of_variants [] = refl
pairs_of_variants (u ∷ us) =
    map-append variants_of_pair (map (λ (y : Usage). (u, y)) us) (pairs us)
    ∙ ap (λ (ps : List (ℕ × ℕ)). ps ++ map variants_of_pair (pairs us)) (pairs_with_first u us)
    ∙ ap (λ (ps : List (ℕ × ℕ)). map (λ (y : ℕ). (u.variant, y)) (map variant_of us) ++ ps) (pairs_of_variants us)

uncovered_in_order : (n w position : ℕ) (mandatory : Bool) (us : List Usage) → map question_of (uncovered_asked n w position mandatory us) ≡ uncovered_question mandatory position
uncovered_in_order n w position true us = refl
uncovered_in_order n w position false us = refl

choice_in_order : (n w : ℕ) (c : Choice) (us : List Usage) → map variant_of us ≡ c.variants → map question_of (choice_asked n w c.position c.mandatory us) ≡ choice_questions c
choice_in_order n w c us are =
    let last : List Asked = uncovered_asked n (w + length (pairs us)) c.position c.mandatory us in
    map-append question_of (map superfluous_asked us ++ pairs_asked c.position w (pairs us)) last
    ∙ ap (λ (qs : List Question). qs ++ map question_of last) (map-append question_of (map superfluous_asked us) (pairs_asked c.position w (pairs us)))
    ∙ ap (λ (qs : List Question). qs ++ map question_of (pairs_asked c.position w (pairs us)) ++ map question_of last) (superfluous_in_order us ∙ ap (map Superfluous) are)
    ∙ ap (λ (qs : List Question). map Superfluous c.variants ++ qs ++ map question_of last)
    (pairs_in_order c.position w (pairs us) ∙ ap (map (ambiguous c.position)) (pairs_of_variants us ∙ ap (λ (vs : List ℕ). pairs vs) are))
    ∙ ap (λ (qs : List Question). map Superfluous c.variants ++ map (ambiguous c.position) (pairs c.variants) ++ qs) (uncovered_in_order n (w + length (pairs us)) c.position c.mandatory us)

choices_in_order : (b : Contents) (n v w : ℕ) (cs : List Choice) → map question_of (goals_asked n (numbered_from b n v w cs)) ≡ flat_map choice_questions cs
choices_in_order b n v w [] = refl
choices_in_order b n v w (c ∷ cs) =
    let us : List Usage = usages_from b n v c.variants in
    let rest : List Asked = goals_asked n (numbered_from b n (v + variables_of (map (usage_item b) c.variants)) (w + choice_variables c.mandatory us) cs) in
    map-append question_of (choice_asked n w c.position c.mandatory us) rest
    ∙ ap (λ (qs : List Question). qs ++ map question_of rest) (choice_in_order n w c us (variants_in_order b n v c.variants))
    ∙ ap (λ (qs : List Question). choice_questions c ++ qs) (choices_in_order b n (v + variables_of (map (usage_item b) c.variants)) (w + choice_variables c.mandatory us) cs)

pub asked_in_order : (b : Contents) (day : ℕ) → map (λ (q : Asked). q.question) (slice_asked b day) ≡ questions b day
asked_in_order b day =
    let rest : List Asked = goals_asked (length b.codes) (numbered_from b (length b.codes) (usages_start b day) (goals_start b day) (choices b day)) in
    ap (λ (qs : List Question). Void ∷ qs)
    (map-append question_of (codes_asked_from 0 b.codes) rest
    ∙ ap (λ (qs : List Question). qs ++ map question_of rest) (codes_in_order 0 b.codes)
    ∙ ap (λ (qs : List Question). code_questions_from 0 b.codes ++ qs) (choices_in_order b (length b.codes) (usages_start b day) (goals_start b day) (choices b day)))
