-- How far a loop over what a slice's questions are for has come.
use Rattle.std.proofs.Common.{◌≡◌, ℕ, suc, ◌+◌, ◌<◌, List, [], ◌∷◌, ◌++◌, length, get_or, drop, map, refl, sym, ap, ◌∙◌, arith, append_assoc, drop-cons}
use Rattle.std.specs.List.{flat_map}
use Rattle.std.proofs.lemmas.List.{map-append}
use Rattle.clausify.specs.Choices.{Choice}
use Rattle.clausify.specs.Pairs.{pairs}
use Rattle.clausify.specs.Questions.{choice_questions, code_questions_from, uncovered_question}
use Rattle.clausify.specs.declared.question.Question.{Question}
use Rattle.clausify.specs.declared.question.Question.TheVariants.{Necessary, Inadmissible, Superfluous, Ambiguous}
use Rattle.clausify.proofs.Remaining.{pairs_next}

pub codes_step : (qs qs' qs'' all : List Question) (i : ℕ) (names : List (List ℕ)) → i < length names → qs ++ code_questions_from i (drop i names) ≡ all
    → qs' ≡ qs ++ Necessary i ∷ [] → qs'' ≡ qs' ++ Inadmissible i ∷ [] → qs'' ++ code_questions_from (i + 1) (drop (i + 1) names) ≡ all
codes_step qs qs' qs'' all i names within left first second =
    let rest : List Question = code_questions_from (i + 1) (drop (i + 1) names) in
    ap (λ (l : List Question). l ++ rest) (second ∙ ap (λ (l : List Question). l ++ Inadmissible i ∷ []) first)
    ∙ append_assoc (qs ++ Necessary i ∷ []) (Inadmissible i ∷ []) rest
    ∙ append_assoc qs (Necessary i ∷ []) (Inadmissible i ∷ rest)
    ∙ ap (λ (k : ℕ). qs ++ Necessary i ∷ Inadmissible i ∷ code_questions_from k (drop k names)) (let s : i + 1 ≡ suc i = omega arith in s)
    ∙ ap (λ (ns : List (List ℕ)). qs ++ code_questions_from i ns) (sym (drop-cons names i [] within))
    ∙ left

abbrev pub pair_question : ℕ → ℕ × ℕ → Question
pair_question position p = Ambiguous position p.0 p.1

with_each : (position x : ℕ) (ys : List ℕ) → map (pair_question position) (map (λ (y : ℕ). (x, y)) ys) ≡ map (λ (y : ℕ). Ambiguous position x y) ys
with_each position x [] = refl
with_each position x (y ∷ ys) = ap (λ (l : List Question). Ambiguous position x y ∷ l) (with_each position x ys)

pub pairs_step : (position : ℕ) (qs qs' all : List Question) (xs others : List ℕ) (i x : ℕ) → i < length xs → x ≡ get_or xs i x → others ≡ drop (i + 1) xs
    → qs ++ map (pair_question position) (pairs (drop i xs)) ≡ all → qs' ≡ qs ++ map (λ (y : ℕ). Ambiguous position x y) others
    → qs' ++ map (pair_question position) (pairs (drop (i + 1) xs)) ≡ all
pairs_step position qs qs' all xs others i x within read are left more =
    let rest : List Question = map (pair_question position) (pairs (drop (i + 1) xs)) in
    let own : List Question = map (λ (y : ℕ). Ambiguous position x y) (drop (i + 1) xs) in
    ap (λ (l : List Question). l ++ rest) (more ∙ ap (λ (l : List ℕ). qs ++ map (λ (y : ℕ). Ambiguous position x y) l) are)
    ∙ append_assoc qs own rest
    ∙ ap (λ (l : List Question). qs ++ l)
    (ap (λ (l : List Question). l ++ rest) (sym (with_each position x (drop (i + 1) xs)))
    ∙ sym (map-append (pair_question position) (map (λ (y : ℕ). (x, y)) (drop (i + 1) xs)) (pairs (drop (i + 1) xs)))
    ∙ ap (map (pair_question position)) (sym (pairs_next xs i x within read)))
    ∙ left

pub choices_step : (qs qs' all : List Question) (c : Choice) (rest rest' : List Choice) → rest ≡ c ∷ rest' → qs ++ flat_map choice_questions rest ≡ all
    → qs' ≡ qs ++ choice_questions c → qs' ++ flat_map choice_questions rest' ≡ all
choices_step qs qs' all c rest rest' is left more =
    ap (λ (l : List Question). l ++ flat_map choice_questions rest') more
    ∙ append_assoc qs (choice_questions c) (flat_map choice_questions rest')
    ∙ ap (λ (cs : List Choice). qs ++ flat_map choice_questions cs) (sym is)
    ∙ left

-- the questions of a choice, put down one kind after the other
pub choice_put : (qs one two three : List Question) (c : Choice) → one ≡ qs ++ map Superfluous c.variants → two ≡ one ++ map (pair_question c.position) (pairs c.variants)
    → three ≡ two ++ uncovered_question c.mandatory c.position → three ≡ qs ++ choice_questions c
choice_put qs one two three c first second third =
    let single : List Question = map Superfluous c.variants in
    let both : List Question = map (pair_question c.position) (pairs c.variants) in
    let last : List Question = uncovered_question c.mandatory c.position in
    third
    ∙ ap (λ (l : List Question). l ++ last) (second ∙ ap (λ (l : List Question). l ++ both) first)
    ∙ ap (λ (l : List Question). l ++ last) (append_assoc qs single both)
    ∙ append_assoc qs (single ++ both) last
