-- The lines of codes, one after the other.
use Rattle.std.proofs.Common.{◌≡◌, ◌<◌, ℕ, ◌+◌, Bool, List, [], ◌∷◌, ◌++◌, length, get_or, drop, ap, ◌∙◌, subst, append_assoc}
use Rattle.std.specs.Prelude.{Option, IfSome, slice_get}
use Rattle.std.proofs.lemmas.List.{drop_more}
use Rattle.std.proofs.lemmas.Option.{slice_get-get_or}
use Rattle.left_cars.specs.declared.states.CodeState.{CodeState}
use Rattle.free_answers.specs.FreeText.{line_at, lines_from}

-- a text to which the lines from i on belong, after one line more
pub lines_from-step : (x : List Bool) (states : List CodeState) (names : List (List ℕ)) (i : ℕ) (text text' whole : List ℕ) → i < length names
    → IfSome (slice_get names i) (λ name. text' ≡ text ++ line_at x states i name) → text ++ lines_from i x states (drop i names) ≡ whole
    → text' ++ lines_from (i + 1) x states (drop (i + 1) names) ≡ whole
lines_from-step x states names i text text' whole in_range put so_far =
    let name : List ℕ = get_or names i [] in
    let rest : List ℕ = lines_from (i + 1) x states (drop (i + 1) names) in
    let put_this : text' ≡ text ++ line_at x states i name =
    subst (λ (o : Option (List ℕ)). IfSome o (λ n. text' ≡ text ++ line_at x states i n)) (slice_get-get_or names i [] in_range) put in
    let with_this : text ++ lines_from i x states (name ∷ drop (i + 1) names) ≡ whole =
    subst (λ (ns : List (List ℕ)). text ++ lines_from i x states ns ≡ whole) (drop_more names i [] in_range) so_far in
    ap (λ (t : List ℕ). t ++ rest) put_this ∙ append_assoc text (line_at x states i name) rest ∙ with_this
