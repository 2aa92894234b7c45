-- The names of the codes in a set, one after the other.
use Rattle.std.proofs.Common.{◌≡◌, ◌<◌, ℕ, ◌+◌, Bool, List, [], ◌∷◌, ◌++◌, length, get_or, drop, ap, ◌∙◌, subst, append_assoc}
use Rattle.std.specs.Prelude.{Option, IfSome, slice_get}
use Rattle.std.proofs.lemmas.List.{drop_more}
use Rattle.std.proofs.lemmas.Option.{slice_get-get_or}
use Rattle.pb_base.specs.NamesText.{named, names_from}

-- a text to which the names from i on belong, after one name more
pub names_from-step : (x : List Bool) (names : List (List ℕ)) (i : ℕ) (text text' whole : List ℕ) → i < length names → IfSome (slice_get names i) (λ name. text' ≡ text ++ named x i name) → text ++ names_from i x (drop i names) ≡ whole → text' ++ names_from (i + 1) x (drop (i + 1) names) ≡ whole
names_from-step x names i text text' whole in_range put so_far =
    let name : List ℕ = get_or names i [] in
    let rest : List ℕ = names_from (i + 1) x (drop (i + 1) names) in
    let put_this : text' ≡ text ++ named x i name = subst (λ (o : Option (List ℕ)). IfSome o (λ n. text' ≡ text ++ named x i n)) (slice_get-get_or names i [] in_range) put in
    let with_this : text ++ names_from i x (name ∷ drop (i + 1) names) ≡ whole = subst (λ (ns : List (List ℕ)). text ++ names_from i x ns ≡ whole) (drop_more names i [] in_range) so_far in
    ap (λ (t : List ℕ). t ++ rest) put_this ∙ append_assoc text (named x i name) rest ∙ with_this
