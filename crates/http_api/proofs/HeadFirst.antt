-- A response is its head, and then its body, if that is not left out.
use Rattle.std.proofs.Common.{◌≡◌, ℕ, ◌+◌, Bool, true, false, List, [], ◌++◌, length, sym, ap, ◌∙◌, append_assoc, length-append}
use Rattle.std.specs.Prelude.{if◌then◌else◌}
use Rattle.http_api.specs.declared.opening.Opening.{Opening}
use Rattle.http_api.specs.Response.{head_of, response}

-- a text that was empty has the head of a body of two parts
pub head_put : (o : Opening) (line rest none text : List ℕ) → none ≡ [] → text ≡ none ++ head_of o (length line + length rest) → text ≡ head_of o (length (line ++ rest))
head_put o line rest none text empty put =
    put ∙ ap (λ (t : List ℕ). t ++ head_of o (length line + length rest)) empty ∙ ap (head_of o) (sym (length-append line rest))

-- the second part stands behind the head and the first one
pub rest_behind : (o : Opening) (line rest seen front text : List ℕ) (bare : Bool) → bare ≡ false → seen ≡ rest
    → front ≡ head_of o (length (line ++ seen)) ++ (if bare then [] else line) → text ≡ front ++ rest → text ≡ response o (line ++ rest) bare
rest_behind o line rest seen front text true whole same first all = let clash : true ≡ false = whole in cc
rest_behind o line rest seen front text false whole same first all =
    all
    ∙ ap (λ (f : List ℕ). f ++ rest) first
    ∙ ap (λ (s : List ℕ). (head_of o (length (line ++ s)) ++ line) ++ rest) same
    ∙ append_assoc (head_of o (length (line ++ rest))) line rest
