-- The signs that are pending, kept with the innermost last.
use Rattle.std.proofs.Common.{◌≡◌, ℕ, suc, zero, List, [], ◌∷◌, ◌++◌, reverse, refl, ap, ◌∙◌}
use Rattle.std.proofs.lemmas.List.{reverse-append}
use Rattle.pb_base.specs.Rule.{Rule, negation, negated}
use Rattle.rule_text.specs.FirstFault.{without_signs}
use Rattle.rule_text.specs.Reading.{under_signs}
use Rattle.rule_text.specs.declared.standing.Pending.{Pending}
use Rattle.rule_text.specs.declared.standing.Pending.TheVariants.{Sign}

-- a sign more, outside or inside
pub negated-more : (n : ℕ) (rule : Rule) → negation (negated n rule) ≡ negated (suc n) rule
negated-more zero rule = refl
negated-more (suc n) rule = negated-more n (negation rule)

innermost : (rest : List Pending) (p : Pending) → reverse (rest ++ p ∷ []) ≡ p ∷ reverse rest
innermost rest p = reverse-append rest (p ∷ [])

-- a sign that is taken away
pub without-sign : (all rest : List Pending) → all ≡ rest ++ Sign ∷ [] → without_signs (reverse all) ≡ without_signs (reverse rest)
without-sign all rest same = ap (λ xs. without_signs (reverse xs)) same ∙ ap without_signs (innermost rest Sign)

pub under-sign : (all rest : List Pending) (rule : Rule) → all ≡ rest ++ Sign ∷ [] → under_signs (reverse all) rule ≡ under_signs (reverse rest) (negation rule)
under-sign all rest rule same = ap (λ xs. under_signs (reverse xs) rule) same ∙ ap (λ xs. under_signs xs rule) (innermost rest Sign)
