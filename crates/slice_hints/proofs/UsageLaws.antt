-- What the kept truths of the variants' formulas say.
use Rattle.std.proofs.Common.{◌≡◌, ℕ, zero, suc, ◌<◌, Bool, not, ◌&&◌, ◌||◌, List, [], ◌∷◌, length, map, get_or, refl, ap, ◌∙◌, arith}
use Rattle.std.specs.List.{filter, list_any, slice_get}
use Rattle.std.specs.Option.{option_map_or}
use Rattle.pb_base.specs.Rule.{Rule, negation, both, never, holds}
use Rattle.book_model.specs.Contents.{Contents}
use Rattle.book_model.specs.declared.record.Variant.{Variant}
use Rattle.clausify.specs.Choices.{usage}
use Rattle.clausify.specs.Questions.{and_none, none_rule}

-- some kept element passes just where some element is kept and passes
pub any_of_kept : (kept p : ℕ → Bool) (xs : List ℕ) → list_any p (filter kept xs) ≡ list_any (λ x. kept x && p x) xs
any_of_kept kept p [] = refl
any_of_kept kept p (x ∷ xs) = grind (arith, any_of_kept kept p xs)

usage_in : (vs : List Variant) (x : List Bool) (v : ℕ) (d : Bool) → v < length vs
    → get_or (map (λ (r : Variant). holds r.rule x) vs) v d ≡ holds (option_map_or (λ (r : Variant). r.rule) (slice_get vs v) never) x
usage_in [] x v d below = absurd (omega arith)
usage_in (r ∷ vs) x zero d below = refl
usage_in (r ∷ vs) x (suc v) d below = usage_in vs x v d (omega arith)

and_none_holds : (x : List Bool) (f : Rule) (fs : List Rule) → holds (and_none f fs) x ≡ (holds f x && not (list_any (λ (g : Rule). holds g x) fs))
and_none_holds x f [] = grind arith
and_none_holds x f (g ∷ gs) = and_none_holds x (both f (negation g)) gs ∙ grind arith

pub none_rule_holds : (x : List Bool) (fs : List Rule) → holds (none_rule fs) x ≡ not (list_any (λ (g : Rule). holds g x) fs)
none_rule_holds x [] = refl
none_rule_holds x (f ∷ fs) = and_none_holds x (negation f) fs ∙ grind arith

any_of_map : (b : Contents) (x : List Bool) (vs : List ℕ) → list_any (λ (g : Rule). holds g x) (map (usage b) vs) ≡ list_any (λ v. holds (usage b v) x) vs
any_of_map b x [] = refl
any_of_map b x (v ∷ vs) = ap (λ (t : Bool). holds (usage b v) x || t) (any_of_map b x vs)

pub none_used : (b : Contents) (x : List Bool) (vs : List ℕ) → holds (none_rule (map (usage b) vs)) x ≡ not (list_any (λ v. holds (usage b v) x) vs)
none_used b x vs = none_rule_holds x (map (usage b) vs) ∙ ap not (any_of_map b x vs)
