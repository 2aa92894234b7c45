-- What one field more adds to what is known.
use Rattle.std.proofs.Common.{◌≡◌, ◌∙◌, ◌&&◌, ◌||◌, ℕ, Bool, true, false, cond, List, [], ◌∷◌, ◌++◌, refl, sym, ap, subst, append-nil}
use Rattle.std.specs.Prelude.{Some, None}
use Rattle.std.specs.List.{list_any, cons_option}
use Rattle.std.proofs.lemmas.List.Elements.{filter_map-append}
use Rattle.std.proofs.lemmas.List.Folds.{list_any-append}
use Rattle.http_wire.specs.Fields.{Field, same_word, value_if_named, values_of}
use Rattle.http_wire.specs.Few.{IsFew}
use Rattle.http_wire.specs.declared.few.Few.{Few}

-- the values with one field more
values_after : (word : List ℕ) (fields : List Field) (name value : List ℕ) (is_named : Bool) → same_word name word ≡ is_named
    → values_of word (fields ++ (name, value) ∷ []) ≡ values_of word fields ++ cons_option (cond is_named (Some value) None) []
values_after word fields name value is_named named =
    filter_map-append (value_if_named word) fields ((name, value) ∷ [])
    ∙ ap (λ (t : Bool). values_of word fields ++ cons_option (cond t (Some value) None) []) named

pub values_with : (word : List ℕ) (fields : List Field) (name value : List ℕ) → same_word name word ≡ true
    → values_of word (fields ++ (name, value) ∷ []) ≡ values_of word fields ++ value ∷ []
values_with word fields name value named = values_after word fields name value true named

pub values_without : (word : List ℕ) (fields : List Field) (name value : List ℕ) → same_word name word ≡ false
    → values_of word (fields ++ (name, value) ∷ []) ≡ values_of word fields
values_without word fields name value other = values_after word fields name value false other ∙ append-nil (values_of word fields)

pub few_with : (word : List ℕ) (fields : List Field) (name value : List ℕ) (few : Few) → same_word name word ≡ true
    → IsFew (values_of word fields ++ value ∷ []) few → IsFew (values_of word (fields ++ (name, value) ∷ [])) few
few_with word fields name value few named is_few = subst (λ (values : List (List ℕ)). IsFew values few) (sym (values_with word fields name value named)) is_few

pub few_without : (word : List ℕ) (fields : List Field) (name value : List ℕ) (few : Few) → same_word name word ≡ false
    → IsFew (values_of word fields) few → IsFew (values_of word (fields ++ (name, value) ∷ [])) few
few_without word fields name value few other is_few = subst (λ (values : List (List ℕ)). IsFew values few) (sym (values_without word fields name value other)) is_few

or_false : (t : Bool) → t ≡ (t || false)
or_false true = refl
or_false false = refl

pub any_field : (test : List ℕ → Bool) (word : List ℕ) (fields : List Field) (name value : List ℕ) (known here : Bool)
    → known ≡ list_any test (values_of word fields) → here ≡ (same_word name word && test value)
    → (known || here) ≡ list_any test (values_of word (fields ++ (name, value) ∷ []))
any_field test word fields name value known here is_known is_here =
    ap (λ (k : Bool). k || here) is_known ∙ ap (λ (t : Bool). list_any test (values_of word fields) || t) (is_here ∙ last (same_word name word))
    ∙ sym (list_any-append test (values_of word fields) (cons_option (cond (same_word name word) (Some value) None) []))
    ∙ ap (λ (values : List (List ℕ)). list_any test values) (sym (values_after word fields name value (same_word name word) refl))
  where
    last : (named : Bool) → (named && test value) ≡ list_any test (cons_option (cond named (Some value) None) [])
    last true = or_false (test value)
    last false = refl
