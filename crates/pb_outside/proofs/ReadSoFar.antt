-- A source that is read piece by piece.
use Rattle.std.proofs.Common.{◌≡◌, ◌≤◌, ℕ, List, [], ◌++◌, length, take, drop, refl, sym, ap, ◌∙◌, subst, append_assoc, append-nil}
use Rattle.std.specs.Prelude.{Option, Some, None, IfSome}
use Rattle.std.proofs.lemmas.List.{take-append-drop, take_at, drop_at, take_all, drop_all}
use Rattle.pb_outside.specs.Source.{GivesNext, ReadsPiece, ReadsUpTo}

-- so far these bytes were read of what was left at first
pub record IsSplit (all bytes : List ℕ) (left : Option (List ℕ)) : Type 0 where
  pub rest : List ℕ
  pub joined : all ≡ bytes ++ rest
  pub is_left : left ≡ Some rest

abbrev pub HasRead : Option (List ℕ) → Option (List ℕ) → List ℕ → Type 0
HasRead first left bytes = IfSome first (λ all. IsSplit all bytes left)

pub HasRead-nothing : (first : Option (List ℕ)) → HasRead first first []
HasRead-nothing None = tt
HasRead-nothing (Some all) = record { rest = all; joined = refl; is_left = refl }

-- a piece more was read
pub HasRead-step : (first before after : Option (List ℕ)) (count : ℕ) (bytes bytes' : List ℕ) → HasRead first before bytes → ReadsPiece count before after bytes bytes' → HasRead first after bytes'
HasRead-step None before after count bytes bytes' h r = tt
HasRead-step (Some all) before after count bytes bytes' h r = step (subst (λ (left : Option (List ℕ)). ReadsPiece count left after bytes bytes') h.is_left r) where
  step : GivesNext count h.rest after bytes bytes' → IsSplit all bytes' after
  step next = record {
    rest = drop count h.rest;
    joined = h.joined ∙ ap (λ (r : List ℕ). bytes ++ r) (sym (take-append-drop count h.rest)) ∙ sym (append_assoc bytes (take count h.rest) (drop count h.rest)) ∙ ap (λ (b : List ℕ). b ++ drop count h.rest) (sym next.given);
    is_left = next.rest;
  }

-- the limit is reached
pub ReadsUpTo-limit : (limit : ℕ) (first left : Option (List ℕ)) (bytes : List ℕ) → length bytes ≡ limit → HasRead first left bytes → ReadsUpTo limit first left bytes
ReadsUpTo-limit limit None left bytes e h = tt
ReadsUpTo-limit limit (Some all) left bytes e h = (
  sym (take_at bytes h.rest limit e) ∙ ap (λ (a : List ℕ). take limit a) (sym h.joined),
  h.is_left ∙ ap (λ (a : List ℕ). Some a) (sym (drop_at bytes h.rest limit e) ∙ ap (λ (a : List ℕ). drop limit a) (sym h.joined)),
)

-- the end was met
pub ReadsUpTo-end : (limit : ℕ) (first before after : Option (List ℕ)) (bytes bytes' : List ℕ) → length bytes ≤ limit → HasRead first before bytes → ReadsPiece 0 before after bytes bytes' → ReadsUpTo limit first after bytes'
ReadsUpTo-end limit None before after bytes bytes' fits h r = tt
ReadsUpTo-end limit (Some all) before after bytes bytes' fits h r = ended (subst (λ (left : Option (List ℕ)). ReadsPiece 0 left after bytes bytes') h.is_left r) where
  ended : GivesNext 0 h.rest after bytes bytes' → (bytes' ≡ take limit all) × (after ≡ Some (drop limit all))
  ended next =
      let none_left : h.rest ≡ [] = next.end_only refl in
      let whole : all ≡ bytes = h.joined ∙ ap (λ (r : List ℕ). bytes ++ r) none_left ∙ append-nil bytes in
      let same : bytes' ≡ bytes = next.given ∙ append-nil bytes in (
        same ∙ sym (take_all limit bytes fits) ∙ ap (λ (a : List ℕ). take limit a) (sym whole),
        next.rest ∙ ap (λ (a : List ℕ). Some a) (none_left ∙ sym (drop_all limit bytes fits) ∙ ap (λ (a : List ℕ). drop limit a) (sym whole)),
      )
