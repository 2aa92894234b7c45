-- A stream that has come to its end.
use Rattle.std.proofs.Common.{◌≡◌, ◌∙◌, ℕ, List, [], ◌++◌, refl, sym, ap, subst, append-nil}
use Rattle.std.specs.Prelude.{Option, Some, None, IsSomeAnd}
use Rattle.pb_outside.specs.Source.{ReadsPiece}
use Rattle.http_wire.specs.declared.front.Front.{Front}
use Rattle.http_wire.specs.Front.{front}
use Rattle.http_wire.specs.Fronts.{HasFront}
use Rattle.http_wire.specs.Stream.{StreamStep, SameStream}

-- what stands at the front of what is held does so of the whole stream
pub front_ended : (found : Front) (first : Option (List ℕ)) (was held held' : List ℕ) (left left' : Option (List ℕ)) → StreamStep SameStream was first held left
    → ReadsPiece 0 left left' held held' → found ≡ front held' → StreamStep (HasFront found) was first held' left'
front_ended found None was held held' left left' same reads is_front = tt
front_ended found (Some all) was held held' None left' same reads is_front = absurd same
front_ended found (Some all) was held held' (Some rest) left' same reads is_front =
    let none : rest ≡ [] = reads.end_only refl in
    let held_is : held' ≡ held = reads.given ∙ append-nil held in
    let whole : was ++ all ≡ held' = sym same ∙ ap (λ (r : List ℕ). held ++ r) none ∙ append-nil held ∙ sym held_is in
    subst (λ (left : Option (List ℕ)). IsSomeAnd left (λ rest'. HasFront found (was ++ all) (held' ++ rest'))) (sym (reads.rest ∙ ap (λ (r : List ℕ). Some r) none))
    (ap front whole ∙ sym is_front, append-nil held' ∙ sym whole)
