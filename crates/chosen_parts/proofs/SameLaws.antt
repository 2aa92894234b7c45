-- Where the parts are the same at the positions of the first book, and none is added, they are the same at each.
use Rattle.std.proofs.Common.{◌≡◌, ℕ, ◌<◌, Bool, List, [], Option, Some, None, length, refl, sym, ap, subst, ◌∙◌, arith}
use Rattle.std.specs.List.{slice_get}
use Rattle.std.specs.Option.{option_map_or}
use Rattle.std.proofs.lemmas.Option.{slice_get_within}
use Rattle.book_model.specs.Contents.{Contents}
use Rattle.chosen_parts.specs.Chosen.{position_place, chosen_at, chosen, HaveSameParts, HaveOtherParts, AreSameAt, IsAdded, HaveNoneAdded}
use Rattle.chosen_parts.proofs.PlaceLaws.{IsPositionOf, position_found}

-- a book without the position chooses nothing for it
pub chosen_none : (b : Contents) (day : ℕ) (id : List ℕ) (x : List Bool) → position_place b id ≡ None → chosen b day id x ≡ []
chosen_none b day id x none = ap (λ o. option_map_or (chosen_at b day x) o []) none

pub chosen_some : (b : Contents) (day : ℕ) (id : List ℕ) (x : List Bool) (k : ℕ) → position_place b id ≡ Some k → chosen b day id x ≡ chosen_at b day x k
chosen_some b day id x k some = ap (λ o. option_map_or (chosen_at b day x) o []) some

added_nowhere : (first second : Contents) (day : ℕ) (y : List Bool) (id : List ℕ) → HaveNoneAdded first second day y (length second.positions)
    → position_place first id ≡ None → chosen second day id y ≡ []
added_nowhere first second day y id none only = by (position_place second id) refl
  where
    by : (o : Option ℕ) → position_place second id ≡ o → chosen second day id y ≡ []
    by None is = chosen_none second day id y is
    by (Some k) is =
        let found : IsPositionOf second id k = position_found second id k is in
        subst (λ (name : List ℕ). chosen second day name y ≡ []) found.same
        (none k found.position (slice_get_within second.positions k found.position found.there) found.there
        (ap (position_place first) found.same ∙ only))

pub same_everywhere : (first second : Contents) (day : ℕ) (x y : List Bool) → AreSameAt first second day x y (length first.positions)
    → HaveNoneAdded first second day y (length second.positions) → HaveSameParts first second day x y
same_everywhere first second day x y same none = λ id. by id (position_place first id) refl
  where
    by : (id : List ℕ) (o : Option ℕ) → position_place first id ≡ o → chosen first day id x ≡ chosen second day id y
    by id None is = chosen_none first day id x is ∙ sym (added_nowhere first second day y id none is)
    by id (Some k) is =
        let found : IsPositionOf first id k = position_found first id k is in
        subst (λ (name : List ℕ). chosen first day name x ≡ chosen second day name y) found.same
        (same k found.position (slice_get_within first.positions k found.position found.there) found.there)

pub other_by_added : (first second : Contents) (day : ℕ) (x y : List Bool) (id : List ℕ) → IsAdded first second day y id → HaveOtherParts first second day x y
other_by_added first second day x y id added =
    record { id = id; differ = λ same. added.some (sym same ∙ chosen_none first day id x added.only) }
