-- Sets of the first book's codes that show how two books differ at a position.
--     other_set numbers x              the codes of the second book that such a set has, where these are the variables of its codes
--     is_common first second day x     the set has codes of both books, and by each book it is good
--     shows first second day id x      and with it the books choose other parts at the position of an id
use Rattle.std.specs.Prelude.{ℕ, Bool, true, false, not, ◌&&◌, List, [], ◌∷◌, map}
use Rattle.std.specs.List.{list_all}
use Rattle.pb_base.specs.Sets.{has}
use Rattle.book_model.specs.Contents.{Contents}
use Rattle.book_model.specs.Good.{is_good}
use Rattle.chosen_parts.specs.Chosen.{is_same_use, chosen}
use Rattle.chosen_parts.specs.declared.part_use.PartUse.{PartUse}
use Rattle.book_compare.specs.Numbering.{numbers_of, missing_from}

abbrev pub same_uses : List PartUse → List PartUse → Bool
same_uses [] [] = true
same_uses [] (q ∷ qs) = false
same_uses (p ∷ ps) [] = false
same_uses (p ∷ ps) (q ∷ qs) = same_uses ps qs && is_same_use p q

abbrev pub are_absent : List ℕ → List Bool → Bool
are_absent variables x = list_all (λ v. not (has x v)) variables

abbrev pub other_set : List ℕ → List Bool → List Bool
other_set numbers x = map (has x) numbers

abbrev pub is_common : Contents → Contents → ℕ → List Bool → Bool
is_common first second day x =
    are_absent (missing_from 0 second.codes first.codes) x
    && (is_good first day x && is_good second day (other_set (numbers_of first.codes second.codes) x))

abbrev pub is_other : Contents → Contents → ℕ → List ℕ → List Bool → Bool
is_other first second day id x = not (same_uses (chosen first day id x) (chosen second day id (other_set (numbers_of first.codes second.codes) x)))

abbrev pub shows : Contents → Contents → ℕ → List ℕ → List Bool → Bool
shows first second day id x = is_common first second day x && is_other first second day id x
