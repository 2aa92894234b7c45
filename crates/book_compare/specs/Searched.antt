-- The positions that have to be searched.
--     IsPut first second day id ps         the position of an id is the same in each car that both allow, or it is put among those that
--                                          have to be searched
--     ArePut first second day ps           so are those of all positions of either book, the first book's first
use Rattle.std.specs.Prelude.{◌≡◌, ℕ, List, [], ◌∷◌, ◌++◌}
use Rattle.pb_base.specs.InParts.{InParts}
use Rattle.book_model.specs.Contents.{Contents}
use Rattle.chosen_parts.specs.Chosen.{ids_of_either}
use Rattle.book_compare.specs.Common.{AreAlike}
use Rattle.book_compare.specs.declared.place.Place.{Place}

abbrev pub IsPut : Contents → Contents → ℕ → List ℕ → List Place → Type 0
IsPut first second day id [] = AreAlike first second day id
IsPut first second day id (p ∷ []) = p.id ≡ id
IsPut first second day id (p ∷ q ∷ ps) = ⊥

abbrev pub ArePut : Contents → Contents → ℕ → List Place → Type 0
ArePut first second day ps = InParts (IsPut first second day) (ids_of_either first second) ps

-- those of these ids, behind others
pub record AddsPlaces (first second : Contents) (day : ℕ) (ids : List (List ℕ)) (old new : List Place) : Type 0 where
  pub places : List Place
  pub behind : new ≡ old ++ places
  pub each : InParts (IsPut first second day) ids places
