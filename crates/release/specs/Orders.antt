-- What an order of a dealer comes to at a released book, in the words of the trade.
--     IsWellFormed b day names    the day is of the term, each name is that of a code, and none is ordered twice
--     supplemented b day names    the ordered codes with those that the supplementing rules add
--     can_be_built b day names    the supplemented codes break no constructibility rule
--     HasOneList b day x          each position that is mandatory that day has exactly one variant, and none has two
--     lines_of place list         the lines that a parts list has for a position
--     IsBuilt b day names         the order is accepted, with its one complete parts list
--     IsTurnedAway b day names    the order is refused by the first rule that is broken
use Rattle.std.specs.Prelude.{◌≡◌, ℕ, ◌≤◌, ◌==◌, Bool, true, List, [], ◌∷◌, Some, Ok, filter, length, slice_get}
use Rattle.std.specs.List.{AllByRecursion, IsDistinct, list_any}
use Rattle.pb_base.specs.Names.{same_name}
use Rattle.pb_base.specs.NamedSet.{named}
use Rattle.book_model.specs.Contents.{Contents}
use Rattle.book_model.specs.Good.{is_constructible, is_good}
use Rattle.book_model.specs.Parts.{PartsLine, is_active_position, parts, selected}
use Rattle.book_model.specs.declared.record.Position.{Position}
use Rattle.supplement.specs.Completion.{completion_of}
use Rattle.parts_usage.specs.Broken.{first_broken_of}
use Rattle.parts_usage.specs.Outcome.{outcome_of}
use Rattle.parts_usage.specs.declared.judgement.Outcome.TheVariants as outcome

pub record IsWellFormed (b : Contents) (day : ℕ) (names : List (List ℕ)) : Type 0 where
  pub first : b.first ≤ day
  pub last : day ≤ b.last
  pub known : AllByRecursion (λ name. list_any (same_name name) b.codes ≡ true) names
  pub distinct : IsDistinct same_name names

abbrev pub supplemented : Contents → ℕ → List (List ℕ) → List Bool
supplemented b day names = (completion_of b day (named b.codes names)).set

abbrev pub can_be_built : Contents → ℕ → List (List ℕ) → Bool
can_be_built b day names = is_constructible b day (supplemented b day names)

pub record HasOneList (b : Contents) (day : ℕ) (x : List Bool) : Type 0 where
  pub mandatory : (place : ℕ) (p : Position) → slice_get b.positions place ≡ Some p → is_active_position day p ≡ true
      → p.mandatory ≡ true → (variant : ℕ) × (selected b day x place p ≡ variant ∷ [])
  pub nowhere_two : (place : ℕ) (p : Position) → slice_get b.positions place ≡ Some p
      → length (selected b day x place p) ≤ 1

abbrev pub lines_of : ℕ → List PartsLine → List PartsLine
lines_of place list = filter (λ line. line.position == place) list

pub record IsBuilt (b : Contents) (day : ℕ) (names : List (List ℕ)) : Type 0 where
  pub accepted : let x = supplemented b day names in outcome_of b day names ≡ Ok (outcome.Accepted x (parts b day x))
  pub good : is_good b day (supplemented b day names) ≡ true
  pub one_list : HasOneList b day (supplemented b day names)

pub record IsTurnedAway (b : Contents) (day : ℕ) (names : List (List ℕ)) : Type 0 where
  pub rule : ℕ
  pub first : first_broken_of b day (supplemented b day names) ≡ Some rule
  pub refused : outcome_of b day names ≡ Ok (outcome.Refused rule)
