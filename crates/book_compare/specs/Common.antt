-- Cars that both books allow.
--     IsCommon first second day names        the codes are codes of both books, each named once, and by each book a good set
--     DiffersWith first second day id names  such codes, with which the books choose other parts at the position of an id
--     AreAlike first second day id           there are none
use Rattle.std.specs.Prelude.{◌≡◌, ℕ, true, List}
use Rattle.std.specs.List.{IsDistinct}
use Rattle.pb_base.specs.Names.{same_name}
use Rattle.pb_base.specs.NamedSet.{named}
use Rattle.pb_base.specs.Picked.{AreNamed}
use Rattle.book_model.specs.Contents.{Contents}
use Rattle.book_model.specs.Good.{is_good}
use Rattle.chosen_parts.specs.Chosen.{chosen}

pub record IsCommon (first second : Contents) (day : ℕ) (names : List (List ℕ)) : Type 0 where
  pub distinct : IsDistinct same_name names
  pub in_first : AreNamed first.codes names
  pub in_second : AreNamed second.codes names
  pub good_in_first : is_good first day (named first.codes names) ≡ true
  pub good_in_second : is_good second day (named second.codes names) ≡ true

pub record DiffersWith (first second : Contents) (day : ℕ) (id : List ℕ) (names : List (List ℕ)) : Type 0 where
  pub common : IsCommon first second day names
  pub differ : chosen first day id (named first.codes names) ≡ chosen second day id (named second.codes names) → ⊥

abbrev pub AreAlike : Contents → Contents → ℕ → List ℕ → Type 0
AreAlike first second day id =
    (names : List (List ℕ)) → IsCommon first second day names → chosen first day id (named first.codes names) ≡ chosen second day id (named second.codes names)
