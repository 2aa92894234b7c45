-- The cars of a day that have some chosen codes. Codes are told by their places in the book.
--     is_left b day chosen x     the set is good on the day, and has each of the chosen codes
--     IsShown .. place value     some car that is left has the code, or hasn't
--     IsOpen .. place            one has it, and another hasn't
--     IsForced, IsExcluded .. place     each has it; none has
--     left_items b day chosen    what such a car meets: the rules of the day, and that each of the codes is there
--     IsGivenUp .. lits budget learnt   a search for such a car with these literals true was left
use Rattle.std.specs.Prelude.{◌≡◌, ℕ, ◌<◌, ◌==◌, Bool, true, false, ◌&&◌, List, ◌++◌, None, length, map}
use Rattle.std.specs.List.{list_all, list_any, All}
use Rattle.pb_base.specs.Rule.{code}
use Rattle.pb_base.specs.Sets.{has}
use Rattle.book_model.specs.Contents.{Contents}
use Rattle.book_model.specs.Good.{is_good}
use Rattle.clausify.specs.Items.{Item, rule_item, rule_items}
use Rattle.item_search.specs.Search.{IsLeft}

abbrev pub is_left : Contents → ℕ → List ℕ → List Bool → Bool
is_left b day chosen x = is_good b day x && list_all (has x) chosen

abbrev pub is_chosen : List ℕ → ℕ → Bool
is_chosen chosen place = list_any (λ c. c == place) chosen

-- each is a code of the book
abbrev pub AreChosen : Contents → List ℕ → Type 0
AreChosen b chosen = All (λ c. c < length b.codes) chosen

pub record IsShown (b : Contents) (day : ℕ) (chosen : List ℕ) (place : ℕ) (value : Bool) : Type 0 where
  pub car : List Bool
  pub left : is_left b day chosen car ≡ true
  pub shows : has car place ≡ value

pub record IsOpen (b : Contents) (day : ℕ) (chosen : List ℕ) (place : ℕ) : Type 0 where
  pub with_it : IsShown b day chosen place true
  pub without : IsShown b day chosen place false

abbrev pub IsForced : Contents → ℕ → List ℕ → ℕ → Type 0
IsForced b day chosen place = (x : List Bool) → is_left b day chosen x ≡ true → has x place ≡ true

abbrev pub IsExcluded : Contents → ℕ → List ℕ → ℕ → Type 0
IsExcluded b day chosen place = (x : List Bool) → is_left b day chosen x ≡ true → has x place ≡ false

abbrev pub chosen_item : ℕ → Item
chosen_item place = rule_item None (code place)

abbrev pub left_items : Contents → ℕ → List ℕ → List Item
left_items b day chosen = rule_items b day ++ map chosen_item chosen

-- as many clauses as the budget allows were learnt over those of the rules and of the chosen codes
abbrev pub IsGivenUp : Contents → ℕ → List ℕ → List ℕ → ℕ → List (List ℕ) → Type 0
IsGivenUp b day chosen lits budget learnt = IsLeft (length b.codes) (left_items b day chosen) lits budget learnt
