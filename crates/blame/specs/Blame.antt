-- Whether a car meets a rule, and what is to blame if none does. m are entries and f is the rule.
--     IsNone b day f m           no set that meets all of m meets the rule
--     IsMet b day f m            some set meets all of m and the rule
--     AsksFor b day f m given assumed    clauses and literals that are true together ask for such a set: what they find is one, and they find
--                                some if there is one
--     IsLeftFor b day f m budget a search by such clauses was left, with as many learnt ones as the budget
--     IsLeftWithout b day f budget m place    so one was without the entry at a place, in which all others of m were asked for
--     IsBlame b day f budget m needed    no set meets all of m and the rule. Where an entry is said to be needed, some set meets all others
--                                and the rule; where it isn't, a search for such a set was left
--     IsCar b day chosen f x     a car of the day that has the codes and meets the rule
--     IsNoCar b day chosen f     there is none
--     IsTold b day chosen f budget told    what is told: a car, or what is to blame, or that the search was left
use Rattle.std.specs.Prelude.{◌≡◌, ℕ, ◌+◌, ◌<◌, ◌≤◌, Bool, true, false, List, [], ◌∷◌, ◌++◌, None, length, map, slice_get}
use Rattle.std.specs.Option.{option_map_or}
use Rattle.std.specs.List.{list_all, remove}
use Rattle.pb_base.specs.Rule.{Rule, code, always, holds}
use Rattle.pb_base.specs.Sets.{has}
use Rattle.pb_base.specs.declared.limits.TheConstants.{MOST_SUPPLEMENTS, MOST_CONSTRUCTS, MOST_GROUPS, MOST_CODES}
use Rattle.book_model.specs.Contents.{Contents}
use Rattle.book_model.specs.Good.{is_good}
use Rattle.clausify.specs.Items.{Item, free_item, supplement_item, construct_item, rule_item}
use Rattle.solver.specs.Answer.{Begins, IsSpent}
use Rattle.item_search.specs.Search.{IsLeft}
use Rattle.item_search.specs.declared.outcome.Outcome.{Outcome}
use Rattle.item_search.specs.declared.outcome.Outcome.TheVariants as outcome
use Rattle.blame.specs.Entries.{meets_all, all_entries, Among}
use Rattle.blame.specs.declared.entries.Entry.{Entry}
use Rattle.blame.specs.declared.entries.Entry.TheVariants.{Supplement, Construct, Chosen}
use Rattle.blame.specs.declared.blamed.Blamed.{Blamed}
use Rattle.blame.specs.declared.blamed.Told.{Told}
use Rattle.blame.specs.declared.blamed.Told.TheVariants as told

-- as many as a book may have rules and codes
abbrev pub AreFew : List Entry → Type 0
AreFew m = length m ≤ MOST_SUPPLEMENTS + MOST_CONSTRUCTS + MOST_GROUPS + MOST_CODES

abbrev pub IsNone : Contents → ℕ → Rule → List Entry → Type 0
IsNone b day f m = (x : List Bool) → length x ≡ length b.codes → meets_all b day x m ≡ true → holds f x ≡ false

pub record IsMetBy (b : Contents) (day : ℕ) (f : Rule) (m : List Entry) (x : List Bool) : Type 0 where
  pub counted : length x ≡ length b.codes
  pub meets : meets_all b day x m ≡ true
  pub holds_there : holds f x ≡ true

abbrev pub IsMet : Contents → ℕ → Rule → List Entry → Type 0
IsMet b day f m = (x : List Bool) × IsMetBy b day f m x

pub record AsksFor (b : Contents) (day : ℕ) (f : Rule) (m : List Entry) (given : List (List ℕ)) (assumed : List ℕ) : Type 0 where
  pub only : (x : List Bool) → Begins given assumed (length b.codes) x → IsMetBy b day f m x
  pub some : IsMet b day f m → (x : List Bool) × Begins given assumed (length b.codes) x

pub record IsLeftFor (b : Contents) (day : ℕ) (f : Rule) (m : List Entry) (budget : ℕ) : Type 0 where
  pub given : List (List ℕ)
  pub assumed : List ℕ
  pub asks : AsksFor b day f m given assumed
  pub vars : ℕ
  pub learnt : List (List ℕ)
  pub spent : IsSpent vars given assumed budget learnt

pub record IsLeftWithout (b : Contents) (day : ℕ) (f : Rule) (budget : ℕ) (m : List Entry) (place : ℕ) : Type 0 where
  -- the entries that were kept when this one was tried, and where it stood among them
  pub before : List Entry
  pub at : ℕ
  pub same : slice_get before at ≡ slice_get m place
  pub others : Among (remove before at) (remove m place)
  pub left : IsLeftFor b day f (remove before at) budget

pub record IsBlame (b : Contents) (day : ℕ) (f : Rule) (budget : ℕ) (m : List Entry) (needed : List Bool) : Type 0 where
  pub counted : length needed ≡ length m
  pub none : IsNone b day f m
  pub each : (place : ℕ) → place < length m → has needed place ≡ true → IsMet b day f (remove m place)
  pub left : (place : ℕ) → place < length m → has needed place ≡ false → IsLeftWithout b day f budget m place

-- what an entry asks, as an item of which clauses are made
abbrev pub entry_item : Contents → Entry → Item
entry_item b (Supplement p) = option_map_or supplement_item (slice_get b.supplements p) (free_item always)
entry_item b (Construct p) = option_map_or construct_item (slice_get b.constructs p) (free_item always)
entry_item b (Chosen c) = rule_item None (code c)

abbrev pub blame_items : Contents → List Entry → Rule → List Item
blame_items b m f = map (entry_item b) m ++ rule_item None f ∷ []

-- the search for a set that meets the entries and the rule was left when these clauses had been learnt
abbrev pub IsGivenUp : Contents → Rule → List Entry → ℕ → List (List ℕ) → Type 0
IsGivenUp b f m budget learnt = IsLeft (length b.codes) (blame_items b m f) [] budget learnt

-- what comes of that search
abbrev pub IsLooked : Contents → ℕ → Rule → List Entry → ℕ → Outcome → Type 0
IsLooked b day f m budget (outcome.Shown x) = IsMetBy b day f m x
IsLooked b day f m budget (outcome.NotShown at) = IsNone b day f m
IsLooked b day f m budget (outcome.Left learnt) = IsGivenUp b f m budget learnt.clauses

pub record IsCar (b : Contents) (day : ℕ) (chosen : List ℕ) (f : Rule) (x : List Bool) : Type 0 where
  pub good : is_good b day x ≡ true
  pub has_chosen : list_all (has x) chosen ≡ true
  pub holds_there : holds f x ≡ true

-- no car of the day that has the codes meets the rule
abbrev pub IsNoCar : Contents → ℕ → List ℕ → Rule → Type 0
IsNoCar b day chosen f = (x : List Bool) → is_good b day x ≡ true → list_all (has x) chosen ≡ true → holds f x ≡ false

pub record AreBlamed (b : Contents) (day : ℕ) (chosen : List ℕ) (f : Rule) (budget : ℕ) (m : Blamed) : Type 0 where
  pub no_car : IsNoCar b day chosen f
  pub among : Among (all_entries b day chosen) m.entries.items
  pub blame : IsBlame b day f budget m.entries.items m.needed.items

abbrev pub IsTold : Contents → ℕ → List ℕ → Rule → ℕ → Told → Type 0
IsTold b day chosen f budget (told.Car x) = IsCar b day chosen f x
IsTold b day chosen f budget (told.NoCar m) = AreBlamed b day chosen f budget m
IsTold b day chosen f budget (told.Undecided learnt) = IsGivenUp b f (all_entries b day chosen) budget learnt.clauses
