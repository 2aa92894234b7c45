-- From codes to the rules in whose formulas they occur.
--     occurs c f                              the code stands in the formula
--     Lists lists c rule                      the list of the code has the rule
--     AreOccurrences codes rules lists        each code's list has each rule in whose formula the code occurs
use Rattle.std.specs.Prelude.{◌≡◌, ℕ, ◌<◌, Bool, true, false, ◌||◌, ◌==◌, List, Option, None, Some, IfSome, All, length, slice_index_or, slice_get}
use Rattle.pb_base.specs.Rule.{Rule, code, negation, both, either, always, never}
use Rattle.pb_base.specs.declared.node.Node.{Node}
use Rattle.pb_base.specs.declared.node.Node.TheVariants.{Code}
use Rattle.book_model.specs.declared.record.Supplement.{Supplement}
use Rattle.supplement.specs.declared.occurrences.Entry.{Entry}
use Rattle.supplement.specs.declared.occurrences.OccurrenceLists.{OccurrenceLists}

abbrev pub occurs : ℕ → Rule → Bool
occurs c (code place) = place == c
occurs c (negation f) = occurs c f
occurs c (both f g) = occurs c f || occurs c g
occurs c (either f g) = occurs c f || occurs c g
occurs c always = false
occurs c never = false

abbrev pub is_code : ℕ → Node → Bool
is_code c (Code place) = place == c
is_code c _ = false

-- the entry at this place, or one that it leads to, has the rule
pub data Leads (entries : List Entry) (rule : ℕ) : Option ℕ → Type 0 where
  here : {at : Option ℕ} (k : ℕ) (e : Entry) → at ≡ Some k → slice_get entries k ≡ Some e → e.rule ≡ rule → Leads entries rule at
  later : {at : Option ℕ} (k : ℕ) (e : Entry) → at ≡ Some k → slice_get entries k ≡ Some e → Leads entries rule e.next → Leads entries rule at

abbrev pub Lists : OccurrenceLists → ℕ → ℕ → Type 0
Lists lists c rule = Leads lists.entries.items rule (slice_index_or lists.heads.items c None)

-- each entry leads to an earlier one, and has one of n rules
pub record AreLinked (codes n : ℕ) (lists : OccurrenceLists) : Type 0 where
  pub codes_have_heads : length lists.heads.items ≡ codes
  pub heads_in_range : All (λ head. IfSome head (λ k. k < length lists.entries.items)) lists.heads.items
  pub leads_back : (k : ℕ) (e : Entry) → slice_get lists.entries.items k ≡ Some e → IfSome e.next (λ j. j < k)
  pub rules_in_range : (k : ℕ) (e : Entry) → slice_get lists.entries.items k ≡ Some e → e.rule < n

-- no list loses a rule
abbrev pub KeepsLists : OccurrenceLists → OccurrenceLists → Type 0
KeepsLists old new = (c rule : ℕ) → Lists old c rule → Lists new c rule

-- the list of each code that passes has the rule
abbrev pub ListsWhere : OccurrenceLists → (ℕ → Bool) → ℕ → Type 0
ListsWhere lists test rule = (c : ℕ) → test c ≡ true → Lists lists c rule

-- the rule was noted at each code that passes
pub record Notes (old new : OccurrenceLists) (rule : ℕ) (test : ℕ → Bool) : Type 0 where
  pub same_codes : length new.heads.items ≡ length old.heads.items
  pub linked : (codes n : ℕ) → rule < n → AreLinked codes n old → AreLinked codes n new
  pub keeps : KeepsLists old new
  pub noted : ListsWhere new test rule

-- each of the first n rules is in the list of each code of its formula
abbrev pub ListsFirst : OccurrenceLists → List Supplement → ℕ → Type 0
ListsFirst lists rules n = (p : ℕ) (s : Supplement) → p < n → slice_get rules p ≡ Some s → ListsWhere lists (λ c. occurs c s.rule) p

pub record AreOccurrences (codes : ℕ) (rules : List Supplement) (lists : OccurrenceLists) : Type 0 where
  pub linked : AreLinked codes (length rules) lists
  pub complete : ListsFirst lists rules (length rules)
