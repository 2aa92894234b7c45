-- What supplementing rules do to a constructible set of codes, in whatever order they fire.
--     breaks_with b day s x      the set is constructible, the rule fires over it, and with the rule's code it is not constructible
--     swaps_with b day s t x     the set is constructible, both rules fire over it, and one that has fired keeps the other from firing
--     Ends rules day y x         the set y is where rules that fire over x lead to, one after another, until none fires
--     IsCalm b day               no rule breaks a set, and no two swap over one
--     HasOneEnd b day x          x has one end: its completion, which is constructible
use Rattle.std.specs.Prelude.{◌≡◌, ℕ, Bool, true, false, not, ◌&&◌, ◌==◌, List, Contains, length, slice_set}
use Rattle.std.specs.List.{list_any}
use Rattle.pb_base.specs.Rule.{holds}
use Rattle.book_model.specs.Contents.{Contents}
use Rattle.book_model.specs.Good.{fires, is_constructible}
use Rattle.book_model.specs.declared.record.Supplement.{Supplement}
use Rattle.supplement.specs.Completion.{completion_of}

-- the set with one more code
abbrev pub with_code : ℕ → List Bool → List Bool
with_code code x = slice_set x code true

abbrev pub breaks_with : Contents → ℕ → Supplement → List Bool → Bool
breaks_with b day s x = is_constructible b day x && fires day x s && not (is_constructible b day (with_code s.code x))

-- with the code of one rule the formula of the other is false, for at least one of the two
abbrev pub swaps_with : Contents → ℕ → Supplement → Supplement → List Bool → Bool
swaps_with b day s t x =
    is_constructible b day x && fires day x s && fires day x t && not (s.code == t.code)
    && not (holds t.rule (with_code s.code x) && holds s.rule (with_code t.code x))

pub data Ends (rules : List Supplement) (day : ℕ) (y : List Bool) : List Bool → Type 0 where
  stops : {x : List Bool} → list_any (fires day x) rules ≡ false → y ≡ x → Ends rules day y x
  goes : {x : List Bool} (s : Supplement) → Contains rules s → fires day x s ≡ true → Ends rules day y (with_code s.code x) → Ends rules day y x

-- over the sets of the book's codes
pub record IsCalm (b : Contents) (day : ℕ) : Type 0 where
  pub none_breaks : (s : Supplement) (x : List Bool) → Contains b.supplements s → length x ≡ length b.codes → breaks_with b day s x ≡ false
  pub none_swaps : (s t : Supplement) (x : List Bool) → Contains b.supplements s → Contains b.supplements t → length x ≡ length b.codes
      → swaps_with b day s t x ≡ false

pub record HasOneEnd (b : Contents) (day : ℕ) (x : List Bool) : Type 0 where
  pub ends : Ends b.supplements day (completion_of b day x).set x
  pub alone : (y : List Bool) → Ends b.supplements day y x → y ≡ (completion_of b day x).set
  pub constructible : is_constructible b day (completion_of b day x).set ≡ true
