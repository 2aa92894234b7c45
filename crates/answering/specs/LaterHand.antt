-- What calls come to for the holder who makes their steps.
--     IsLaterHand h new    legal steps lead from h to new: of the holder and, where it isn't alone, of others
use Rattle.std.specs.Prelude.{◌≡◌, ◌+◌, ◌≤◌, List, [], ◌∷◌, ◌++◌, MatchOption, length}
use Rattle.order_desk.specs.History.{Reaches}
use Rattle.order_desk.specs.Tables.{State}
use Rattle.answering.specs.Hand.{Hand, Made}

-- what is seen after some steps of one's own: the state after the last of them
abbrev pub seen_after : State → List Made → State
seen_after seen [] = seen
seen_after seen (one ∷ more) = seen_after one.after more

-- the list has one entry more for each step that is gone
abbrev pub AddsSteps : Hand → Hand → Type 0
AddsSteps h new =
    (more : List Made) × (new.made ≡ h.made ++ more) × (length more + new.left ≡ h.left) × (new.state ≡ seen_after h.state more)

-- who is alone keeps no list
pub record IsLaterHand (h new : Hand) : Type 0 where
  pub reaches : Reaches h.state new.state
  pub left : new.left ≤ h.left
  pub made : MatchOption h.book (new.made ≡ h.made) (λ book. AddsSteps h new)
  pub book : new.book ≡ h.book
