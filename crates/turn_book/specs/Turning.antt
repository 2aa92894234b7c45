-- The rule of the turn. Word 0 is the next ticket, word 1 the ticket that is served, and word 2 the length of the history. The slot has the machine.
use Rattle.std.specs.Prelude.{◌≡◌, ℕ, ◌+◌, ◌<◌, ◌≤◌, List, [], ◌∷◌, length, slice_index, All, sum_by, Option, Some}
use mathlib.Core.Option.{some}
use lib.ListN.{get_elem?}
use Rattle.atomic_table.specs.Table.{State}
use Rattle.turn_book.specs.History.{end_of, StartsWith, times, once_below}
use Rattle.turn_book.specs.declared.entry.Entry.{Entry}
use Rattle.turn_book.specs.declared.view.View.{View}
use Rattle.turn_book.specs.declared.view.Stage.{Stage}
use Rattle.turn_book.specs.declared.view.Stage.TheVariants.{Idle, Waits, Turn, Counted}

abbrev pub HasTicket : Stage → Type 0
HasTicket Idle = ⊥
HasTicket Waits = Unit {0}
HasTicket Turn = Unit {0}
HasTicket Counted = Unit {0}

-- the machine is out with the seat
abbrev pub InTurn : Stage → Type 0
InTurn Idle = ⊥
InTurn Waits = ⊥
InTurn Turn = Unit {0}
InTurn Counted = Unit {0}

-- the calls that were begun and aren't counted yet
abbrev pub begun : Stage → ℕ
begun Idle = 0
begun Waits = 1
begun Turn = 1
begun Counted = 0

module _ {M C R : Type 0} where
  abbrev pub waiting : View M C R → ℕ
  waiting v = begun v.stage

  abbrev pub made : View M C R → ℕ
  made v = length v.own

  abbrev pub left_of : View M C R → ℕ
  left_of v = v.left

  abbrev pub owns : ℕ → View M C R → ℕ
  owns x v = times x v.own

  abbrev pub newcomer : ℕ → View M C R
  newcomer n = record { seen = []; told = []; own = []; left = n; stage = Idle; ticket = 0 }

  module _ (drawn serving : ℕ) (log : List (Entry M C R)) where
    abbrev pub AtStage : View M C R → Stage → Type 0
    AtStage v Idle = Unit {0}
    AtStage v Waits = (serving ≤ v.ticket) × (v.ticket < drawn)
    AtStage v Turn = (v.ticket ≡ serving) × (v.ticket < drawn) × (v.seen ≡ log)
    AtStage v Counted = (v.ticket ≡ serving) × (v.ticket < drawn) × (v.seen ≡ log) × (0 < length v.own)

    -- what one seat knows
    pub record Knows (v : View M C R) : Type 0 where
      pub saw : StartsWith log v.seen
      pub heard : StartsWith log v.told
      pub no_longer : length v.told ≤ length v.seen
      pub inside : All (λ x. x < length v.seen) v.own
      pub at_stage : AtStage v v.stage

  -- The table and all seats: there is one good history, and each seat knows a beginning of it
  pub record Turning (good : M → List (Entry M C R) → Type 0) (start : M) (limit : ℕ) (s : State (Option M) (View M C R)) : Type 0 where
    pub log : List (Entry M C R)
    pub bounded : limit < 18446744073709551616
    pub three_words : length s.words ≡ 3
    pub one_slot : length s.homes ≡ 1
    pub is_good : good start log
    -- word 2 is its length
    pub recorded : slice_index s.words 2 ≡ length log
    -- each ticket is of a call that was made or waits
    pub drawn : slice_index s.words 0 ≡ sum_by made s.views + sum_by waiting s.views
    -- no more tickets can be drawn than calls are allowed
    pub spare : slice_index s.words 0 + sum_by left_of s.views ≡ limit
    -- the history has the calls that were made, and no others
    pub all_made : sum_by made s.views ≡ length log
    -- each place of it is one seat's own, once
    pub places : (x : ℕ) → sum_by (owns x) s.views ≡ once_below x (length log)
    pub served : slice_index s.words 1 ≤ slice_index s.words 0
    pub each_seat : (i : ℕ) (v : View M C R) → get_elem? s.views i ≡ some v → Knows (slice_index s.words 0) (slice_index s.words 1) log v
    -- no two seats have one ticket
    pub apart : (i j : ℕ) (v w : View M C R) → get_elem? s.views i ≡ some v → get_elem? s.views j ≡ some w → HasTicket v.stage → HasTicket w.stage → v.ticket ≡ w.ticket → i ≡ j
    -- where nobody is in turn, the slot has the machine after the history
    pub at_home : ((i : ℕ) (v : View M C R) → get_elem? s.views i ≡ some v → InTurn v.stage → ⊥) → s.homes ≡ some (Some (end_of start log)) ∷ []
