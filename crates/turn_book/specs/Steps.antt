-- What each kind of step tells the seat that makes it.
use Rattle.std.specs.Prelude.{◌≡◌, ◌≢◌, ℕ, ◌+◌, ◌-◌, ◌<◌, List, [], ◌∷◌, ◌++◌, length, Option, Some}
use Rattle.atomic_table.specs.Table.{Me, Step, rest}
use Rattle.atomic_table.specs.Seated.{TableId}
use Rattle.atomic_table.specs.declared.shared.Seat.{Seat}
use Rattle.turn_book.specs.History.{entry, end_of, StartsWith, longer, shorter}
use Rattle.turn_book.specs.declared.entry.Entry.{Entry}
use Rattle.turn_book.specs.declared.view.View.{View}
use Rattle.turn_book.specs.declared.view.Stage.TheVariants.{Idle, Waits, Turn, Counted}

-- a seat's view, and the slot that it holds
abbrev pub Sat : Type 0 → Type 0 → Type 0 → Type 0
Sat M C R = Me (Option M) (View M C R)

-- the seat is at this table, which has three words and one slot
abbrev pub IsAt : TableId → TableId → Type 0
IsAt table seat = (seat ≡ table) × (table.words ≡ 3) × (table.slots ≡ 1)

module _ {M C R : Type 0} where
  abbrev pub IsSameSeat : Seat (Option M) (View M C R) → Seat (Option M) (View M C R) → Type 0
  IsSameSeat old new = (new.table_id ≡ old.table_id) × (new.id ≡ old.id)

  -- the machine after all that the seat has seen
  abbrev pub machine_at : M → Sat M C R → M
  machine_at start me = end_of start me.0.seen

  -- the slot is out with the seat, and this machine lies in it
  abbrev pub Holds : Sat M C R → M → Type 0
  Holds me x = me.1 ≡ (0, Some x) ∷ []

  abbrev pub has_drawn : ℕ → View M C R → View M C R
  has_drawn n v = record { seen = v.seen; told = []; own = v.own; left = v.left - 1; stage = Waits; ticket = n }

  abbrev pub in_turn : List (Entry M C R) → View M C R → View M C R
  in_turn log v = record { seen = log; told = []; own = v.own; left = v.left; stage = Turn; ticket = v.ticket }

  abbrev pub has_counted : Entry M C R → View M C R → View M C R
  has_counted e v = record { seen = v.seen ++ e ∷ []; told = []; own = v.own ++ length v.seen ∷ []; left = v.left; stage = Counted; ticket = v.ticket }

  abbrev pub at_rest : View M C R → View M C R
  at_rest v = record { seen = v.seen; told = []; own = v.own; left = v.left; stage = Idle; ticket = 0 }

  -- a new seat, which has n of the calls that were left
  abbrev pub share_of : ℕ → View M C R → View M C R
  share_of n v = record { seen = v.seen; told = []; own = []; left = n; stage = Idle; ticket = 0 }

  abbrev pub kept_of : ℕ → View M C R → View M C R
  kept_of n v = record { seen = v.seen; told = []; own = v.own; left = v.left - n; stage = v.stage; ticket = v.ticket }

  abbrev pub both_of : View M C R → View M C R → View M C R
  both_of v w = record { seen = longer v.seen w.seen; told = shorter v.seen w.seen; own = v.own ++ w.own; left = v.left + w.left; stage = v.stage; ticket = v.ticket }

  -- what is left of a seat that was joined to another
  abbrev pub spent : View M C R
  spent = record { seen = []; told = []; own = []; left = 0; stage = Idle; ticket = 0 }

  -- the ticket is the one that was found, and one call fewer is left
  abbrev pub Draws : Step (Option M) → Sat M C R → ℕ → Sat M C R → Type 0
  Draws st me found me' = me' ≡ (has_drawn found me.0, me.1)

  -- the seat has seen the whole history, and the machine after it is in its hands
  pub record TakesTurn (good : M → List (Entry M C R) → Type 0) (start : M) (me me' : Sat M C R) : Type 0 where
    pub log : List (Entry M C R)
    pub begins : StartsWith log me.0.seen
    pub is_good : good start log
    pub room : length me.0.own + 1 < 18446744073709551616
    pub after : me' ≡ (in_turn log me.0, (0, Some (end_of start log)) ∷ me.1)

  -- the same from the machine at the start, where that is known
  abbrev pub TakesTurnFrom : (M → List (Entry M C R) → Type 0) → Option M → Sat M C R → Sat M C R → Type 0
  TakesTurnFrom good start me me' = (x : M) × (start ≡ Some x) × TakesTurn good x me me'

  -- the seat takes its turn in this way where its ticket is served, and else nothing has changed
  abbrev pub Looks : (Sat M C R → Sat M C R → Type 0) → Step (Option M) → Sat M C R → ℕ → Sat M C R → Type 0
  Looks takes_turn st me found me' = (found ≡ me.0.ticket → takes_turn me me') × (found ≢ me.0.ticket → me' ≡ me)

  -- the call that was noted stands last in the history, with its reply and the machine that the seat holds
  abbrev pub Counts : Option C × Option R → Step (Option M) → Sat M C R → ℕ → Sat M C R → Type 0
  Counts noted st me found me' =
      (c : C) (r : R) (y : M) → noted.0 ≡ Some c → noted.1 ≡ Some r → Holds me y → me' ≡ (has_counted (entry c r y) me.0, me.1)

  abbrev pub PassesOn : Step (Option M) → Sat M C R → ℕ → Sat M C R → Type 0
  PassesOn st me found me' = me' ≡ (at_rest me.0, rest me.1)

  -- of two lists that were joined the longer begins with the shorter
  abbrev pub Meets : Step (Option M) → Sat M C R → ℕ → Sat M C R → Type 0
  Meets st me found me' =
      (me' ≡ me) × StartsWith me.0.seen me.0.told × (length me.0.own + me.0.left < 18446744073709551616)

  -- the call is made at the machine that the seat holds, and stands last in the history that it has seen
  abbrev pub MakesCall : (C → R → M → Type 0) → C → R → Sat M C R → Sat M C R → Type 0
  MakesCall legal call reply me me' =
      (after : M) × legal call reply after × (me' ≡ (at_rest (has_counted (entry call reply after) me.0), []))

  -- the seat holds the machine after a legal step from where it was
  abbrev pub HoldsStep : (M → C → Type 0) → (M → C → R → M → Type 0) → M → C × R → Sat M C R → Type 0
  HoldsStep fits legal start said me =
      let x = machine_at start me in
      (after : M) × Holds me after × fits x said.0 × legal x said.0 said.1 after
