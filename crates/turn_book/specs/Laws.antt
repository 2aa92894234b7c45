-- What a machine's steps keep.
module _ {M C R : Type 0} (valid : M → Type 0) (fits : M → C → Type 0) (legal : M → C → R → M → Type 0) where
  -- a legal step leads from a valid state to a valid one
  abbrev pub StaysValid : Type 0
  StaysValid = (x : M) (c : C) (r : R) (y : M) → valid x → fits x c → legal x c r y → valid y

  -- a call that fits a state fits it after a legal step too
  abbrev pub StaysFitting : Type 0
  StaysFitting = (x : M) (c : C) (r : R) (y : M) (d : C) → valid x → fits x c → legal x c r y → fits x d → fits y d
