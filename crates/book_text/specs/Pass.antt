-- A pass over the rows, or over what they say: each changes what was made of those before it, and the first fault ends it.
use Rattle.std.specs.Prelude.{ℕ, ◌+◌, List, [], ◌∷◌, Result, Ok}
use Rattle.pb_base.specs.Results.{and_then}
use Rattle.book_text.specs.Fault.{at_row}
use Rattle.book_text.specs.declared.fault.BookFault.{BookFault}
use Rattle.book_text.specs.declared.fault.BookKind.{BookKind}

-- what the rows make of a state, step by step, where the first of them has the number n
unfoldable pub pass : {S X : Type 0} → (S → X → Result S BookKind) → ℕ → S → List X → Result S BookFault
pass step n state [] = Ok state
pass step n state (row ∷ rows) = and_then (at_row n (step state row)) (λ next. pass step (n + 1) next rows)
