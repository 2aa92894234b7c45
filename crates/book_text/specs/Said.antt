-- What the rows say: the record of each, and the text beside it. The second pass needs no more of them.
use Rattle.std.specs.Prelude.{◌≡◌, ℕ, List, [], ◌∷◌, Result, Ok}
use Rattle.std.specs.List.{zip}
use Rattle.book_text.specs.Rows.{Row}
use Rattle.book_text.specs.Entry.{entry_of, text_of}
use Rattle.book_text.specs.Pass.{pass}
use Rattle.book_text.specs.Records.{Records}
use Rattle.book_text.specs.SecondPass.{resolved}
use Rattle.book_text.specs.declared.entry.Heading.{Heading}
use Rattle.book_text.specs.declared.names.Names.{Names}
use Rattle.book_text.specs.declared.entry.Entry.{Entry}
use Rattle.book_text.specs.declared.fault.BookFault.{BookFault}

-- the rows say these records, and these are the texts beside them
unfoldable pub AreSaid : Heading → List Row → List Entry → List (List ℕ) → Type 0
AreSaid heading [] [] [] = Unit {0}
AreSaid heading (row ∷ rows) (entry ∷ entries) (text ∷ texts) =
    (entry_of heading row ≡ Ok entry) × (text ≡ text_of entry row) × AreSaid heading rows entries texts
AreSaid heading _ _ _ = ⊥

-- the second pass, over what the rows say
abbrev pub said_pass : Names → ℕ → Records → List Entry → List (List ℕ) → Result Records BookFault
said_pass names n r entries texts = pass (λ state said. resolved names state said.0 said.1) n r (zip entries texts)
