-- One step of a pass, and the second pass over what the rows say.
use Rattle.std.proofs.Common.{◌≡◌, ◌+◌, ◌<◌, ◌≤◌, ℕ, List, [], ◌∷◌, Result, Ok, Err, refl, ◌∙◌, ap, length, get_or, drop, ◌++◌, arith}
use Rattle.std.specs.List.{zip}
use Rattle.std.proofs.lemmas.List.{drop_more, drop_all}
use Rattle.book_text.specs.Rows.{Row, IsShort}
use Rattle.pb_base.specs.Results.{and_then}
use Rattle.pb_base.specs.declared.limits.TheConstants.{MOST_TEXT_BYTES}
use Rattle.book_text.specs.Fault.{at_row}
use Rattle.book_text.specs.Pass.{pass}
use Rattle.book_text.specs.Entry.{entry_of, text_of}
use Rattle.book_text.specs.Records.{Records}
use Rattle.book_text.specs.Said.{AreSaid, said_pass}
use Rattle.book_text.specs.SecondPass.{resolved, resolved_row}
use Rattle.book_text.specs.declared.entry.Heading.{Heading}
use Rattle.book_text.specs.declared.names.Names.{Names}
use Rattle.book_text.specs.declared.entry.Entry.{Entry}
use Rattle.book_text.specs.declared.entry.Entry.TheVariants as e
use Rattle.book_text.specs.declared.fault.BookFault.{BookFault}
use Rattle.book_text.specs.declared.fault.BookKind.{BookKind}

module _ {S X : Type 0} (step : S → X → Result S BookKind) where
  pub pass-more : (n : ℕ) (state next : S) (x : X) (rest : List X) → step state x ≡ Ok next → pass step n state (x ∷ rest) ≡ pass step (n + 1) next rest
  unfolding pass
  pass-more n state next x rest e = rw e refl

  pub pass-fault : (n : ℕ) (state : S) (x : X) (rest : List X) (kind : BookKind) → step state x ≡ Err kind → pass step n state (x ∷ rest) ≡ Err (record { row = n; kind = kind })
  unfolding pass
  pass-fault n state x rest kind e = rw e refl

  pub pass-end : (n : ℕ) (state : S) → pass step n state [] ≡ Ok state
  unfolding pass
  pass-end n state = refl

-- what follows a step is the same where it is for each state
same-after : {S T : Type 0} (n : ℕ) (r : Result S BookKind) (f g : S → Result T BookFault) → ((state : S) → f state ≡ g state)
    → and_then (at_row n r) f ≡ and_then (at_row n r) g
same-after n (Ok state) f g h = h state
same-after n (Err kind) f g h = refl

-- the second pass over the rows is that over what they say
pub rows-said : (heading : Heading) (names : Names) (n : ℕ) (r : Records) (rows : List Row) (entries : List Entry) (texts : List (List ℕ)) → AreSaid heading rows entries texts
    → pass (resolved_row heading names) n r rows ≡ said_pass names n r entries texts
unfolding pass AreSaid
rows-said heading names n r [] [] [] h = refl
rows-said heading names n r [] [] (text ∷ texts) h = absurd h
rows-said heading names n r [] (entry ∷ entries) texts h = absurd h
rows-said heading names n r (row ∷ rows) [] texts h = absurd h
rows-said heading names n r (row ∷ rows) (entry ∷ entries) [] h = absurd h
rows-said heading names n r (row ∷ rows) (entry ∷ entries) (text ∷ texts) (said, is, more) =
    rw (said, is) (
    same-after n (resolved names r entry (text_of entry row))
    (λ next. pass (resolved_row heading names) (n + 1) next rows)
    (λ next. said_pass names (n + 1) next entries texts)
    (λ next. rows-said heading names (n + 1) next rows entries texts more))

-- the rows say as many records, with as many texts
pub said-counts : (heading : Heading) (rows : List Row) (entries : List Entry) (texts : List (List ℕ)) → AreSaid heading rows entries texts
    → (length entries ≡ length rows) × (length texts ≡ length rows)
unfolding AreSaid
said-counts heading [] [] [] h = (refl, refl)
said-counts heading [] [] (text ∷ texts) h = absurd h
said-counts heading [] (entry ∷ entries) texts h = absurd h
said-counts heading (row ∷ rows) [] texts h = absurd h
said-counts heading (row ∷ rows) (entry ∷ entries) [] h = absurd h
said-counts heading (row ∷ rows) (entry ∷ entries) (text ∷ texts) (said, is, more) =
    let rest = said-counts heading rows entries texts more in (omega (arith, rest.0), omega (arith, rest.1))

-- one row more, and what it says
pub said-push : (heading : Heading) (rows : List Row) (entries : List Entry) (texts : List (List ℕ)) (row : Row) (entry : Entry)
    → AreSaid heading rows entries texts → entry_of heading row ≡ Ok entry → AreSaid heading (rows ++ row ∷ []) (entries ++ entry ∷ []) (texts ++ text_of entry row ∷ [])
unfolding AreSaid
said-push heading [] [] [] row entry h is = (is, refl, tt)
said-push heading [] [] (t ∷ texts) row entry h is = absurd h
said-push heading [] (x ∷ entries) texts row entry h is = absurd h
said-push heading (r ∷ rows) [] texts row entry h is = absurd h
said-push heading (r ∷ rows) (x ∷ entries) [] row entry h is = absurd h
said-push heading (r ∷ rows) (x ∷ entries) (t ∷ texts) row entry (said, text, more) is = (said, text, said-push heading rows entries texts row entry more is)

-- what is left of two lists, side by side, from a place in both on
zip-drop : {X Y : Type 0} (xs : List X) (ys : List Y) (k : ℕ) (x : X) (y : Y) → k < length xs → k < length ys
    → zip (drop k xs) (drop k ys) ≡ (get_or xs k x, get_or ys k y) ∷ zip (drop (k + 1) xs) (drop (k + 1) ys)
zip-drop xs ys k x y in_xs in_ys = rw (drop_more xs k x in_xs, drop_more ys k y in_ys) refl

-- the pass over what the rows from a place on say
module _ (names : Names) (k : ℕ) (r : Records) (entries : List Entry) (texts : List (List ℕ)) where
  abbrev pub said_rest : Result Records BookFault
  said_rest = said_pass names (k + 2) r (drop k entries) (drop k texts)

  rest-at : (entry : Entry) → k < length entries → k < length texts → entry ≡ get_or entries k entry
      → said_rest ≡ pass (λ state said. resolved names state said.0 said.1) (k + 2) r ((entry, get_or texts k []) ∷ zip (drop (k + 1) entries) (drop (k + 1) texts))
  rest-at entry in_entries in_texts is =
      ap (λ (said : List (Entry × List ℕ)). pass (λ state said. resolved names state said.0 said.1) (k + 2) r said)
      (rw (← is) at (zip-drop entries texts k entry [] in_entries in_texts))

  pub said-more : (next : Records) (entry : Entry) → k < length entries → k < length texts → entry ≡ get_or entries k entry
      → resolved names r entry (get_or texts k []) ≡ Ok next → said_rest ≡ said_pass names (k + 1 + 2) next (drop (k + 1) entries) (drop (k + 1) texts)
  said-more next entry in_entries in_texts is here =
      let number : k + 2 + 1 ≡ k + 1 + 2 = omega arith in
      rest-at entry in_entries in_texts is
      ∙ pass-more (λ state said. resolved names state said.0 said.1) (k + 2) r next (entry, get_or texts k []) (zip (drop (k + 1) entries) (drop (k + 1) texts)) here
      ∙ ap (λ n. said_pass names n next (drop (k + 1) entries) (drop (k + 1) texts)) number

  pub said-fault : (entry : Entry) (kind : BookKind) → k < length entries → k < length texts → entry ≡ get_or entries k entry
      → resolved names r entry (get_or texts k []) ≡ Err kind → said_rest ≡ Err (record { row = k + 2; kind = kind })
  said-fault entry kind in_entries in_texts is here =
      rest-at entry in_entries in_texts is
      ∙ pass-fault (λ state said. resolved names state said.0 said.1) (k + 2) r (entry, get_or texts k []) (zip (drop (k + 1) entries) (drop (k + 1) texts)) kind here

  pub said-end : length entries ≤ k → said_rest ≡ Ok r
  said-end past =
      let none : zip (drop k entries) (drop k texts) ≡ [] = rw (drop_all k entries past) refl in
      ap (λ (said : List (Entry × List ℕ)). pass (λ state said. resolved names state said.0 said.1) (k + 2) r said) none
      ∙ pass-end (λ state (said : Entry × List ℕ). resolved names state said.0 said.1) (k + 2) r

-- the text beside a record is as short as the fields of its row
pub text-short : (entry : Entry) (row : Row) → IsShort row → length (text_of entry row) ≤ MOST_TEXT_BYTES
text-short (e.Code name) row h = omega arith
text-short (e.Supplement id rank code days) row h = h 4
text-short (e.Construct id on days) row h = h 3
text-short (e.Group id kind days) row h = h 3
text-short (e.Module id) row h = omega arith
text-short (e.Position id group mandatory days) row h = omega arith
text-short (e.Variant id position part quantity days) row h = h 5
