-- Where a row is put: a search that has passed the first rows knows what is put among the others.
use Rattle.std.proofs.Common.{◌≡◌, ℕ, ◌+◌, ◌<◌, List, ◌∷◌, ◌++◌, length, take, drop, slice_set, sym, ◌∙◌, ap}
use Rattle.std.proofs.Math.ListN.{get_or}
use Rattle.std.proofs.Math.Numerals.{add-one}
use Rattle.std.proofs.lemmas.List.{drop_more, set_split}
use Rattle.std.specs.declared.cmp.Ordering.{Ordering}
use Rattle.std.specs.declared.cmp.Ordering.TheVariants.{Equal}
use Rattle.keeper.specs.Put.{put, put_by}

module _ {R : Type 0} (C : R → R → Ordering) (row : R) (rows : List R) where
  -- the row belongs behind the first rows, so many
  abbrev pub IsBehind : ℕ → Type 0
  IsBehind place = put C row rows ≡ take place rows ++ put C row (drop place rows)

  module _ (place : ℕ) (other : R) (within : place < length rows) (here : other ≡ get_or rows place other) where
    rest_of : drop place rows ≡ other ∷ drop (place + 1) rows
    rest_of = drop_more rows place other within ∙ ap (λ first. first ∷ drop (place + 1) rows) (sym here)

    by_order : (o : Ordering) → C row other ≡ o → IsBehind place
        → put C row rows ≡ take place rows ++ put_by o row other (drop (place + 1) rows) (put C row (drop (place + 1) rows))
    by_order o is behind =
        behind
        ∙ ap (λ rest. take place rows ++ put C row rest) rest_of
        ∙ ap (λ order. take place rows ++ put_by order row other (drop (place + 1) rows) (put C row (drop (place + 1) rows))) is

    pub put_over : C row other ≡ Equal → IsBehind place → put C row rows ≡ slice_set rows place row
    put_over is behind =
        by_order Equal is behind
        ∙ ap (λ next. take place rows ++ row ∷ drop next rows) (add-one place)
        ∙ sym (set_split rows place row within)
