-- Rows that are read one after the other: those seen, and the rest.
use Rattle.std.proofs.Common.{◌≡◌, ℕ, ◌+◌, Bool, true, false, List, [], ◌∷◌, ◌++◌, Option, None, Some, length, refl, sym, ap, ◌∙◌, append-nil}
use Rattle.std.specs.Prelude.{if◌then◌else◌}
use Rattle.std.proofs.lemmas.List.{append_assoc}
use Rattle.order_desk.specs.RightRows.{first_wrong}

pub record IsRead {R : Type 0} (is_right : List R → R → Bool) (rows seen rest : List R) : Type 0 where
  pub whole : rows ≡ seen ++ rest
  pub first : first_wrong is_right [] rows ≡ first_wrong is_right seen rest

module _ {R : Type 0} (is_right : List R → R → Bool) where
  turn : (b : Bool) → List R → R → List R → Option ℕ
  turn b seen row rest = if b then first_wrong is_right (seen ++ row ∷ []) rest else Some (length seen + 1)

  -- a right row is seen
  pub read_more : (rows seen : List R) (row : R) (rest : List R) → IsRead is_right rows seen (row ∷ rest) → is_right seen row ≡ true
      → IsRead is_right rows (seen ++ row ∷ []) rest
  unfolding turn
  read_more rows seen row rest read right = record {
    whole = read.whole ∙ sym (append_assoc seen (row ∷ []) rest);
    first = read.first ∙ ap (λ b. turn b seen row rest) right;
  }

  -- a wrong one is the first
  pub read_wrong : (rows seen : List R) (row : R) (rest : List R) → IsRead is_right rows seen (row ∷ rest) → is_right seen row ≡ false
      → first_wrong is_right [] rows ≡ Some (length seen + 1)
  unfolding turn
  read_wrong rows seen row rest read wrong = read.first ∙ ap (λ b. turn b seen row rest) wrong

  -- all are seen
  pub read_right : (rows seen : List R) → IsRead is_right rows seen [] → first_wrong is_right [] rows ≡ None
  read_right rows seen read = read.first

  pub read_all : (rows seen : List R) → IsRead is_right rows seen [] → seen ≡ rows
  read_all rows seen read = sym (append-nil seen) ∙ sym read.whole
