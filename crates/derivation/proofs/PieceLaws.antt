-- A text splits at its first separator.
use Rattle.std.proofs.Common.{cond, sym, IsTrue, ◌≡◌, ℕ, ◌+◌, ◌<◌, ◌≤◌, Bool, true, false, List, [], ◌∷◌, length, take, drop, get_or, eqb, ap, ◌∙◌, refl, arith, suc, zero, eq-eqb}
use Rattle.std.specs.List.{onto_first}
use Rattle.std.proofs.lemmas.List.Splits.{slice_split-cons_yes, slice_split-cons_no, length-slice_split}
use Rattle.std.proofs.lemmas.Bool.Decides.{nat_tests}
use Rattle.std.proofs.lemmas.Bool.{eqb-true}
use Rattle.memchr.specs.Find.{Nowhere, NoneBefore, Passes, is_byte}
use Rattle.derivation.specs.Pieces.{pieces, pieces_left, EndsPiece}

other_byte : (x y : ℕ) → (x ≡ y → ⊥) → eqb x y ≡ false
other_byte x y differs = grind (arith, nat_tests)

-- the first piece ends at the first separator
pub pieces_at : (separator : ℕ) (text : List ℕ) (i : ℕ) → i < length text → ((k : ℕ) → k < i → get_or text k 0 ≡ separator → ⊥) → get_or text i 0 ≡ separator
    → pieces separator text ≡ take i text ∷ pieces separator (drop (i + 1) text)
pieces_at separator [] i within before found = absurd (omega arith)
pieces_at separator (x ∷ xs) zero within before found = slice_split-cons_yes (λ b. eqb b separator) x xs (eq-eqb x separator found)
pieces_at separator (x ∷ xs) (suc i) within before found =
    let here : eqb x separator ≡ false = other_byte x separator (before 0 (omega arith)) in
    let rest : pieces separator xs ≡ take i xs ∷ pieces separator (drop (i + 1) xs) = pieces_at separator xs i (omega arith) (λ k below. before (suc k) (omega arith)) found in
    let next : suc i + 1 ≡ suc (i + 1) = omega arith in
    slice_split-cons_no (λ b. eqb b separator) x xs here ∙ rw next (ap (onto_first x) rest)

-- without a separator the text is the one piece
pub pieces_without : (separator : ℕ) (text : List ℕ) (i : ℕ) → i ≡ length text → ((k : ℕ) → k < i → get_or text k 0 ≡ separator → ⊥) → pieces separator text ≡ text ∷ []
pieces_without separator [] i all before = refl
pieces_without separator (x ∷ xs) i all before =
    let here : eqb x separator ≡ false = other_byte x separator (before 0 (omega arith)) in
    let rest : pieces separator xs ≡ xs ∷ [] = pieces_without separator xs (length xs) refl (λ k below. before (suc k) (omega arith)) in
    slice_split-cons_no (λ b. eqb b separator) x xs here ∙ ap (onto_first x) rest

pub pieces_are_some : (separator : ℕ) (text : List ℕ) → pieces separator text ≡ [] → ⊥
pieces_are_some separator text empty =
    let none : length (pieces separator text) ≡ 0 = ap length empty in
    omega (arith, none, length-slice_split (λ b. eqb b separator) text)

-- what a reader that is not done gives next, and what it then has left
pub first_piece : (now : List (List ℕ)) (done : Bool) (separator : ℕ) (text : List ℕ) (i : ℕ) → pieces_left done separator text ≡ now → done ≡ false
    → (i ≡ length text → ⊥) → EndsPiece separator text i → now ≡ take i text ∷ pieces_left done separator (drop (i + 1) text)
first_piece now true separator text i is more inside ends = absurd (cc)
first_piece now false separator text i is more inside ends =
    let below : i < length text = omega (arith, ends.within) in sym is ∙ pieces_at separator text i below ends.before (ends.found below)

pub last_piece : (now : List (List ℕ)) (done : Bool) (separator : ℕ) (text : List ℕ) (i : ℕ) → pieces_left done separator text ≡ now → done ≡ false
    → i ≡ length text → EndsPiece separator text i → now ≡ text ∷ []
last_piece now true separator text i is more all ends = absurd (cc)
last_piece now false separator text i is more all ends = sym is ∙ pieces_without separator text i all ends.before

-- the first piece ends at the first separator that is found
pub ends_there : (separator : ℕ) (text : List ℕ) (end : ℕ) → NoneBefore (Passes (is_byte separator) text) 0 (length text) end → Passes (is_byte separator) text end → EndsPiece separator text end
ends_there separator text end before found = record {
  within = let below : end < length text = before.high in omega arith;
  before = λ k below is. before.before k (omega arith) below (eq-eqb (get_or text k 0) separator is);
  found = λ _. eqb-true (get_or text end 0) separator found;
}

pub ends_with_text : (separator : ℕ) (text : List ℕ) → Nowhere (Passes (is_byte separator) text) 0 (length text) → EndsPiece separator text (length text)
ends_with_text separator text none = record {
  within = omega arith;
  before = λ k below is. none k (omega arith) below (eq-eqb (get_or text k 0) separator is);
  found = λ below. absurd (omega arith);
}

pub none_when_done : (now : List (List ℕ)) (done : Bool) (separator : ℕ) (text : List ℕ) → pieces_left done separator text ≡ now
    → (IsTrue done → now ≡ []) × (now ≡ [] → IsTrue done)
none_when_done now true separator text is = ((λ _. sym is), (λ _. refl))
none_when_done now false separator text is = ((λ h. absurd (cc)), (λ e. absurd (pieces_are_some separator text (is ∙ e))))

-- a text has at most one piece more than bytes
pub pieces_few : (separator : ℕ) (text : List ℕ) → length (pieces separator text) ≤ length text + 1
pieces_few separator [] = omega arith
pieces_few separator (x ∷ xs) = few (eqb x separator) x (pieces separator xs) (pieces_few separator xs)
  where
    few : (t : Bool) (x : ℕ) (ps : List (List ℕ)) → length ps ≤ length xs + 1 → length (cond t ([] ∷ ps) (onto_first x ps)) ≤ suc (length xs) + 1
    few true x ps h = omega arith
    few false x [] h = omega arith
    few false x (p ∷ ps) h = omega arith

pub left_few : (now : List (List ℕ)) (done : Bool) (separator : ℕ) (text : List ℕ) → pieces_left done separator text ≡ now → length now ≤ length text + 1
left_few now true separator text is = let none : 0 ≡ length now = ap length is in omega arith
left_few now false separator text is = let same : length (pieces separator text) ≡ length now = ap length is in omega (arith, pieces_few separator text)
