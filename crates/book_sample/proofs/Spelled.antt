-- The lines of the generated book are those of its records.
use Rattle.std.proofs.Common.{◌≡◌, ℕ, zero, suc, ◌+◌, ◌*◌, ◌<◌, ◌≤◌, List, [], ◌∷◌, ◌++◌, Option, None, Some, length, get_or, refl, sym, ap, ◌∙◌, append_assoc, arith}
use Rattle.std.specs.Prelude.{codes, map, IfSome}
use Rattle.std.specs.List.{concat}
use Rattle.std.specs.Fmt.{decimal}
use Rattle.std.proofs.lemmas.Fmt.{decimal_digit, decimal_step}
use Rattle.book_text.specs.declared.names.Names.{Names}
use Rattle.book_sample.specs.Item.{Item, a_module}
use Rattle.book_sample.specs.Rows.{name_at, heading_row, row_of}
use Rattle.book_sample.specs.Text.{line_of, text_of_rows}
use Rattle.book_sample.specs.Book.{text_of}
use Rattle.book_sample.specs.Names.{name, names, code_name, place}
use Rattle.book_sample.specs.Fits.{BoundFits, ChoiceFits, GroupsFit}
use Rattle.book_sample.specs.Lines.{heading_line, code_line, module_line, supplement_line, some_line, alone_line, bound_line, bound_text, position_line, variant_line, codes_text, groups_text}
use Rattle.book_sample.specs.declared.group.Bound.{Bound}
use Rattle.book_sample.specs.declared.group.Choice.{Choice}
use Rattle.book_sample.specs.declared.group.Group.{Group}
use Rattle.book_sample.proofs.Items.{heading, supplement_item, some_item, alone_item, bound_item, position_item, variant_item, bound_then, variants_then, group_items, code_items, sample_items}
use Rattle.book_sample.proofs.ByKind.{position_ids, sample_names, names_are}
use Rattle.book_sample.proofs.Fitting.{Counts}

name_in_order : (letter n i k : ℕ) → k < n → get_or (names letter n i) k [] ≡ name letter (i + k)
name_in_order letter zero i k below = absurd (omega arith)
name_in_order letter (suc n) i zero below = let here : i ≡ i + 0 = omega arith in ap (name letter) here
name_in_order letter (suc n) i (suc k) below =
    let there : suc i + k ≡ i + suc k = omega arith in name_in_order letter n (suc i) k (omega arith) ∙ ap (name letter) there

-- the name of each code of the book
pub code_at : (n k : ℕ) → k < n → get_or (names 75 n 0) k [] ≡ code_name k
code_at n k below = let here : 0 + k ≡ k = omega arith in name_in_order 75 n 0 k below ∙ ap (name 75) here

position_in_order : (j k : ℕ) (gs : List Group) → k < length gs → get_or (position_ids j gs) k [] ≡ name 80 (j + k)
position_in_order j k [] below = absurd (omega arith)
position_in_order j zero (g ∷ gs) below = let here : j ≡ j + 0 = omega arith in ap (name 80) here
position_in_order j (suc k) (g ∷ gs) below =
    let there : suc j + k ≡ j + suc k = omega arith in position_in_order (suc j) k gs (omega arith) ∙ ap (name 80) there

position_at : (k : ℕ) (gs : List Group) → k < length gs → get_or (position_ids 0 gs) k [] ≡ name 80 k
position_at k gs below = let here : 0 + k ≡ k = omega arith in position_in_order 0 k gs below ∙ ap (name 80) here

thousand : decimal 1000 ≡ codes "1000"
thousand =
    decimal_step 1000 (omega arith) (omega arith) ∙ ap (λ ds. ds ++ 48 ∷ []) (decimal_step 100 (omega arith) (omega arith)
    ∙ ap (λ ds. ds ++ 48 ∷ []) (decimal_step 10 (omega arith) (omega arith) ∙ ap (λ ds. ds ++ 48 ∷ []) (decimal_digit 1 (omega arith))))

heading_is : line_of (heading_row heading) ≡ heading_line
heading_is = rw (decimal_digit 1 (omega arith), thousand) refl

-- a line and what follows it
line_then : (a b rest others : List ℕ) → a ≡ b → rest ≡ others → a ++ rest ≡ b ++ others
line_then a b rest others here later = cc

twelve : (a1 a2 a3 a4 a5 a6 a7 a8 a9 a10 a11 a12 rest : List ℕ)
    → a1 ++ (a2 ++ (a3 ++ (a4 ++ (a5 ++ (a6 ++ (a7 ++ (a8 ++ (a9 ++ (a10 ++ (a11 ++ (a12 ++ rest)))))))))))
    ≡ concat (a1 ∷ a2 ∷ a3 ∷ a4 ∷ a5 ∷ a6 ∷ a7 ∷ a8 ∷ a9 ∷ a10 ∷ a11 ∷ a12 ∷ []) ++ rest
twelve a1 a2 a3 a4 a5 a6 a7 a8 a9 a10 a11 a12 rest = simp append_assoc

module _ (n : ℕ) (all : List Group) (c : Counts n all) where
  -- the names of the book
  abbrev here : Names
  here = sample_names n all

  at : (j e : ℕ) → j < length all → e < 4 → name_at here.codes (place j e) ≡ code_name (place j e)
  at j e inside few = code_at n (place j e) (omega (arith, c.codes))

  supplement_is : (j : ℕ) (g : Group) → j < length all → g.adds < 4 → line_of (row_of here (supplement_item j g)) ≡ supplement_line j g
  supplement_is j g inside few =
      rw (at j g.adds inside few, at j 0 inside (omega arith), at j 1 inside (omega arith), at j 2 inside (omega arith), at j 3 inside (omega arith)) refl

  some_is : (j : ℕ) → j < length all → line_of (row_of here (some_item j)) ≡ some_line j
  some_is j inside = rw (at j 0 inside (omega arith), at j 1 inside (omega arith), at j 2 inside (omega arith), at j 3 inside (omega arith)) refl

  alone_is : (j e f g h : ℕ) → j < length all → e < 4 → f < 4 → g < 4 → h < 4 → line_of (row_of here (alone_item j e f g h)) ≡ alone_line j e f g h
  alone_is j e f g h inside in_e in_f in_g in_h = rw (at j e inside in_e, at j f inside in_f, at j g inside in_g, at j h inside in_h) refl

  bound_is : (j : ℕ) (b : Bound) → j < length all → BoundFits j b → line_of (row_of here (bound_item j b)) ≡ bound_line j b
  bound_is j b inside fit = rw (at j b.code inside fit.code, at b.group b.forbids (omega (arith, fit.group)) fit.forbids) refl

  position_is : (j : ℕ) → line_of (row_of here (position_item j)) ≡ position_line j
  position_is j = refl

  variant_by : (j e quantity : ℕ) (other : Option ℕ) → j < length all → e < 4 → IfSome other (λ place. place < 4 * j)
      → line_of (row_of here (variant_item j e (record { quantity = quantity; other = other }))) ≡ variant_line j e (record { quantity = quantity; other = other })
  variant_by j e quantity None inside few fit =
      let own = at j e inside few in let position = position_at j all (omega arith) in rw (position, own) refl
  variant_by j e quantity (Some other) inside few fit =
      let own = at j e inside few in
      let theirs = code_at n other (omega (arith, c.codes)) in
      let position = position_at j all (omega arith) in
      rw (position, own, theirs) refl

  variant_is : (j e : ℕ) (choice : Choice) → j < length all → e < 4 → ChoiceFits j choice → line_of (row_of here (variant_item j e choice)) ≡ variant_line j e choice
  variant_is j e choice inside few fit = variant_by j e choice.quantity choice.other inside few fit.other

  bounds_are : (j : ℕ) (o : Option Bound) (items : List Item) → j < length all → IfSome o (BoundFits j)
      → text_of_rows (map (row_of here) (bound_then j o items)) ≡ bound_text j o ++ text_of_rows (map (row_of here) items)
  bounds_are j None items inside fit = refl
  bounds_are j (Some b) items inside fit = ap (λ line. line ++ text_of_rows (map (row_of here) items)) (bound_is j b inside fit)

  groups_are : (j : ℕ) (gs : List Group) → GroupsFit j gs → j + length gs ≤ length all → text_of_rows (map (row_of here) (group_items j gs)) ≡ groups_text j gs
  unfolding groups_text
  groups_are j [] fit room = refl
  groups_are j (g ∷ gs) (fit, later) room =
      let inside : j < length all = omega arith in
      line_then _ _ _ _ (supplement_is j g inside fit.adds) (line_then _ _ _ _ (some_is j inside)
      (line_then _ _ _ _ (alone_is j 0 1 2 3 inside (omega arith) (omega arith) (omega arith) (omega arith))
      (line_then _ _ _ _ (alone_is j 1 0 2 3 inside (omega arith) (omega arith) (omega arith) (omega arith))
      (line_then _ _ _ _ (alone_is j 2 0 1 3 inside (omega arith) (omega arith) (omega arith) (omega arith))
      (line_then _ _ _ _ (alone_is j 3 0 1 2 inside (omega arith) (omega arith) (omega arith) (omega arith))
      (bounds_are j g.bound (variants_then j g (group_items (suc j) gs)) inside fit.bound
      ∙ ap (λ rest. bound_text j g.bound ++ rest) (line_then _ _ _ _ (position_is j)
      (line_then _ _ _ _ (variant_is j 0 g.first inside (omega arith) fit.first) (line_then _ _ _ _ (variant_is j 1 g.second inside (omega arith) fit.second)
      (line_then _ _ _ _ (variant_is j 2 g.third inside (omega arith) fit.third) (line_then _ _ _ _ (variant_is j 3 g.fourth inside (omega arith) fit.fourth)
      (groups_are (suc j) gs later (omega arith)))))))))))))
      ∙ twelve (supplement_line j g) (some_line j) (alone_line j 0 1 2 3) (alone_line j 1 0 2 3) (alone_line j 2 0 1 3) (alone_line j 3 0 1 2) (bound_text j g.bound)
      (position_line j) (variant_line j 0 g.first) (variant_line j 1 g.second) (variant_line j 2 g.third) (variant_line j 3 g.fourth) (groups_text (suc j) gs)

  codes_are : (count i : ℕ) (items : List Item) → text_of_rows (map (row_of here) (code_items count i items)) ≡ codes_text count i ++ text_of_rows (map (row_of here) items)
  unfolding codes_text
  codes_are zero i items = refl
  codes_are (suc count) i items =
      ap (λ rest. code_line i ++ rest) (codes_are count (suc i) items) ∙ sym (append_assoc (code_line i) (codes_text count (suc i)) (text_of_rows (map (row_of here) items)))

-- the text of the records is that of the lines
pub text_is : (n : ℕ) (gs : List Group) → Counts n gs → GroupsFit 0 gs
    → text_of heading (sample_items n gs) ≡ heading_line ++ (codes_text n 0 ++ (module_line ++ groups_text 0 gs))
text_is n gs c fit =
    ap (λ all. text_of_rows (heading_row heading ∷ map (row_of all) (sample_items n gs))) (names_are n gs)
    ∙ line_then (line_of (heading_row heading)) heading_line _ _ heading_is
    (codes_are n gs c n 0 (a_module (codes "M") ∷ group_items 0 gs)
    ∙ ap (λ rest. codes_text n 0 ++ (module_line ++ rest)) (groups_are n gs c 0 gs fit (omega arith)))
