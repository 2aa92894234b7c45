-- A part that a set has stands in a line of the set's parts list.
use Rattle.std.proofs.Common.{inl, inr, ◌≡◌, ℕ, zero, suc, ◌+◌, Bool, true, false, not, ◌&&◌, ◌||◌, cond, eqb, List, [], ◌∷◌, ◌++◌, Option, Some, None, Ok, refl, sym, ap, ◌∙◌, arith}
use Rattle.std.specs.Cmp.Lexicographic.{bytes_decides}
use Rattle.std.specs.Fmt.{decimal}
use Rattle.std.specs.List.{filter, list_any, slice_get}
use Rattle.std.specs.Option.{option_map_or}
use Rattle.std.specs.Prelude.{codes}
use Rattle.std.proofs.lemmas.Bool.{and_from, and_parts, cases_Bool, cond-false, cond-true, eq-eqb, false≢true, or_left, or_right}
use Rattle.std.proofs.lemmas.List.Folds.{Any-from_list_any, list_any-from_Any}
use Rattle.std.proofs.lemmas.Option.{slice_get-get_or}
use Rattle.pb_base.specs.Names.{same_name}
use Rattle.pb_base.specs.Results.{unless}
use Rattle.pb_base.specs.Rule.{Rule, holds}
use Rattle.book_model.specs.Activity.{is_within}
use Rattle.book_model.specs.Contents.{Contents}
use Rattle.book_model.specs.Parts.{PartsLine, is_active_position, is_selected, is_selected_at, lines_at, parts, selected, selected_of, variants_from, variants_of}
use Rattle.book_model.specs.declared.record.Variant.{Variant}
use Rattle.parts_usage.specs.Outcome.{judged, outcome_of}
use Rattle.parts_usage.specs.declared.judgement.Outcome.TheVariants.{Accepted}
use Rattle.parts_usage.specs.declared.unfit.Unfit.{Unfit}
use Rattle.release.specs.Accepting.{accepts, is_accepted}
use Rattle.release.specs.Orders.{lines_of}
use Rattle.release.proofs.OrderLaws.{lines_are_selected}
use Rattle.requirements.specs.declared.requirement.Claim.TheVariants.{Uses}
use Rattle.kept_requirements.specs.Kept.{carries, has_part, is_active_at, keeps}
use Rattle.requirement_laws.specs.Laws.{HasLineOf, IsLineOf}

-- of the items that a test keeps, and of a position's lines
any_kept : {X : Type 0} (w p : X → Bool) (xs : List X) → list_any p (filter w xs) ≡ list_any (λ x. w x && p x) xs
any_kept w p [] = refl
any_kept w p (x ∷ xs) = elim (cases_Bool (w x)) [
  | inl e ↦
      ap (list_any p) (cond-true (w x) (x ∷ filter w xs) (filter w xs) e) ∙ ap (λ t. p x || t) (any_kept w p xs)
      ∙ ap (λ t. (t && p x) || list_any (λ y. w y && p y) xs) (sym e)
  | inr e ↦
      ap (list_any p) (cond-false (w x) (x ∷ filter w xs) (filter w xs) e) ∙ any_kept w p xs
      ∙ ap (λ t. (t && p x) || list_any (λ y. w y && p y) xs) (sym e)
]

any_line : (has : PartsLine → Bool) (place : ℕ) (ns : List ℕ) → list_any has (lines_at place ns) ≡ list_any (λ n. has (record { position = place; variant = n })) ns
any_line has place [] = refl
any_line has place (n ∷ ns) = ap (λ t. has (record { position = place; variant = n }) || t) (any_line has place ns)

-- what passes a test passes a weaker one
any_weaker : {X : Type 0} (p q : X → Bool) (xs : List X) → ((x : X) → p x ≡ true → q x ≡ true) → list_any p xs ≡ true → list_any q xs ≡ true
any_weaker p q xs weaker some =
    let at = Any-from_list_any p xs some in
    list_any-from_Any q xs (at.0, at.1, at.2, at.3, weaker at.1 at.4)

-- what passes is there
some_there : {X : Type 0} (test : X → Bool) (o : Option X) → option_map_or test o false ≡ true → (y : X) × (o ≡ Some y) × (test y ≡ true)
some_there test None h = absurd (false≢true h)
some_there test (Some y) h = (y, refl, h)

behind : (t : Bool) (test : ℕ → Bool) (n : ℕ) (ns : List ℕ) → list_any test ns ≡ true → list_any test (cond t (n ∷ ns) ns) ≡ true
behind true test n ns h = or_right (test n) (list_any test ns) h
behind false test n ns h = h

-- the place of a variant is among those of its position
among : (test : ℕ → Bool) (vs : List Variant) (i k : ℕ) (v : Variant) → slice_get vs k ≡ Some v → test (i + k) ≡ true → list_any test (variants_from i v.position vs) ≡ true
among test [] i k v there passes = absurd (cc)
among test (w ∷ vs) i zero v there passes =
    let same : w ≡ v = cc in
    let first : i ≡ i + zero = omega arith in
    let rest : List ℕ = variants_from (suc i) v.position vs in
    ap (list_any test) (cond-true (eqb w.position v.position) (i ∷ rest) rest (eq-eqb w.position v.position (ap (λ (u : Variant). u.position) same)))
    ∙ or_left (test i) (list_any test rest) (ap test first ∙ passes)
among test (w ∷ vs) i (suc k) v there passes =
    let next : suc i + k ≡ i + suc k = omega arith in
    behind (eqb w.position v.position) test i (variants_from (suc i) v.position vs) (among test vs (suc i) k v there (ap test next ∙ passes))

module _ (b : Contents) (day : ℕ) (part : List ℕ) (x : List Bool) where
  -- the variant at a place has the part
  abbrev of_part : ℕ → Bool
  of_part place = option_map_or (λ (v : Variant). same_name v.part part) (slice_get b.variants place) false

  abbrev has_it : PartsLine → Bool
  has_it l = of_part l.variant

  -- a variant with the part that is used stands in the list
  used : (k : ℕ) (v : Variant) → slice_get b.variants k ≡ Some v → (carries b day part v && holds v.rule x) ≡ true → list_any has_it (parts b day x) ≡ true
  used k v there passes =
      let p = and_parts (carries b day part v) (holds v.rule x) passes in
      let q = and_parts (same_name v.part part && is_within v.from v.until day) (is_active_at b day v.position) p.0 in
      let r = and_parts (same_name v.part part) (is_within v.from v.until day) q.0 in
      let at = some_there (is_active_position day) (slice_get b.positions v.position) q.1 in
      let own : List ℕ = selected b day x v.position at.0 in
      let test : ℕ → Bool = λ n. is_selected_at b day x n && of_part n in
      let first : 0 + k ≡ k = omega arith in
      let chosen : test k ≡ true =
      and_from _ _
      (ap (λ (o : Option Variant). option_map_or (is_selected day x) o false) there ∙ and_from _ _ r.1 p.1)
      (ap (λ (o : Option Variant). option_map_or (λ (w : Variant). same_name w.part part) o false) there ∙ r.0) in
      let among_own : list_any of_part own ≡ true =
      ap (λ t. list_any of_part (cond t (selected_of b day x v.position) [])) at.2
      ∙ any_kept (is_selected_at b day x) of_part (variants_of v.position b.variants) ∙ among test b.variants 0 k v there (ap test first ∙ chosen) in
      let among_lines : list_any has_it (lines_of v.position (parts b day x)) ≡ true =
      ap (list_any has_it) (lines_are_selected b day x v.position at.0 at.1)
      ∙ any_line has_it v.position own ∙ among_own in
      any_weaker (λ (l : PartsLine). eqb l.position v.position && has_it l) has_it (parts b day x)
      (λ l h. (and_parts (eqb l.position v.position) (has_it l) h).1)
      (sym (any_kept (λ (l : PartsLine). eqb l.position v.position) has_it (parts b day x)) ∙ among_lines)

  -- a line whose variant has the part is printed with it
  line_of : (l : PartsLine) → has_it l ≡ true → IsLineOf b part l
  line_of l h =
      let at = some_there (λ (v : Variant). same_name v.part part) (slice_get b.variants l.variant) h in
      record {
        quantity = at.0.quantity;
        printed =
            ap (λ (o : Option Variant). option_map_or (λ (v : Variant). v.part ++ codes "," ++ decimal v.quantity) o []) at.1
            ∙ ap (λ (name : List ℕ). name ++ codes "," ++ decimal at.0.quantity) ((bytes_decides at.0.part part).0 at.2);
      }

  pub listed : (rule : Rule) → keeps b day (Uses part rule) x ≡ true → holds rule x ≡ true → HasLineOf b part (parts b day x)
  listed rule kept meets =
      let has : has_part b day part x ≡ true = sym (ap (λ t. not t || has_part b day part x) meets) ∙ kept in
      let v = Any-from_list_any (λ (w : Variant). carries b day part w && holds w.rule x) b.variants has in
      let there : slice_get b.variants v.0 ≡ Some v.1 = slice_get-get_or b.variants v.0 v.1 v.2 ∙ ap (λ (w : Variant). Some w) v.3 in
      let l = Any-from_list_any has_it (parts b day x) (used v.0 v.1 there v.4) in
      (l.0, l.1, l.2, l.3, line_of l.1 l.4)

-- an order that comes to codes with a list is accepted
pub accepted_with : (b : Contents) (day : ℕ) (names : List (List ℕ)) (x : List Bool) (list : List PartsLine) → outcome_of b day names ≡ Ok (Accepted x list) → accepts b day names ≡ true
unfolding accepts
accepted_with b day names x list h = ap is_accepted h

-- and these are those by which it was judged
pub came_to : {E : Type 0} (fault : Option E) (broken : Option ℕ) (unfit : Option Unfit) (y x : List Bool) (lines list : List PartsLine)
    → unless fault (Ok (judged broken unfit (Accepted y lines))) ≡ Ok (Accepted x list) → (y ≡ x) × (lines ≡ list)
came_to (Some f) broken unfit y x lines list h = absurd (cc)
came_to None (Some rule) unfit y x lines list h = absurd (cc)
came_to None None (Some u) y x lines list h = absurd (cc)
came_to None None None y x lines list h = (cc, cc)
