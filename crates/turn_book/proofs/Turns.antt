-- What a seat goes through within its turn.
use Rattle.std.proofs.Common.{◌≡◌, ℕ, List, [], ◌∷◌, get_or, Option, Some, None, sym, ap, ◌∙◌, subst, subst₂}
use Rattle.atomic_table.specs.Table.{rest}
use Rattle.turn_book.specs.Laws.{StaysValid, StaysFitting}
use Rattle.turn_book.specs.History.{entry, end_of, IsRun}
use Rattle.turn_book.specs.Steps.{Sat, machine_at, Holds, has_counted, at_rest, TakesTurn, HoldsStep, MakesCall}
use Rattle.turn_book.specs.declared.entry.Entry.{Entry}
use Rattle.turn_book.specs.declared.view.View.{View}
use Rattle.turn_book.specs.declared.view.Stage.TheVariants.{Counted}
use Rattle.turn_book.proofs.Histories.{end_of_append, fits_later}

pub some_same : {A : Type 0} (a b : A) → Some a ≡ Some b → a ≡ b
some_same a b e = cc

module _ {M C R : Type 0} where
  -- the machine was taken out of the slot, and another put in its place
  pub swapped : (me0 me1 me2 : Sat M C R) (x m m' : M) (found : Option M) → me0.1 ≡ (0, Some x) ∷ [] → me0.1 ≡ (0, found) ∷ rest me0.1
      → me1 ≡ (me0.0, (0, None) ∷ rest me0.1) → found ≡ Some m → me2 ≡ (me1.0, (0, Some m') ∷ rest me1.1)
      → (m ≡ x) × (me2.0 ≡ me0.0) × (me2.1 ≡ (0, Some m') ∷ [])
  swapped me0 me1 me2 x m m' found held had out is back =
      let had_x : found ≡ Some x = ap (λ (l : List (ℕ × Option M)). (get_or l 0 (0, None)).1) (sym had ∙ held) in
      let same : m ≡ x = cc in
      let none_else : rest me1.1 ≡ [] = ap (λ (s : Sat M C R). rest s.1) out ∙ ap rest held in
      (same, ap (λ (s : Sat M C R). s.0) back ∙ ap (λ (s : Sat M C R). s.0) out, ap (λ (s : Sat M C R). s.1) back ∙ ap (λ (l : List (ℕ × Option M)). (0, Some m') ∷ l) none_else)

  pub holds_step : (fits : M → C → Type 0) (legal : M → C → R → M → Type 0) (start : M) (c c' : C) (a a' : R) (y : M) (me0 me : Sat M C R)
      → me.0 ≡ me0.0 → c' ≡ c → a' ≡ a → Holds me y → fits (machine_at start me0) c → legal (machine_at start me0) c a y → HoldsStep fits legal start (c', a') me
  holds_step fits legal start c c' a a' y me0 me same same_c same_a held f l =
      let here : machine_at start me0 ≡ machine_at start me = sym (ap (λ (v : View M C R). end_of start v.seen) same) in
      (y, held, subst₂ fits here (sym same_c) f, subst (λ (z : M × C × R). legal z.0 z.1 z.2 y) (λ i. (here i, sym same_c i, sym same_a i)) l)

  -- the slot holds the machine after the call that was counted
  pub holds_after : (start : M) (c : C) (a : R) (y : M) (me2 me3 : Sat M C R) → me2.1 ≡ (0, Some y) ∷ [] → me3 ≡ (has_counted (entry c a y) me2.0, me2.1)
      → (me3.0.stage ≡ Counted) × (me3.1 ≡ (0, Some (end_of start me3.0.seen)) ∷ [])
  holds_after start c a y me2 me3 held counted =
      let at_end : end_of start me3.0.seen ≡ y = ap (λ (s : Sat M C R). end_of start s.0.seen) counted ∙ end_of_append start me2.0.seen (entry c a y ∷ []) in
      (ap (λ (s : Sat M C R). s.0.stage) counted, ap (λ (s : Sat M C R). s.1) counted ∙ held ∙ ap (λ (z : M). (0, Some z) ∷ []) (sym at_end))

  pub makes_call : (legal : C → R → M → Type 0) (c c' : C) (a a' : R) (y : M) (me0 me2 me3 me4 : Sat M C R) → c' ≡ c → a' ≡ a → legal c a y → me2.0 ≡ me0.0 → me2.1 ≡ (0, Some y) ∷ []
      → me3 ≡ (has_counted (entry c' a' y) me2.0, me2.1) → me4 ≡ (at_rest me3.0, rest me3.1) → MakesCall legal c a me0 me4
  makes_call legal c c' a a' y me0 me2 me3 me4 same_c same_a l same held counted passed =
      let view_is : at_rest me3.0 ≡ at_rest (has_counted (entry c' a' y) me2.0) = ap (λ (s : Sat M C R). at_rest s.0) counted in
      let call_is : at_rest (has_counted (entry c' a' y) me2.0) ≡ at_rest (has_counted (entry c a y) me0.0) = (λ i. at_rest (has_counted (entry (same_c i) (same_a i) y) (same i))) in
      let held_is : rest me3.1 ≡ [] = ap (λ (s : Sat M C R). rest s.1) counted ∙ ap rest held in
      (y, l, passed ∙ (λ i. ((view_is ∙ call_is) i, held_is i)))

  -- at its turn the seat has seen a run of the machine, and a call that fitted before still fits
  pub at_turn : (fits : M → C → Type 0) (legal : M → C → R → M → Type 0) (valid : M → Type 0) → StaysValid valid fits legal → StaysFitting valid fits legal
      → (start : M) (seen : List (Entry M C R)) (c : C) (me me' : Sat M C R) → TakesTurn (IsRun fits legal valid) start me me' → me.0.seen ≡ seen → fits (end_of start seen) c
      → IsRun fits legal valid start me'.0.seen × fits (end_of start me'.0.seen) c
  at_turn fits legal valid stays_valid stays_fitting start seen c me me' turn same f =
      let later = fits_later fits legal valid stays_valid stays_fitting start turn.log me.0.seen c turn.is_good turn.begins (subst (λ (l : List (Entry M C R)). fits (end_of start l) c) (sym same) f) in
      subst (λ (l : List (Entry M C R)). IsRun fits legal valid start l × fits (end_of start l) c) (sym (ap (λ (s : Sat M C R). s.0.seen) turn.after)) (turn.is_good, later)
