-- The rule holds at the start, and what it says at the end.
use Rattle.std.proofs.Common.{◌≡◌, ◌≢◌, ℕ, zero, suc, ◌+◌, ◌<◌, ◌≤◌, List, [], ◌∷◌, length, get_or, sum_by, Option, Some, refl, sym, ap, ◌∙◌, subst, arith}
use mathlib.Core.Option.{some, some-injective}
use Rattle.std.proofs.lemmas.Bool.Decides.{nat_tests}
use mathlib.Core.Logic.{dite}
use native.Mathlib.Decide.{ℕ_discrete}
use lib.ListN.{get_elem?}
use Rattle.atomic_table.specs.Table.{State, opening, Final, Seen}
use Rattle.turn_book.specs.History.{end_of, times, once_below, AreAllBelow}
use Rattle.turn_book.specs.Turning.{HasTicket, InTurn, begun, waiting, made, left_of, owns, newcomer, AtStage, Knows, Turning}
use Rattle.turn_book.specs.declared.entry.Entry.{Entry}
use Rattle.turn_book.specs.declared.view.View.{View}
use Rattle.turn_book.specs.declared.view.Stage.{Stage}
use Rattle.turn_book.specs.declared.view.Stage.TheVariants.{Idle, Waits, Turn, Counted}
use Rattle.turn_book.proofs.Totals.{sum_at, sum_two, sum_alone, covers}
use Rattle.turn_book.proofs.Histories.{starts_empty, starts_whole}

module _ {M C R : Type 0} (good : M → List (Entry M C R) → Type 0) (start : M) (limit : ℕ) where
  abbrev V : Type 0
  V = View M C R

  abbrev St : Type 0
  St = State (Option M) V

  abbrev Rule : St → Type 0
  Rule = Turning good start limit

  abbrev drawn : St → ℕ
  drawn s = get_or s.words 0 0

  abbrev serving : St → ℕ
  serving s = get_or s.words 1 0

  -- what the last seat knows when every call is counted
  pub record Closing (v : V) (slots : List (Option M)) : Type 0 where
    pub machine : get_elem? slots 0 ≡ some (Some (end_of start v.seen))
    pub is_good : good start v.seen
    pub made_all : length v.seen ≡ length v.own
    pub own : AreAllBelow (length v.seen) v.own

  pub opens : limit < 18446744073709551616 → good start [] → Rule (opening (0 ∷ 0 ∷ 0 ∷ []) (Some start ∷ []) (newcomer limit))
  opens small begins = record {
    log = [];
    bounded = small;
    three_words = refl;
    one_slot = refl;
    is_good = begins;
    recorded = refl;
    drawn = refl;
    spare = omega arith;
    all_made = refl;
    places = λ x. none_yet x;
    served = omega arith;
    each_seat = one_seat;
    apart = λ i j v w p q a b t. absurd (no_ticket_yet i v p a);
    at_home = λ _. refl;
  }
    where
      none_yet : (x : ℕ) → 0 ≡ once_below x 0
      none_yet x = grind (arith, nat_tests)

      one_seat : (i : ℕ) (v : V) → get_elem? (newcomer limit ∷ []) i ≡ some v → Knows 0 0 [] v
      one_seat zero v e = subst (Knows 0 0 []) (some-injective (newcomer limit) v e)
          record { saw = starts_empty []; heard = starts_empty []; no_longer = omega arith; inside = λ x l h. absurd (omega arith); at_stage = tt }
      one_seat (suc i) v e = absurd (cc)

      no_ticket_yet : (i : ℕ) (v : V) → get_elem? (newcomer limit ∷ []) i ≡ some v → HasTicket v.stage → ⊥
      no_ticket_yet zero v e t = subst (λ (z : V). HasTicket z.stage) (sym (some-injective (newcomer limit) v e)) t
      no_ticket_yet (suc i) v e t = absurd (cc)

  pub opens_as : (slots : List (Option M)) → slots ≡ Some start ∷ [] → limit < 18446744073709551616 → good start [] → Rule (opening (0 ∷ 0 ∷ 0 ∷ []) slots (newcomer limit))
  opens_as slots is small begins = subst (λ (l : List (Option M)). Rule (opening (0 ∷ 0 ∷ 0 ∷ []) l (newcomer limit))) (sym is) (opens small begins)

  pub closes : (id : ℕ) (v : V) (words : List ℕ) (slots : List (Option M)) → v.stage ≡ Idle → v.left + length v.own ≡ limit
      → Final (Seen Rule id v) words slots → Closing v slots
  closes id v words slots idle counted final =
      let s : St = final.0 in
      let r : Rule s = final.1.0 in
      let at = final.1.1 in
      let k = r.each_seat id v at in
      let lefts = sum_at left_of s.views id v at in
      let mades = sum_at made s.views id v at in
      let all = r.spare in
      let total = r.drawn in
      let none_waits : sum_by waiting s.views ≡ 0 = omega arith in
      let none_made : (j : ℕ) (d : V) → j ≢ id → get_elem? s.views j ≡ some d → length d.own ≡ 0 = (λ j d other e. omega (arith, sum_two made s.views j id d v other e at)) in
      let each : AreAllBelow (length r.log) v.own = (λ x. sym (sum_alone (owns x) s.views id v at (λ j d other e. none_owned x d.own (none_made j d other e))) ∙ r.places x) in
      let whole : r.log ≡ v.seen = starts_whole r.log v.seen k.saw (covers (length r.log) (length v.seen) v.own each k.inside) in
      let home = r.at_home (λ j d e t. dite (ℕ_discrete j id)
      (λ same. subst InTurn (ap (λ (z : V). z.stage) (some-injective d v (sym e ∙ (ap (get_elem? s.views) same ∙ at))) ∙ idle) t)
      (λ other. calm (drawn s) (serving s) r.log d d.stage t (r.each_seat j d e).at_stage (let one = sum_at waiting s.views j d e in omega arith) (none_made j d other e))) in
      record {
        machine = final.4 0 (Some (end_of start v.seen)) (ap (λ hs. get_elem? hs 0) home ∙ ap (λ l. some (some (Some (end_of start l)))) whole);
        is_good = subst (good start) whole r.is_good;
        made_all = sym (ap length whole) ∙ sym r.all_made ∙ sum_alone made s.views id v at none_made;
        own = subst (λ (l : List (Entry M C R)). AreAllBelow (length l) v.own) whole each;
      }
    where
      none_owned : (x : ℕ) (xs : List ℕ) → length xs ≡ 0 → times x xs ≡ 0
      none_owned x [] e = refl
      none_owned x (y ∷ ys) e = absurd (omega arith)

      calm : (a b : ℕ) (log : List (Entry M C R)) (d : V) (st : Stage) → InTurn st → AtStage a b log d st → begun st ≤ 0 → length d.own ≡ 0 → ⊥
      calm a b log d Idle t knows none_begun none_made = t
      calm a b log d Waits t knows none_begun none_made = t
      calm a b log d Turn t knows none_begun none_made = omega arith
      calm a b log d Counted t knows none_begun none_made = let some_made : 0 < length d.own = knows.3 in omega arith
