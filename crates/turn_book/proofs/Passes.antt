-- Splitting and joining seats keep the rule.
use Rattle.std.proofs.Common.{◌≡◌, ℕ, ◌+◌, ◌<◌, ◌≤◌, List, [], ◌∷◌, ◌++◌, length, get_or, set, All, sum_by, Bool, true, false, nat_lt, if◌then◌else◌, Option, refl, sym, ap, ◌∙◌, subst, ⊎_elim, arith, length-append}
use Rattle.std.proofs.lemmas.List.{set-get_or}
use Rattle.std.proofs.lemmas.List.Elements.{All-append}
use Rattle.std.proofs.lemmas.List.Sums.{sum_by_push}
use mathlib.Core.Option.{some, none}
use Rattle.std.proofs.lemmas.Bool.Decides.{nat_tests}
use lib.ListN.{get_elem?}
use Rattle.atomic_table.specs.Table.{State, step, keeps, Allows, Splits, Joins}
use Rattle.atomic_table.proofs.Lists.{set_else, set_again, at_snoc, at_longer}
use Rattle.turn_book.specs.History.{StartsWith, longer, shorter}
use Rattle.turn_book.specs.Turning.{HasTicket, InTurn, begun, waiting, made, left_of, owns, AtStage, Knows, Turning}
use Rattle.turn_book.specs.Steps.{Sat, share_of, kept_of, both_of, spent, Meets}
use Rattle.turn_book.specs.declared.entry.Entry.{Entry}
use Rattle.turn_book.specs.declared.view.View.{View}
use Rattle.turn_book.specs.declared.view.Stage.TheVariants.{Idle}
use Rattle.turn_book.proofs.Totals.{sum_set, sum_stays, sum_at, sum_join, times_append}
use Rattle.turn_book.proofs.Histories.{starts_empty, starts_between}
use Rattle.turn_book.proofs.Seats.{each_set, Apart, apart_set, no_ticket, calm_before}

longer_lt : (a b : ℕ) → nat_lt a b ≡ true → a < b
longer_lt a b e = grind (arith, nat_tests)

longer_le : (a b : ℕ) → nat_lt a b ≡ false → b ≤ a
longer_le a b e = grind (arith, nat_tests)

module _ {M C R : Type 0} (good : M → List (Entry M C R) → Type 0) (start : M) (limit : ℕ) where
  abbrev V : Type 0
  V = View M C R

  abbrev St : Type 0
  St = State (Option M) V

  abbrev Rule : St → Type 0
  Rule = Turning good start limit

  abbrev drawn : St → ℕ
  drawn s = get_or s.words 0 0

  abbrev serving : St → ℕ
  serving s = get_or s.words 1 0

  -- a seat cuts calls off for a second one
  pub splits : (n id : ℕ) (v : V) → v.stage ≡ Idle → n ≤ v.left → Splits Rule id v (kept_of n v) (share_of n v)
  splits n id v idle enough s r at =
      let w : V = kept_of n v in
      let u : V = share_of n v in
      let vs : List V = set s.views id w in
      let k = r.each_seat id v at in
      let no_tickets : AtStage (drawn s) (serving s) r.log w v.stage = subst (AtStage (drawn s) (serving s) r.log w) (sym idle) tt in
      record {
        log = r.log;
        bounded = r.bounded;
        three_words = r.three_words;
        one_slot = r.one_slot;
        is_good = r.is_good;
        recorded = r.recorded;
        drawn = omega (arith, r.drawn, sum_by_push made vs u, sum_by_push waiting vs u, sum_stays made s.views id v w at refl, sum_stays waiting s.views id v w at refl);
        spare = omega (arith, r.spare, sum_by_push left_of vs u, sum_set left_of s.views id v w at);
        all_made = omega (arith, r.all_made, sum_by_push made vs u, sum_stays made s.views id v w at refl);
        places = λ x. omega (arith, r.places x, sum_by_push (owns x) vs u, sum_stays (owns x) s.views id v w at refl);
        served = r.served;
        each_seat = λ j d e. ⊎_elim
            (λ was. each_set (Knows (drawn s) (serving s) r.log) s.views id w record { saw = k.saw; heard = starts_empty r.log; no_longer = omega arith; inside = k.inside; at_stage = no_tickets }
            (λ i y _ f. r.each_seat i y f) j d was)
            (λ (is : u ≡ d). subst (Knows (drawn s) (serving s) r.log) is record { saw = k.saw; heard = starts_empty r.log; no_longer = omega arith; inside = λ x l h. absurd (omega arith); at_stage = tt })
            (at_snoc vs u d j e);
        apart = apart_more vs u refl (apart_set s.views id w r.apart (no_ticket s.views id w idle));
        at_home = λ none_in. r.at_home (calm_before s.views id v w at (λ t. subst InTurn idle t) (λ j d e. none_in j d (at_longer vs (u ∷ []) j d e)));
      }
    where
      apart_more : (vs : List V) (u : V) → u.stage ≡ Idle → Apart vs → Apart (vs ++ u ∷ [])
      apart_more vs u none_drawn apart i j x y p q a b t =
          ⊎_elim
          (λ at_x. ⊎_elim
          (λ at_y. apart i j x y at_x at_y a b t)
          (λ (is : u ≡ y). absurd (subst HasTicket none_drawn (subst (λ (z : V). HasTicket z.stage) (sym is) b)))
          (at_snoc vs u y j q))
          (λ (is : u ≡ x). absurd (subst HasTicket none_drawn (subst (λ (z : V). HasTicket z.stage) (sym is) a)))
          (at_snoc vs u x i p)

  by_length : (P : List (Entry M C R) → List (Entry M C R) → Type 0) (xs ys : List (Entry M C R)) → (length ys ≤ length xs → P xs ys) → (length xs < length ys → P ys xs)
      → P (longer xs ys) (shorter xs ys)
  by_length P xs ys first second = by_test (nat_lt (length xs) (length ys)) refl
    where
      by_test : (b : Bool) → nat_lt (length xs) (length ys) ≡ b → P (if b then ys else xs) (if b then xs else ys)
      by_test true e = second (longer_lt (length xs) (length ys) e)
      by_test false e = first (longer_le (length xs) (length ys) e)

  -- a seat takes in what another one has seen, made and has left
  pub joins : (id : ℕ) (v : V) (other : ℕ) (w : V) → v.stage ≡ Idle → w.stage ≡ Idle → Joins Rule id v other w (both_of v w) spent
  joins id v other w idle w_idle s r at other_seat there =
      let b : V = both_of v w in
      let vs : List V = set s.views id b in
      let at_w : get_elem? s.views other ≡ some w = sym (set_else s.views id other b other_seat) ∙ there in
      let kv = r.each_seat id v at in
      let kw = r.each_seat other w at_w in
      let own_length : length (v.own ++ w.own) ≡ length v.own + length w.own = length-append v.own w.own in
      let v_waits : waiting v ≡ 0 = ap begun idle in
      let w_waits : waiting w ≡ 0 = ap begun w_idle in
      let wide : (xs : List ℕ) (m n : ℕ) → m ≤ n → All (λ x. x < m) xs → All (λ x. x < n) xs = (λ xs m n le all x l h. let below : get_or xs x l < m = all x l h in omega arith) in
      let mades : sum_by made (set vs other spent) ≡ sum_by made s.views = sum_join made s.views id other v w b spent other_seat at at_w own_length refl in
      let waits_sum : sum_by waiting (set vs other spent) ≡ sum_by waiting s.views = sum_join waiting s.views id other v w b spent other_seat at at_w (omega arith) refl in
      let lefts : sum_by left_of (set vs other spent) ≡ sum_by left_of s.views = sum_join left_of s.views id other v w b spent other_seat at at_w refl refl in
      let no_tickets : AtStage (drawn s) (serving s) r.log b v.stage = subst (AtStage (drawn s) (serving s) r.log b) (sym idle) tt in
      record {
        log = r.log;
        bounded = r.bounded;
        three_words = r.three_words;
        one_slot = r.one_slot;
        is_good = r.is_good;
        recorded = r.recorded;
        drawn = omega (arith, r.drawn);
        spare = omega (arith, r.spare);
        all_made = omega (arith, r.all_made);
        places = λ x. sum_join (owns x) s.views id other v w b spent other_seat at at_w (times_append x v.own w.own) refl ∙ r.places x;
        served = r.served;
        each_seat = each_set (Knows (drawn s) (serving s) r.log) vs other spent
            record { saw = starts_empty r.log; heard = starts_empty r.log; no_longer = omega arith; inside = λ x l h. absurd (omega arith); at_stage = tt }
            (λ j d _ e. each_set (Knows (drawn s) (serving s) r.log) s.views id b
            record {
              saw = by_length (λ xs ys. StartsWith r.log xs) v.seen w.seen (λ _. kv.saw) (λ _. kw.saw);
              heard = by_length (λ xs ys. StartsWith r.log ys) v.seen w.seen (λ _. kw.saw) (λ _. kv.saw);
              no_longer = by_length (λ xs ys. length ys ≤ length xs) v.seen w.seen (λ le. le) (λ lt. omega arith);
              inside = by_length (λ xs ys. All (λ x. x < length xs) (v.own ++ w.own)) v.seen w.seen
                  (λ le. All-append (λ x. x < length v.seen) v.own w.own kv.inside (wide w.own (length w.seen) (length v.seen) le kw.inside))
                  (λ lt. All-append (λ x. x < length w.seen) v.own w.own (wide v.own (length v.seen) (length w.seen) (omega arith) kv.inside) kw.inside);
              at_stage = no_tickets;
            }
            (λ i y _ f. r.each_seat i y f) j d e);
        apart = apart_set vs other spent (apart_set s.views id b r.apart (no_ticket s.views id b idle)) (no_ticket vs other spent refl);
        at_home = λ none_in. r.at_home (calm_before s.views id v b at (λ t. subst InTurn idle t) (calm_before vs other w spent there (λ t. subst InTurn w_idle t) none_in));
      }

  -- a seat that was joined compares the two lists
  pub meets : (slots id : ℕ) (me : Sat M C R) → Allows Rule slots id me 1 (λ n. n) (Meets (step slots 1 0 0 none) me)
  meets slots id me s r _ at _ =
      let v : V = me.0 in
      let same_words = set-get_or s.words 1 0 in
      let k = r.each_seat id v at in
      let mades = sum_at made s.views id v at in
      let lefts = sum_at left_of s.views id v at in
      let bound = r.bounded in
      let all = r.spare in
      let total = r.drawn in (
        v,
        keeps,
        tt,
        subst (λ (z : List ℕ × List V). Rule record { words = z.0; homes = s.homes; views = z.1 }) (λ i. (sym same_words i, sym (set_again s.views id v at) i)) r,
        (refl, starts_between r.log v.seen v.told k.saw k.heard k.no_longer, omega arith),
      )
