-- Drawing a ticket, looking at the one that is served, and passing the turn keep the rule.
use Rattle.std.proofs.Common.{◌≡◌, ℕ, ◌+◌, ◌%◌, ◌<◌, ◌≤◌, List, [], ◌∷◌, length, get_or, set, Option, Some, refl, sym, ap, ◌∙◌, subst, arith, length-set, get_or-set_other, get_or-set_same}
use Rattle.std.proofs.lemmas.List.{set-get_or}
use mathlib.Core.Option.{some, none, some-injective, some-ne-none}
use mathlib.Core.Logic.{dite}
use native.Mathlib.Decide.{ℕ_discrete}
use lib.ListN.{get_elem?}
use Rattle.atomic_table.specs.Table.{State, step, keeps, takes, gives, Allows}
use Rattle.atomic_table.proofs.Lists.{set_here, set_again}
use Rattle.turn_book.specs.History.{end_of}
use Rattle.turn_book.specs.Turning.{HasTicket, InTurn, begun, waiting, made, left_of, owns, AtStage, Knows, Turning}
use Rattle.turn_book.specs.Steps.{Sat, has_drawn, in_turn, at_rest, Draws, TakesTurn, TakesTurnFrom, Looks, PassesOn}
use Rattle.turn_book.specs.declared.entry.Entry.{Entry}
use Rattle.turn_book.specs.declared.view.View.{View}
use Rattle.turn_book.specs.declared.view.Stage.TheVariants.{Idle, Waits, Counted}
use Rattle.turn_book.proofs.Totals.{sum_set, sum_stays, sum_at, at_inside}
use Rattle.turn_book.proofs.Histories.{starts_itself, starts_empty, starts_length}
use Rattle.turn_book.proofs.Seats.{turn_has, each_set, apart_set, same_ticket, no_ticket, calm_before, stage_draws, stage_passes, turn_ticket, ticket_below, knows_on}

-- a turn that was taken, where the machine at the start and the seat before have other names
pub took : {M C R : Type 0} (good : M → List (Entry M C R) → Type 0) (start : M) (o : Option M) → o ≡ Some start → (me0 me me' : Sat M C R) → me ≡ me0
    → (x : M) × (o ≡ Some x) × TakesTurn good x me me' → TakesTurn good start me0 me'
took {M} {C} {R} good start o is me0 me me' same t = let here : t.0 ≡ start = cc (t.1) in subst (λ (z : M × Sat M C R). TakesTurn good z.0 z.1 me') (λ i. (here i, same i)) t.2

module _ {M C R : Type 0} (good : M → List (Entry M C R) → Type 0) (start : M) (limit : ℕ) where
  abbrev V : Type 0
  V = View M C R

  abbrev St : Type 0
  St = State (Option M) V

  abbrev Rule : St → Type 0
  Rule = Turning good start limit

  abbrev drawn : St → ℕ
  drawn s = get_or s.words 0 0

  abbrev serving : St → ℕ
  serving s = get_or s.words 1 0

  -- a seat draws a ticket
  pub draws : (slots id : ℕ) (me : Sat M C R) → me.0.stage ≡ Idle → 0 < me.0.left
      → Allows Rule slots id me 0 (λ n. (n + 1) % 18446744073709551616) (Draws (step slots 0 1 0 none) me)
  draws slots id me idle some_left s r _ at _ =
      let v : V = me.0 in
      let n : ℕ = drawn s in
      let w : V = has_drawn n v in
      let lefts = sum_at left_of s.views id v at in
      let bound = r.bounded in
      let all = r.spare in
      let three = r.three_words in
      let order = r.served in
      let next : ℕ = (n + 1) % 18446744073709551616 in
      let fits_word : next ≡ n + 1 = omega arith in
      let now : get_or (set s.words 0 next) 0 0 ≡ n + 1 = get_or-set_same s.words 0 next 0 (omega arith) ∙ fits_word in
      let same1 : get_or (set s.words 0 next) 1 0 ≡ serving s = get_or-set_other s.words 0 1 next 0 (λ e. omega arith) in
      let same2 : get_or (set s.words 0 next) 2 0 ≡ get_or s.words 2 0 = get_or-set_other s.words 0 2 next 0 (λ e. omega arith) in
      let none_begun : waiting v ≡ 0 = ap begun idle in
      let k = r.each_seat id v at in
      let mine : Knows (n + 1) (serving s) r.log w = record {
        saw = k.saw;
        heard = starts_empty r.log;
        no_longer = omega arith;
        inside = k.inside;
        at_stage = (order, omega arith);
      } in (
        w,
        keeps,
        tt,
        record {
          log = r.log;
          bounded = r.bounded;
          three_words = length-set s.words 0 next ∙ three;
          one_slot = r.one_slot;
          is_good = r.is_good;
          recorded = same2 ∙ r.recorded;
          drawn = omega (arith, r.drawn, sum_stays made s.views id v w at refl, sum_set waiting s.views id v w at);
          spare = omega (arith, sum_set left_of s.views id v w at);
          all_made = sum_stays made s.views id v w at refl ∙ r.all_made;
          places = λ x. sum_stays (owns x) s.views id v w at refl ∙ r.places x;
          served = omega arith;
          each_seat = subst (λ (z : ℕ × ℕ). (j : ℕ) (d : V) → get_elem? (set s.views id w) j ≡ some d → Knows z.0 z.1 r.log d) (λ i. (sym now i, sym same1 i))
              (each_set (Knows (n + 1) (serving s) r.log) s.views id w mine
              (λ j d other e. let kd = r.each_seat j d e in
              knows_on n (serving s) (n + 1) (serving s) r.log r.log d (starts_itself r.log) kd (stage_draws n (serving s) r.log d (n + 1) (omega arith) d.stage kd.at_stage)));
          apart = apart_set s.views id w r.apart
              (λ j d other e a b t. let below : d.ticket < n = ticket_below n (serving s) r.log d d.stage a (r.each_seat j d e).at_stage in omega arith);
          at_home = λ none_in. r.at_home (calm_before s.views id v w at (λ t. subst InTurn idle t) none_in);
        },
        refl,
      )

  -- while a seat waits for the ticket that is served, nobody is in turn
  nobody_in : (s : St) (r : Rule s) (id : ℕ) (v : V) → get_elem? s.views id ≡ some v → v.stage ≡ Waits → serving s ≡ v.ticket
      → (j : ℕ) (d : V) → get_elem? s.views j ≡ some d → InTurn d.stage → ⊥
  nobody_in s r id v at waits mine j d e t =
      let theirs : d.ticket ≡ serving s = turn_ticket (drawn s) (serving s) r.log d d.stage t (r.each_seat j d e).at_stage in
      let same : j ≡ id = r.apart j id d v e at (turn_has d.stage t) (subst HasTicket (sym waits) tt) (theirs ∙ mine) in
      let is : d ≡ v = some-injective d v (sym e ∙ (ap (get_elem? s.views) same ∙ at)) in
      subst InTurn (ap (λ (z : V). z.stage) is ∙ waits) t

  -- a waiting seat looks at the ticket that is served
  pub looks : (slots id : ℕ) (me : Sat M C R) → me.0.stage ≡ Waits
      → Allows Rule slots id me 1 (λ n. n) (Looks (TakesTurnFrom good (Some start)) (step slots 1 0 0 none) me)
  looks slots id me waits s r _ at _ =
      let v : V = me.0 in
      let d : ℕ = drawn s in
      let same_words = set-get_or s.words 1 0 in
      let k = r.each_seat id v at in
      let stage = subst (AtStage d (serving s) r.log v) waits k.at_stage in
      dite (ℕ_discrete (serving s) v.ticket)
      (λ mine.
      let w : V = in_turn r.log v in
      let held : Option M = Some (end_of start r.log) in
      let home : s.homes ≡ some held ∷ [] = r.at_home (nobody_in s r id v at waits mine) in
      let one_begun : waiting v ≡ 1 = ap begun waits in
      let longer_now : length v.seen ≤ length r.log = starts_length r.log v.seen k.saw in
      let inside_log : (x : ℕ) (l : _) → x < length v.own → get_or v.own x l < length r.log = (λ x l h. let b : get_or v.own x l < length v.seen = k.inside x l h in omega arith) in
      let bound = r.bounded in
      let mades = sum_at made s.views id v at in
      let waits_sum = sum_at waiting s.views id v at in
      let total = r.drawn in
      let all = r.spare in (
        w,
        takes 0 held,
        ap (λ hs. get_elem? hs 0) home,
        subst (λ (ws : List ℕ). Rule record { words = ws; homes = set s.homes 0 none; views = set s.views id w }) (sym same_words) record {
          log = r.log;
          bounded = r.bounded;
          three_words = r.three_words;
          one_slot = length-set s.homes 0 none ∙ r.one_slot;
          is_good = r.is_good;
          recorded = r.recorded;
          drawn = omega (arith, sum_stays made s.views id v w at refl, sum_set waiting s.views id v w at);
          spare = omega (arith, sum_stays left_of s.views id v w at refl);
          all_made = sum_stays made s.views id v w at refl ∙ r.all_made;
          places = λ x. sum_stays (owns x) s.views id v w at refl ∙ r.places x;
          served = r.served;
          each_seat = each_set (Knows d (serving s) r.log) s.views id w record {
            saw = starts_itself r.log;
            heard = starts_empty r.log;
            no_longer = omega arith;
            inside = inside_log;
            at_stage = (sym mine, stage.1, refl);
          } (λ j u other e. r.each_seat j u e);
          apart = apart_set s.views id w r.apart (same_ticket s.views id v w r.apart at (subst HasTicket (sym waits) tt) refl);
          at_home = λ none_in. absurd (none_in id w (set_here s.views id w (at_inside s.views id v at)) tt);
        },
        ((λ _. (start, refl, record { log = r.log; begins = k.saw; is_good = r.is_good; room = omega arith; after = refl })), (λ other. absurd (other mine))),
      ))
      (λ other. (
        v,
        keeps,
        tt,
        subst (λ (z : List ℕ × List V). Rule record { words = z.0; homes = s.homes; views = z.1 }) (λ i. (sym same_words i, sym (set_again s.views id v at) i)) r,
        ((λ same. absurd (other same)), (λ _. refl)),
      ))

  -- the same where the machine at the start has another name
  pub looks_as : (o : Option M) → o ≡ Some start → (slots id : ℕ) (me : Sat M C R) → me.0.stage ≡ Waits
      → Allows Rule slots id me 1 (λ n. n) (Looks (TakesTurnFrom good o) (step slots 1 0 0 none) me)
  looks_as o is slots id me waits = subst (λ (p : Option M). Allows Rule slots id me 1 (λ n. n) (Looks (TakesTurnFrom good p) (step slots 1 0 0 none) me)) (sym is) (looks slots id me waits)

  one_home : (hs : List (mathlib.Core.Option.Option (Option M))) (h : mathlib.Core.Option.Option (Option M)) → length hs ≡ 1 → set hs 0 h ≡ h ∷ []
  one_home [] h e = absurd (omega arith)
  one_home (x ∷ []) h e = refl
  one_home (x ∷ y ∷ ys) h e = absurd (omega arith)

  -- a seat passes the turn on, with the machine as it is after the whole history
  passes_held : (slots id : ℕ) (v : V) → v.stage ≡ Counted
      → Allows Rule slots id (v, (0, Some (end_of start v.seen)) ∷ []) 1 (λ n. (n + 1) % 18446744073709551616) (PassesOn (step slots 1 1 0 none) (v, (0, Some (end_of start v.seen)) ∷ []))
  passes_held slots id v counted s r _ at _ =
      let d : ℕ = drawn s in
      let n : ℕ = serving s in
      let w : V = at_rest v in
      let held : Option M = Some (end_of start v.seen) in
      let k = r.each_seat id v at in
      let stage = subst (AtStage d n r.log v) counted k.at_stage in
      let mine : v.ticket ≡ n = stage.0 in
      let below : v.ticket < d = stage.1 in
      let bound = r.bounded in
      let all = r.spare in
      let three = r.three_words in
      let next : ℕ = (n + 1) % 18446744073709551616 in
      let fits_word : next ≡ n + 1 = omega arith in
      let now : get_or (set s.words 1 next) 1 0 ≡ n + 1 = get_or-set_same s.words 1 next 0 (omega arith) ∙ fits_word in
      let same0 : get_or (set s.words 1 next) 0 0 ≡ d = get_or-set_other s.words 1 0 next 0 (λ e. omega arith) in
      let same2 : get_or (set s.words 1 next) 2 0 ≡ get_or s.words 2 0 = get_or-set_other s.words 1 2 next 0 (λ e. omega arith) in
      let none_begun : 0 ≡ waiting v = sym (ap begun counted) in (
        w,
        gives,
        tt,
        record {
          log = r.log;
          bounded = r.bounded;
          three_words = length-set s.words 1 next ∙ three;
          one_slot = length-set s.homes 0 (some held) ∙ r.one_slot;
          is_good = r.is_good;
          recorded = same2 ∙ r.recorded;
          drawn = omega (arith, r.drawn, sum_stays made s.views id v w at refl, sum_stays waiting s.views id v w at none_begun);
          spare = omega (arith, sum_stays left_of s.views id v w at refl);
          all_made = sum_stays made s.views id v w at refl ∙ r.all_made;
          places = λ x. sum_stays (owns x) s.views id v w at refl ∙ r.places x;
          served = omega arith;
          each_seat = subst (λ (z : ℕ × ℕ). (j : ℕ) (u : V) → get_elem? (set s.views id w) j ≡ some u → Knows z.0 z.1 r.log u) (λ i. (sym same0 i, sym now i))
              (each_set (Knows d (n + 1) r.log) s.views id w
              record { saw = k.saw; heard = starts_empty r.log; no_longer = omega arith; inside = k.inside; at_stage = tt }
              (λ j u other e. let ku = r.each_seat j u e in
              knows_on d n d (n + 1) r.log r.log u (starts_itself r.log) ku
              (stage_passes d n r.log u u.stage (λ has same. other (r.apart j id u v e at has (subst HasTicket (sym counted) tt) (same ∙ sym mine))) ku.at_stage)));
          apart = apart_set s.views id w r.apart (no_ticket s.views id w refl);
          at_home = λ _. one_home s.homes (some held) r.one_slot ∙ ap (λ l. some (Some (end_of start l)) ∷ []) stage.2;
        },
        refl,
      )

  pub passes : (slots id : ℕ) (me : Sat M C R) → me.0.stage ≡ Counted → me.1 ≡ (0, Some (end_of start me.0.seen)) ∷ []
      → Allows Rule slots id me 1 (λ n. (n + 1) % 18446744073709551616) (PassesOn (step slots 1 1 0 none) me)
  passes slots id me counted held =
      subst (λ (h : List (ℕ × Option M)). Allows Rule slots id (me.0, h) 1 (λ n. (n + 1) % 18446744073709551616) (PassesOn (step slots 1 1 0 none) (me.0, h))) (sym held)
      (passes_held slots id me.0 counted)
