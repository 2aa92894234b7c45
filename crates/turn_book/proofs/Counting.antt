-- Counting a call keeps the rule.
use Rattle.std.proofs.Common.{◌≡◌, ℕ, ◌+◌, ◌%◌, ◌==◌, cond, ◌<◌, List, [], ◌∷◌, ◌++◌, length, get_or, set, sum_by, Option, Some, None, refl, sym, ap, ◌∙◌, subst, arith, length-set, length-append, get_or-set_other, get_or-set_same}
use Rattle.std.proofs.lemmas.List.Elements.{All-push}
use mathlib.Core.Option.{some, none}
use lib.ListN.{get_elem?}
use Rattle.atomic_table.specs.Table.{State, step, keeps, Allows}
use Rattle.atomic_table.proofs.Lists.{set_here}
use Rattle.turn_book.specs.History.{entry, StartsWith, times, once_below}
use Rattle.turn_book.specs.Turning.{HasTicket, begun, waiting, made, left_of, owns, AtStage, Knows, Turning}
use Rattle.turn_book.specs.Steps.{Sat, has_counted, Counts}
use Rattle.turn_book.specs.declared.entry.Entry.{Entry}
use Rattle.turn_book.specs.declared.view.View.{View}
use Rattle.turn_book.specs.declared.view.Stage.TheVariants.{Turn}
use Rattle.turn_book.proofs.Totals.{sum_set, sum_stays, sum_at, at_inside, times_push, once_more}
use Rattle.turn_book.proofs.Histories.{starts_itself, starts_empty, starts_more}
use Rattle.turn_book.proofs.Seats.{each_set, apart_set, same_ticket, stage_counts, knows_on}

module _ {M C R : Type 0} (good : M → List (Entry M C R) → Type 0) (start : M) (limit : ℕ) where
  abbrev V : Type 0
  V = View M C R

  abbrev St : Type 0
  St = State (Option M) V

  abbrev Rule : St → Type 0
  Rule = Turning good start limit

  abbrev drawn : St → ℕ
  drawn s = get_or s.words 0 0

  abbrev serving : St → ℕ
  serving s = get_or s.words 1 0

  -- a seat that is in turn puts a call, its reply and the machine that it holds last in the history
  pub counts : (slots id : ℕ) (me : Sat M C R) (c : C) (a : R) (y : M) (call : Option C) (reply : Option R) → me.0.stage ≡ Turn → me.1 ≡ (0, Some y) ∷ []
      → call ≡ Some c → reply ≡ Some a → (good start me.0.seen → good start (me.0.seen ++ entry c a y ∷ []))
      → Allows Rule slots id me 2 (λ n. (n + 1) % 18446744073709551616) (Counts (call, reply) (step slots 2 1 0 none) me)
  counts slots id me c a y call reply turn held call_is reply_is extends s r _ at _ =
      let v : V = me.0 in
      let d : ℕ = drawn s in
      let n : ℕ = get_or s.words 2 0 in
      let e : Entry M C R = entry c a y in
      let w : V = has_counted e v in
      let k = r.each_seat id v at in
      let stage = subst (AtStage d (serving s) r.log v) turn k.at_stage in
      let mine : v.ticket ≡ serving s = stage.0 in
      let seen_all : v.seen ≡ r.log = stage.2 in
      let as_long : length v.seen ≡ length r.log = ap length seen_all in
      let one_begun : waiting v ≡ 1 = ap begun turn in
      let bound = r.bounded in
      let all = r.spare in
      let three = r.three_words in
      let total = r.drawn in
      let long = r.recorded in
      let every = r.all_made in
      let waits_sum = sum_at waiting s.views id v at in
      let next : ℕ = (n + 1) % 18446744073709551616 in
      let fits_word : next ≡ n + 1 = omega arith in
      let now : get_or (set s.words 2 next) 2 0 ≡ n + 1 = get_or-set_same s.words 2 next 0 (omega arith) ∙ fits_word in
      let same0 : get_or (set s.words 2 next) 0 0 ≡ d = get_or-set_other s.words 2 0 next 0 (λ h. omega arith) in
      let same1 : get_or (set s.words 2 next) 1 0 ≡ serving s = get_or-set_other s.words 2 1 next 0 (λ h. omega arith) in
      let log : List (Entry M C R) = r.log ++ e ∷ [] in
      let log_length : length log ≡ length r.log + 1 = length-append r.log (e ∷ []) in
      let seen_length : length (v.seen ++ e ∷ []) ≡ length v.seen + 1 = length-append v.seen (e ∷ []) in
      let own_length : length (v.own ++ length v.seen ∷ []) ≡ length v.own + 1 = length-append v.own (length v.seen ∷ []) in
      let mades : sum_by made (set s.views id w) + length v.own ≡ sum_by made s.views + length (v.own ++ length v.seen ∷ []) = sum_set made s.views id v w at in
      let inside_log : (x : ℕ) (l : _) → x < length v.own → get_or v.own x l < length (v.seen ++ e ∷ []) = (λ x l h. let b : get_or v.own x l < length v.seen = k.inside x l h in omega arith) in (
        w,
        keeps,
        tt,
        record {
          log = log;
          bounded = bound;
          three_words = length-set s.words 2 next ∙ three;
          one_slot = r.one_slot;
          is_good = subst (λ (l : List (Entry M C R)). good start (l ++ e ∷ [])) seen_all (extends (subst (good start) (sym seen_all) r.is_good));
          recorded = omega arith;
          drawn = omega (arith, sum_set waiting s.views id v w at);
          spare = omega (arith, sum_stays left_of s.views id v w at refl);
          all_made = omega arith;
          places = λ x. once_longer s r id v e w at refl as_long x;
          served = omega (arith, r.served);
          each_seat = subst (λ (z : ℕ × ℕ). (j : ℕ) (u : V) → get_elem? (set s.views id w) j ≡ some u → Knows z.0 z.1 log u) (λ i. (sym same0 i, sym same1 i))
              (each_set (Knows d (serving s) log) s.views id w
              record {
                saw = subst (λ (l : List (Entry M C R)). StartsWith (l ++ e ∷ []) (v.seen ++ e ∷ [])) seen_all (starts_itself (v.seen ++ e ∷ []));
                heard = starts_empty log;
                no_longer = omega arith;
                inside = All-push (λ x. x < length (v.seen ++ e ∷ [])) v.own (length v.seen) inside_log (omega arith);
                at_stage = (mine, stage.1, ap (λ l. l ++ e ∷ []) seen_all, omega arith);
              }
              (λ j u other at_u. let ku = r.each_seat j u at_u in
              knows_on d (serving s) d (serving s) r.log log u (starts_more r.log (e ∷ [])) ku
              (stage_counts d (serving s) r.log u log u.stage (λ has same. other (r.apart j id u v at_u at has (subst HasTicket (sym turn) tt) (same ∙ sym mine))) ku.at_stage)));
          apart = apart_set s.views id w r.apart (same_ticket s.views id v w r.apart at (subst HasTicket (sym turn) tt) refl);
          at_home = λ none_in. absurd (none_in id w (set_here s.views id w (at_inside s.views id v at)) tt);
        },
        (λ c' a' y' call_is' reply_is' held'.
            let same_c : c ≡ c' = cc in
            let same_a : a ≡ a' = cc in
            let same_held : Some y ≡ Some y' = ap (λ (l : List (ℕ × Option M)). (get_or l 0 (0, None)).1) (sym held ∙ held') in
            let same_y : y ≡ y' = cc in
            λ i. (has_counted (entry (same_c i) (same_a i) (same_y i)) v, me.1)),
      )
    where
      once_longer : (s : St) (r : Rule s) (id : ℕ) (v : V) (e : Entry M C R) (w : V) → get_elem? s.views id ≡ some v → w ≡ has_counted e v → length v.seen ≡ length r.log → (x : ℕ)
          → sum_by (owns x) (set s.views id w) ≡ once_below x (length (r.log ++ e ∷ []))
      once_longer s r id v e w at is as_long x =
          let moved : sum_by (owns x) (set s.views id w) + times x v.own ≡ sum_by (owns x) s.views + times x w.own = sum_set (owns x) s.views id v w at in
          let own_is : times x w.own ≡ times x (v.own ++ length v.seen ∷ []) = ap (λ (u : V). times x u.own) is in
          let grown : times x (v.own ++ length v.seen ∷ []) ≡ times x v.own + cond {A = ℕ} (length v.seen == x) 1 0 = times_push x (length v.seen) v.own in
          let here : cond {A = ℕ} (length v.seen == x) 1 0 ≡ cond {A = ℕ} (length r.log == x) 1 0 = ap (λ (m : ℕ). cond {A = ℕ} (m == x) 1 0) as_long in
          let more : once_below x (length r.log + 1) ≡ once_below x (length r.log) + cond {A = ℕ} (length r.log == x) 1 0 = once_more x (length r.log) in
          let whole : once_below x (length (r.log ++ e ∷ [])) ≡ once_below x (length r.log + 1) = ap (once_below x) (length-append r.log (e ∷ [])) in
          let before : sum_by (owns x) s.views ≡ once_below x (length r.log) = r.places x in
          omega arith
