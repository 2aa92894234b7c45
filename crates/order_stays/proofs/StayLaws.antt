-- Codes that stay together, with one more.
use Rattle.std.proofs.Common.{◌≡◌, ℕ, ◌+◌, ◌<◌, ◌≤◌, Bool, true, false, ◌&&◌, ◌||◌, ◌==◌, List, [], ◌∷◌, ◌++◌, length, take, drop, drop-cons, zero, suc, get_or, refl, sym, ap, subst, ◌∙◌, inl, inr, arith, All}
use Rattle.std.specs.List.{list_all, list_any, AllByRecursion}
use Rattle.std.proofs.lemmas.Bool.{and_parts, and_from, false_from_ne_true, eq-eqb}
use Rattle.std.proofs.Math.Bool.{or-true}
use Rattle.std.proofs.Math.Seq.{take-append_seam}
use Rattle.std.proofs.lemmas.List.{take_more, take_all, drop_all, length-append}
use Rattle.std.proofs.lemmas.List.Elements.{recursion_from_All, All-from_recursion, All-take}
use Rattle.pb_base.specs.declared.limits.TheConstants.{MOST_CODES}
use Rattle.std.proofs.lemmas.List.Folds.{list_all-append, list_any-append}
use Rattle.pb_base.specs.Rule.{Rule, always}
use Rattle.pb_base.specs.Sets.{has}
use Rattle.book_model.specs.Book.{RuleFits}
use Rattle.book_model.specs.Contents.{Contents}
use Rattle.book_model.specs.Good.{is_good}
use Rattle.clausify.proofs.ItemLaws.{length_from_good}
use Rattle.clausify.proofs.ListLaws.{all_weaker, all-append}
use Rattle.blame.specs.Entries.{Among}
use Rattle.blame.proofs.ListLaws.{among_among, pushed_next, passed_next, all_among, length-among, length-first}
use Rattle.order_stays.specs.Stays.{IsCarWith, NoneBeside, NoneWith, StaysOrNot, IsGreedy, IsLeftWith, IsStay, IsOneMore}
use Rattle.order_stays.specs.declared.stay.Stay.{Stay}

-- how far the search has come
pub record StaysUpTo (b : Contents) (day : ℕ) (chosen : List ℕ) (i : ℕ) (s : Stay) : Type 0 where
  pub greedy : (kept : List ℕ) → IsGreedy b day s.kept.items (drop i chosen) kept → IsGreedy b day [] chosen kept
  pub among : Among (take i chosen) s.kept.items
  pub car : IsCarWith b day s.kept.items s.car
  pub each : AllByRecursion (StaysOrNot b day s.kept.items) (take i chosen)

module _ (b : Contents) (day : ℕ) where
  fewer : (kept : List ℕ) (c : ℕ) (x : List Bool) → IsCarWith b day (kept ++ c ∷ []) x → IsCarWith b day kept x
  fewer kept c x h = record {
    good = h.good;
    has_kept = (and_parts (list_all (has x) kept) (list_all (has x) (c ∷ [])) (sym (list_all-append (has x) kept (c ∷ [])) ∙ h.has_kept)).0;
  }

  still : (kept : List ℕ) (c d : ℕ) → StaysOrNot b day kept d → StaysOrNot b day (kept ++ c ∷ []) d
  still kept c d (inl there) = inl (list_any-append (λ k. k == d) kept (c ∷ []) ∙ ap (λ (t : Bool). t || list_any (λ k. k == d) (c ∷ [])) there)
  still kept c d (inr none) = inr (λ x with_more. none x (fewer kept c x with_more))

  itself : (kept : List ℕ) (c : ℕ) → list_any (λ k. k == c) (kept ++ c ∷ []) ≡ true
  itself kept c =
      list_any-append (λ k. k == c) kept (c ∷ [])
      ∙ ap (λ (t : Bool). list_any (λ k. k == c) kept || (t || false)) (eq-eqb c c refl)
      ∙ or-true (list_any (λ k. k == c) kept)

  pub up_to_none : (chosen : List ℕ) (s : Stay) → s.kept.items ≡ [] → is_good b day s.car ≡ true → StaysUpTo b day chosen 0 s
  up_to_none chosen s none good = record {
    greedy = λ kept h. subst (λ (ks : List ℕ). IsGreedy b day ks chosen kept) none h;
    among = none;
    car = record { good = good; has_kept = ap (list_all (has s.car)) none };
    each = tt;
  }

  -- the next code stays, or it doesn't
  greedy_next : (chosen : List ℕ) (i c : ℕ) (old new : Stay) → drop i chosen ≡ c ∷ drop (i + 1) chosen → StaysUpTo b day chosen i old → IsOneMore b day c old new
      → (kept : List ℕ) → IsGreedy b day new.kept.items (drop (i + 1) chosen) kept → IsGreedy b day [] chosen kept
  greedy_next chosen i c old new first h more kept rest =
      h.greedy kept
      (subst (λ (cs : List ℕ). IsGreedy b day old.kept.items cs kept) (sym first)
      (elim more.cases [
        | inl stays ↦ inl (
          (new.car, subst (λ (ks : List ℕ). IsCarWith b day ks new.car) stays more.car),
          subst (λ (ks : List ℕ). IsGreedy b day ks (drop (i + 1) chosen) kept) stays rest,
        )
        | inr left ↦ inr (left.1, subst (λ (ks : List ℕ). IsGreedy b day ks (drop (i + 1) chosen) kept) left.0 rest)
      ]))

  pub up_to_more : (chosen : List ℕ) (i c d : ℕ) (old new : Stay) → i < length chosen → c ≡ get_or chosen i d → StaysUpTo b day chosen i old → IsOneMore b day c old new
      → StaysUpTo b day chosen (i + 1) new
  up_to_more chosen i c d old new within is h more =
      let taken : take (i + 1) chosen ≡ take i chosen ++ c ∷ [] = take_more chosen i d within ∙ ap (λ (e : ℕ). take i chosen ++ e ∷ []) (sym is) in
      let e : suc i ≡ i + 1 = omega arith in
      let first : drop i chosen ≡ c ∷ drop (i + 1) chosen = drop-cons chosen i d within ∙ ap (λ (k : ℕ). k ∷ drop (suc i) chosen) (sym is) ∙ ap (λ (k : ℕ). c ∷ drop k chosen) e in
      elim more.cases [
        | inl stays ↦ record {
          greedy = greedy_next chosen i c old new first h more;
          among = pushed_next chosen old.kept.items new.kept.items i c d within is stays h.among;
          car = more.car;
          each =
              subst (AllByRecursion (StaysOrNot b day new.kept.items)) (sym taken)
              (subst (λ (ks : List ℕ). AllByRecursion (StaysOrNot b day ks) (take i chosen ++ c ∷ [])) (sym stays)
              (all-append (StaysOrNot b day (old.kept.items ++ c ∷ [])) (take i chosen) (c ∷ [])
              (all_weaker (StaysOrNot b day old.kept.items) (StaysOrNot b day (old.kept.items ++ c ∷ [])) (still old.kept.items c) (take i chosen) h.each)
              (inl (itself old.kept.items c), tt)));
        }
        | inr left ↦ record {
          greedy = greedy_next chosen i c old new first h more;
          among = subst (λ (ks : List ℕ). Among (take (i + 1) chosen) ks) (sym left.0) (passed_next chosen old.kept.items i d within h.among);
          car = more.car;
          each =
              subst (AllByRecursion (StaysOrNot b day new.kept.items)) (sym taken)
              (subst (λ (ks : List ℕ). AllByRecursion (StaysOrNot b day ks) (take i chosen ++ c ∷ [])) (sym left.0)
              (all-append (StaysOrNot b day old.kept.items) (take i chosen) (c ∷ []) h.each (inr left.1, tt)));
        }
      ]

  pub up_to_all : (chosen : List ℕ) (i : ℕ) (s : Stay) → length chosen ≤ i → StaysUpTo b day chosen i s → IsStay b day chosen s
  up_to_all chosen i s past h =
      let all : take i chosen ≡ chosen = take_all i chosen past in
      let none : drop i chosen ≡ [] = drop_all i chosen past in
      record {
        greedy = h.greedy s.kept.items (subst (λ (cs : List ℕ). IsGreedy b day s.kept.items cs s.kept.items) (sym none) refl);
        among = subst (λ (cs : List ℕ). Among cs s.kept.items) all h.among;
        car = h.car;
        each = subst (AllByRecursion (StaysOrNot b day s.kept.items)) all h.each;
      }

  -- what is so where no car has some codes
  pub none_at_all : NoneWith b day [] → (x : List Bool) → is_good b day x ≡ false
  none_at_all none x = false_from_ne_true (is_good b day x) (λ good. none x (record { good = good; has_kept = refl }))

  pub none_beside : (kept : List ℕ) (c : ℕ) → NoneWith b day (kept ++ c ∷ []) → NoneBeside b day kept c
  none_beside kept c none x h = false_from_ne_true (has x c) (λ there.
      none x (record {
        good = h.good;
        has_kept =
            list_all-append (has x) kept (c ∷ [])
            ∙ and_from (list_all (has x) kept) (has x c && true) h.has_kept (and_from (has x c) true there refl);
      }))

pub among_none : (xs : List ℕ) → Among xs []
among_none [] = refl
among_none (x ∷ xs) = inl (among_none xs)

-- what is among the first ones is among all
among_first : (n : ℕ) (xs ys : List ℕ) → Among (take n xs) ys → Among xs ys
among_first zero xs ys h = subst (Among xs) (sym h) (among_none xs)
among_first (suc n) [] ys h = h
among_first (suc n) (x ∷ xs) ys (inl h) = inl (among_first n xs ys h)
among_first (suc n) (x ∷ xs) ys (inr h) = inr (h.0, h.1, among_first n xs h.0 h.2)

-- a search with one more code was left
pub left_further : (b : Contents) (day : ℕ) (chosen : List ℕ) (i c d budget : ℕ) (s : Stay) (learnt : List (List ℕ)) → i < length chosen → c ≡ get_or chosen i d → StaysUpTo b day chosen i s
    → IsLeftWith b day (s.kept.items ++ c ∷ []) budget learnt → IsLeftWith b day chosen budget learnt
left_further b day chosen i c d budget s learnt within is h left = record {
  kept = left.kept;
  among =
      among_among chosen (s.kept.items ++ c ∷ []) left.kept
      (among_first (i + 1) chosen (s.kept.items ++ c ∷ []) (pushed_next chosen s.kept.items (s.kept.items ++ c ∷ []) i c d within is refl h.among)) left.among;
  left = left.left;
}

-- what the next code is tried beside
pub kept_within : (b : Contents) (day : ℕ) (chosen : List ℕ) (i : ℕ) (s : Stay) → All (λ (c : ℕ). c < length b.codes) chosen → StaysUpTo b day chosen i s
    → All (λ (c : ℕ). c < length b.codes) s.kept.items
kept_within b day chosen i s within h =
    All-from_recursion (λ (c : ℕ). c < length b.codes) s.kept.items
    (all_among (λ (c : ℕ). c < length b.codes) (take i chosen) s.kept.items
    (recursion_from_All (λ (c : ℕ). c < length b.codes) (take i chosen) (All-take (λ (c : ℕ). c < length b.codes) i chosen within)) h.among)

pub kept_few : (b : Contents) (day : ℕ) (chosen : List ℕ) (i : ℕ) (s : Stay) → i < length chosen → length chosen ≤ MOST_CODES → StaysUpTo b day chosen i s
    → length s.kept.items < MOST_CODES
kept_few b day chosen i s inside few h = omega (arith, length-among (take i chosen) s.kept.items h.among, length-first i chosen)

-- one more code is tried beside those that stay: with it they are `kept`
module _ (b : Contents) (day code : ℕ) (old : Stay) (kept : List ℕ) (pushed : kept ≡ old.kept.items ++ code ∷ []) (h : IsCarWith b day old.kept.items old.car) where
  pub tried_within : All (λ (c : ℕ). c < length b.codes) old.kept.items → code < length b.codes → All (λ (c : ℕ). c < length b.codes) kept
  tried_within all within =
      subst (All (λ (c : ℕ). c < length b.codes)) (sym pushed)
      (All-from_recursion (λ (c : ℕ). c < length b.codes) (old.kept.items ++ code ∷ [])
      (all-append (λ (c : ℕ). c < length b.codes) old.kept.items (code ∷ []) (recursion_from_All (λ (c : ℕ). c < length b.codes) old.kept.items all) (within, tt)))

  pub tried_few : length old.kept.items < MOST_CODES → length kept ≤ MOST_CODES
  tried_few few = omega (arith, few, ap length pushed, length-append old.kept.items (code ∷ []))

  -- the car has it, or another one does
  pub stays_there : (new : Stay) → new.kept.items ≡ kept → new.car ≡ old.car → has old.car code ≡ true → IsOneMore b day code old new
  stays_there new same_kept same_car there =
      let all : list_all (has old.car) (old.kept.items ++ code ∷ []) ≡ true =
      list_all-append (has old.car) old.kept.items (code ∷ []) ∙ and_from (list_all (has old.car) old.kept.items) (has old.car code && true) h.has_kept (and_from (has old.car code) true there refl) in
      record {
        car =
            subst (λ (x : List Bool). IsCarWith b day new.kept.items x) (sym same_car)
            (subst (λ (ks : List ℕ). IsCarWith b day ks old.car) (sym (same_kept ∙ pushed)) (record { good = h.good; has_kept = all }));
        cases = inl (same_kept ∙ pushed);
      }

  pub stays_by : (new : Stay) → new.kept.items ≡ kept → IsCarWith b day kept new.car → IsOneMore b day code old new
  stays_by new same_kept car = record {
    car = subst (λ (ks : List ℕ). IsCarWith b day ks new.car) (sym same_kept) car;
    cases = inl (same_kept ∙ pushed);
  }

  -- no car has it beside them
  pub stays_not : (new : Stay) (count : ℕ) → new.kept.items ≡ take count kept → count + 1 ≡ length kept → new.car ≡ old.car → NoneWith b day kept
      → IsOneMore b day code old new
  stays_not new count taken counted same_car none =
      let same : count ≡ length old.kept.items = omega (arith, ap length pushed, length-append old.kept.items (code ∷ [])) in
      let same_kept : new.kept.items ≡ old.kept.items =
      taken ∙ ap (λ (n : ℕ). take n kept) same ∙ ap (take (length old.kept.items)) pushed ∙ take-append_seam old.kept.items (code ∷ []) in
      record {
        car =
            subst (λ (x : List Bool). IsCarWith b day new.kept.items x) (sym same_car)
            (subst (λ (ks : List ℕ). IsCarWith b day ks old.car) (sym same_kept) h);
        cases = inr (same_kept, none_beside b day old.kept.items code (subst (NoneWith b day) pushed none));
      }

-- a set of the codes of the book
pub within_car : (b : Contents) (day code : ℕ) (x : List Bool) → is_good b day x ≡ true → code < length b.codes → code < length x
within_car b day code x good within = omega (arith, length_from_good b day x good)

pub always_fits : (n : ℕ) (f : Rule) → f ≡ always → RuleFits n f
always_fits n f is = subst (RuleFits n) (sym is) (record { in_range = refl; size = omega arith })
