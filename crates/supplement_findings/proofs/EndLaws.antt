-- Where no rule breaks a set and no two swap over one, each constructible set has one end: its completion.
use Rattle.std.proofs.Common.{inl, inr, ◌≡◌, ℕ, zero, suc, ◌≤◌, ◌<◌, Bool, true, false, not, ◌&&◌, ◌⊎◌, eqb, List, [], ◌∷◌, length, get_or, Option, Some, None, refl, sym, ap, subst, ◌∙◌, arith, All}
use Rattle.std.specs.Prelude.{count_by, Contains}
use Rattle.std.specs.List.{list_any}
use Rattle.std.proofs.lemmas.Bool.{and_parts, and_from, or_parts, cases_eq, ne_eqb, not-true, not_from_false, true≢false, false≢true}
use Rattle.std.proofs.lemmas.List.{length-set, get_or-set_other, set_comm}
use Rattle.std.proofs.lemmas.List.Elements.{All-nil, All-cons, All-contains, Contains-get_or}
use Rattle.std.proofs.lemmas.List.Folds.{list_any_none}
use Rattle.pb_base.specs.Rule.{holds}
use Rattle.pb_base.specs.Sets.{has}
use Rattle.book_model.specs.Activity.{is_within}
use Rattle.book_model.specs.Book.{IsBook, SupplementFits}
use Rattle.book_model.specs.Contents.{Contents}
use Rattle.book_model.specs.Good.{fires, is_constructible}
use Rattle.book_model.specs.declared.record.Supplement.{Supplement}
use Rattle.supplement.specs.declared.firing.Firing.{Firing}
use Rattle.supplement.specs.Completion.{first_firing, completion_of}
use Rattle.supplement.proofs.FirstFiring.{none_fires, first_fires, first_code}
use Rattle.supplement.proofs.Laws.{fewer_absent, completion-none, completion-firing}
use Rattle.supplement_findings.specs.Ends.{with_code, Ends, stops, goes, IsCalm, HasOneEnd}
use Rattle.supplement_findings.specs.Questions.{no_rule}

strip : (p c : Bool) → (p && c) ≡ false → p ≡ true → c ≡ false
strip true c h e = h
strip false c h e = absurd (false≢true e)

not_false : (t : Bool) → not t ≡ false → t ≡ true
not_false true h = refl
not_false false h = absurd (true≢false h)

both_from_not : (t u : Bool) → not (t && u) ≡ false → (t ≡ true) × (u ≡ true)
both_from_not t u h = and_parts t u (not_false (t && u) h)

-- what it is that a rule fires
pub record FiresOver (day : ℕ) (x : List Bool) (s : Supplement) : Type 0 where
  pub active : is_within s.from s.until day ≡ true
  pub true_rule : holds s.rule x ≡ true
  pub absent : has x s.code ≡ false

pub fires_over : (day : ℕ) (x : List Bool) (s : Supplement) → fires day x s ≡ true → FiresOver day x s
fires_over day x s on =
    let outer = and_parts (is_within s.from s.until day && holds s.rule x) (not (has x s.code)) on in
    let inner = and_parts (is_within s.from s.until day) (holds s.rule x) outer.0 in
    record { active = inner.0; true_rule = inner.1; absent = not-true (has x s.code) outer.1 }

pub over_fires : (day : ℕ) (x : List Bool) (s : Supplement) → FiresOver day x s → fires day x s ≡ true
over_fires day x s f = and_from _ _ (and_from _ _ f.active f.true_rule) (not_from_false _ f.absent)

-- which rule fires first, if one does
cases_first : (o : Option Firing) → (o ≡ None) ⊎ ((f : Firing) × (o ≡ Some f))
cases_first None = inl refl
cases_first (Some f) = inr (f, refl)

all_from_none : (test : Supplement → Bool) (ss : List Supplement) → list_any test ss ≡ false → All (λ s. test s ≡ false) ss
all_from_none test [] none = All-nil (λ s. test s ≡ false)
all_from_none test (s ∷ ss) none =
    let parts = or_parts (test s) (list_any test ss) none in
    All-cons (λ t. test t ≡ false) s ss parts.0 (all_from_none test ss parts.1)

-- where no rule fires, the set is its only end
only_itself : (rules : List Supplement) (day : ℕ) (y x : List Bool) → Ends rules day y x → list_any (fires day x) rules ≡ false → y ≡ x
only_itself rules day y x (stops none is) nothing = is
only_itself rules day y x (goes s there on rest) nothing =
    absurd (true≢false (sym on ∙ All-contains (λ (s : Supplement). fires day x s ≡ false) rules s (all_from_none (fires day x) rules nothing) there))

-- a constructible set of the book's codes
record IsBuilt (b : Contents) (day : ℕ) (x : List Bool) : Type 0 where
  counted : length x ≡ length b.codes
  built : is_constructible b day x ≡ true

module _ (b : Contents) (day : ℕ) (fit : All (SupplementFits (length b.codes)) b.supplements) (calm : IsCalm b day) where
  abbrev completed : List Bool → List Bool
  completed x = (completion_of b day x).set

  code_in : (s : Supplement) (x : List Bool) → Contains b.supplements s → length x ≡ length b.codes → s.code < length x
  code_in s x there len = subst (λ (n : ℕ). s.code < n) (sym len) (All-contains (SupplementFits (length b.codes)) b.supplements s fit there).code

  -- a rule that fires leads to a constructible set
  grown : (s : Supplement) (x : List Bool) → Contains b.supplements s → fires day x s ≡ true → IsBuilt b day x → IsBuilt b day (with_code s.code x)
  grown s x there on h = record {
    counted = length-set x s.code true ∙ h.counted;
    built = not_false _ (strip _ _ (calm.none_breaks s x there h.counted) (and_from _ _ h.built on));
  }

  fewer : (s : Supplement) (x : List Bool) → Contains b.supplements s → fires day x s ≡ true → IsBuilt b day x → count_by not x ≡ suc (count_by not (with_code s.code x))
  fewer s x there on h = fewer_absent x s.code (code_in s x there h.counted) (fires_over day x s on).absent

  -- of two rules that fire over x, with other codes, the second fires still behind the first
  still_fires : (s t : Supplement) (x : List Bool) → Contains b.supplements s → Contains b.supplements t → fires day x s ≡ true → fires day x t ≡ true
      → (s.code ≡ t.code → ⊥) → IsBuilt b day x → fires day (with_code s.code x) t ≡ true
  still_fires s t x hs ht on_s on_t other h =
      let over = fires_over day x t on_t in
      let apart : not (eqb s.code t.code) ≡ true = not_from_false _ (ne_eqb s.code t.code other) in
      let stay = both_from_not (holds t.rule (with_code s.code x)) (holds s.rule (with_code t.code x))
      (strip _ _ (calm.none_swaps s t x hs ht h.counted) (and_from _ _ (and_from _ _ (and_from _ _ h.built on_s) on_t) apart)) in
      over_fires day (with_code s.code x) t (record {
        active = over.active;
        true_rule = stay.0;
        absent = get_or-set_other x s.code t.code true false (λ e. other (sym e)) ∙ over.absent;
      })

  -- an end of a set over which t fires first, where the sets with more codes have one end
  alone_by : (t : Supplement) → Contains b.supplements t → (y x : List Bool) → Ends b.supplements day y x → IsBuilt b day x → fires day x t ≡ true
      → ((z : List Bool) → IsBuilt b day z → count_by not z < count_by not x → HasOneEnd b day z) → y ≡ completed (with_code t.code x)
  alone_by t ht y x (stops none is) h on later =
      absurd (true≢false (sym on ∙ All-contains (λ (s : Supplement). fires day x s ≡ false) b.supplements t (all_from_none (fires day x) b.supplements none) ht))
  alone_by t ht y x (goes s hs on_s rest) h on later =
      let built_t = grown t x ht on h in
      let end_t : HasOneEnd b day (with_code t.code x) = later (with_code t.code x) built_t (omega (arith, fewer t x ht on h)) in
      elim (cases_eq s.code t.code) [
        | inl same ↦ end_t.alone y (subst (λ (k : ℕ). Ends b.supplements day y (with_code k x)) same rest)
        | inr other ↦
            let built_s = grown s x hs on_s h in
            let on_st : fires day (with_code s.code x) t ≡ true = still_fires s t x hs ht on_s on other h in
            let on_ts : fires day (with_code t.code x) s ≡ true = still_fires t s x ht hs on on_s (λ e. other (sym e)) h in
            let built_st = grown t (with_code s.code x) ht on_st built_s in
            let fewer_s = fewer s x hs on_s h in
            let fewer_st = fewer t (with_code s.code x) ht on_st built_s in
            let end_s : HasOneEnd b day (with_code s.code x) = later (with_code s.code x) built_s (omega (arith, fewer_s)) in
            let end_st : HasOneEnd b day (with_code t.code (with_code s.code x)) = later (with_code t.code (with_code s.code x)) built_st (omega (arith, fewer_s, fewer_st)) in
            let last : List Bool = completed (with_code t.code (with_code s.code x)) in
            let swapped : with_code t.code (with_code s.code x) ≡ with_code s.code (with_code t.code x) = set_comm x s.code t.code true true other in
            let by_s : last ≡ completed (with_code s.code x) = end_s.alone last (goes t ht on_st end_st.ends) in
            let by_t : last ≡ completed (with_code t.code x) =
            end_t.alone last (goes s hs on_ts (subst (λ (z : List Bool). Ends b.supplements day last z) swapped end_st.ends)) in
            end_s.alone y rest ∙ sym by_s ∙ by_t
      ]

  -- the one end of a set, where the sets with more codes have one
  one_end_next : (x : List Bool) → IsBuilt b day x → ((z : List Bool) → IsBuilt b day z → count_by not z < count_by not x → HasOneEnd b day z) → HasOneEnd b day x
  one_end_next x h later =
      elim (cases_first (first_firing b.supplements day x)) [
        | inl none ↦
            let stay : completed x ≡ x = ap (λ c. c.set) (completion-none b.supplements day x none) in
            let nothing : list_any (fires day x) b.supplements ≡ false = list_any_none (fires day x) b.supplements (none_fires 0 day x b.supplements none) in
            record {
              ends = stops nothing stay;
              alone = λ y ends. only_itself b.supplements day y x ends nothing ∙ sym stay;
              constructible = subst (λ (z : List Bool). is_constructible b day z ≡ true) (sym stay) h.built;
            }
        | inr found ↦
            let f : Firing = found.0 in
            let fit_x = subst (λ (n : ℕ). All (SupplementFits n) b.supplements) (sym h.counted) fit in
            let code = first_code (length x) 0 day x b.supplements f fit_x found.1 in
            let first = first_fires 0 day x b.supplements f no_rule found.1 in
            let t : Supplement = get_or b.supplements first.0 no_rule in
            let ht : Contains b.supplements t = Contains-get_or b.supplements first.0 no_rule first.1.within in
            let on : fires day x t ≡ true = first.1.on in
            let same : f.code ≡ t.code = ap (λ (g : Firing). g.code) first.1.is in
            let goes_on : completed x ≡ completed (with_code t.code x) =
            ap (λ c. c.set) (completion-firing b.supplements day x f found.1 code.0 code.1) ∙ ap (λ (k : ℕ). completed (with_code k x)) same in
            let end_t : HasOneEnd b day (with_code t.code x) = later (with_code t.code x) (grown t x ht on h) (omega (arith, fewer t x ht on h)) in
            record {
              ends = goes t ht on (subst (λ (y : List Bool). Ends b.supplements day y (with_code t.code x)) (sym goes_on) end_t.ends);
              alone = λ y ends. alone_by t ht y x ends h on later ∙ sym goes_on;
              constructible = subst (λ (z : List Bool). is_constructible b day z ≡ true) (sym goes_on) end_t.constructible;
            }
      ]

  one_end_within : (m : ℕ) (x : List Bool) → IsBuilt b day x → count_by not x ≤ m → HasOneEnd b day x
  one_end_within zero x h few = one_end_next x h (λ z hz less. absurd (omega arith))
  one_end_within (suc m) x h few = one_end_next x h (λ z hz less. one_end_within m z hz (omega arith))

pub one_end_law : (b : Contents) (day : ℕ) → IsBook b → IsCalm b day → (x : List Bool) → length x ≡ length b.codes → is_constructible b day x ≡ true → HasOneEnd b day x
one_end_law b day book calm x len built = one_end_within b day book.supplements_fit calm (count_by not x) x (record { counted = len; built = built }) (omega arith)
