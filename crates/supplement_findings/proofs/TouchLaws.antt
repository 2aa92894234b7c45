-- What an added code changes of the demands of constructibility rules: of those in which it does not stand nothing, and of the
-- others what `after` says.
use Rattle.std.proofs.Common.{inl, inr, ◌≡◌, ℕ, zero, suc, ◌+◌, ◌<◌, Bool, true, false, not, ◌&&◌, ◌||◌, eqb, leb, List, [], ◌∷◌, None, Some, length, map, set, refl, sym, ap, ◌∙◌, arith}
use Rattle.std.proofs.lemmas.Bool.Decides.{nat_tests}
use Rattle.std.specs.Prelude.{nat_eq}
use Rattle.std.specs.List.{filter, list_any, list_all, AllByRecursion, IsDistinct}
use Rattle.std.proofs.lemmas.Bool.{and_left, or_parts, cases_Bool, cases_eq, cond-true, cond-false, eqb-false, eq-eqb, ne_eqb, le-leb, lt-leb, not_from_true, not_from_false, false≢true}
use Rattle.std.proofs.lemmas.List.{get_or-set_same, get_or-set_other}
use Rattle.std.proofs.Math.Bool.{and_assoc, and-true}
use Rattle.pb_base.specs.Leaves.{with_present}
use Rattle.pb_base.specs.Rule.{Rule, code, negation, both, either, holds}
use Rattle.pb_base.specs.Sets.{has}
use Rattle.pb_base.proofs.LeafLaws.{holds-with_present}
use Rattle.book_model.specs.Activity.{is_within}
use Rattle.book_model.specs.Book.{ConstructFits, DemandFits}
use Rattle.book_model.specs.Good.{breaks, is_met, present}
use Rattle.book_model.specs.declared.demand.Demand.{Demand}
use Rattle.book_model.specs.declared.demand.Demand.TheVariants as demand
use Rattle.book_model.specs.declared.record.Construct.{Construct}
use Rattle.clausify.specs.Questions.{and_none, none_rule}
use Rattle.supplement.specs.Occurrences.{occurs}
use Rattle.supplement.proofs.OccurrenceLemmas.{holds-set}
use Rattle.supplement_findings.specs.Touching.{touches, after}

-- none of some codes is present

holds-and_none : (x : List Bool) (f : Rule) (gs : List Rule) → holds (and_none f gs) x ≡ (holds f x && list_all (λ g. not (holds g x)) gs)
holds-and_none x f [] = sym (and-true (holds f x))
holds-and_none x f (g ∷ gs) = holds-and_none x (both f (negation g)) gs ∙ and_assoc (holds f x) (not (holds g x)) (list_all (λ h. not (holds h x)) gs)

holds-none_rule : (x : List Bool) (gs : List Rule) → holds (none_rule gs) x ≡ list_all (λ g. not (holds g x)) gs
holds-none_rule x [] = refl
holds-none_rule x (g ∷ gs) = holds-and_none x (negation g) gs

count_with : (x : List Bool) (k : ℕ) (ks : List ℕ) → has x k ≡ true → present x (k ∷ ks) ≡ 1 + present x ks
count_with x k ks e = rw e (omega arith)

count_without : (x : List Bool) (k : ℕ) (ks : List ℕ) → has x k ≡ false → present x (k ∷ ks) ≡ present x ks
count_without x k ks e = rw e refl

none_present : (x : List Bool) (ks : List ℕ) → list_all (λ g. not (holds g x)) (map code ks) ≡ eqb (present x ks) 0
none_present x [] = refl
none_present x (k ∷ ks) =
    elim (cases_Bool (has x k)) [
      | inl there ↦ rw there (sym (ne_eqb (suc (present x ks)) 0 (λ e. omega (arith, e))))
      | inr gone ↦ rw gone (none_present x ks)
    ]

-- a group in which the code does not stand
count_untouched : (x : List Bool) (c : ℕ) (ks : List ℕ) → list_any (λ k. eqb k c) ks ≡ false → present (set x c true) ks ≡ present x ks
count_untouched x c [] h = refl
count_untouched x c (k ∷ ks) h =
    let parts = or_parts (eqb k c) (list_any (λ j. eqb j c) ks) h in
    let same : has (set x c true) k ≡ has x k = get_or-set_other x c k true false (eqb-false k c parts.0) in
    elim (cases_Bool (has x k)) [
      | inl there ↦ rw (same, there) (ap suc (count_untouched x c ks parts.1))
      | inr gone ↦ rw (same, gone) (count_untouched x c ks parts.1)
    ]

others_all : (c : ℕ) (ks : List ℕ) → list_any (λ k. eqb k c) ks ≡ false → filter (λ k. not (eqb k c)) ks ≡ ks
others_all c [] h = refl
others_all c (k ∷ ks) h =
    let parts = or_parts (eqb k c) (list_any (λ j. eqb j c) ks) h in
    rw parts.0 (ap (λ (js : List ℕ). k ∷ js) (others_all c ks parts.1))

-- none of the later codes of a group is its first
apart_from_first : (k c : ℕ) (ks : List ℕ) → k ≡ c → AllByRecursion (λ j. nat_eq k j ≡ false) ks → list_any (λ j. eqb j c) ks ≡ false
apart_from_first k c [] same h = refl
apart_from_first k c (j ∷ ks) same h =
    let other : eqb j c ≡ false = ne_eqb j c (λ (e : j ≡ c). eqb-false k j h.0 (same ∙ sym e)) in
    rw other (apart_from_first k c ks same h.1)

-- a group in which it stands has one code more present than the others are
count_touched : (x : List Bool) (c : ℕ) (ks : List ℕ) → c < length x → IsDistinct nat_eq ks → list_any (λ k. eqb k c) ks ≡ true
    → present (set x c true) ks ≡ 1 + present x (filter (λ k. not (eqb k c)) ks)
unfolding IsDistinct
count_touched x c [] within distinct h = absurd (false≢true h)
count_touched x c (k ∷ ks) within distinct h =
    elim (cases_eq k c) [
      | inl same ↦
          let rest : list_any (λ j. eqb j c) ks ≡ false = apart_from_first k c ks same distinct.0 in
          let added : has (set x c true) k ≡ true = ap (has (set x c true)) same ∙ get_or-set_same x c true false within in
          count_with (set x c true) k ks added
          ∙ ap (λ (n : ℕ). 1 + n) (count_untouched x c ks rest ∙ ap (present x) (sym (others_all c ks rest)))
          ∙ ap (λ (js : List ℕ). 1 + present x js) (sym (cond-false (not (eqb k c)) (k ∷ filter (λ j. not (eqb j c)) ks) (filter (λ j. not (eqb j c)) ks) (not_from_true (eqb k c) (eq-eqb k c same))))
      | inr other ↦
          let not_here : eqb k c ≡ false = ne_eqb k c other in
          let later : list_any (λ j. eqb j c) ks ≡ true = sym (ap (λ t. t || list_any (λ j. eqb j c) ks) not_here) ∙ h in
          let kept : filter (λ j. not (eqb j c)) (k ∷ ks) ≡ k ∷ filter (λ j. not (eqb j c)) ks =
          cond-true (not (eqb k c)) (k ∷ filter (λ j. not (eqb j c)) ks) (filter (λ j. not (eqb j c)) ks) (not_from_false (eqb k c) not_here) in
          let same : has (set x c true) k ≡ has x k = get_or-set_other x c k true false other in
          let rest = count_touched x c ks within distinct.1 later in
          elim (cases_Bool (has x k)) [
            | inl there ↦
                let more = count_with (set x c true) k ks (same ∙ there) in
                let left = count_with x k (filter (λ j. not (eqb j c)) ks) there in
                omega (arith, more, left, rest, ap (present x) kept)
            | inr gone ↦
                let more = count_without (set x c true) k ks (same ∙ gone) in
                let left = count_without x k (filter (λ j. not (eqb j c)) ks) gone in
                omega (arith, more, left, rest, ap (present x) kept)
          ]
    ]

one_of_more : (n : ℕ) → eqb (1 + n) 1 ≡ eqb n 0
one_of_more n = grind (arith, nat_tests)

most_of_more : (n : ℕ) → leb (1 + n) 1 ≡ eqb n 0
most_of_more n = grind (arith, nat_tests)

-- a demand in which the code does not stand is met as before
pub met_untouched : (x : List Bool) (c : ℕ) (d : Demand) → touches c d ≡ false → is_met (set x c true) d ≡ is_met x d
met_untouched x c (demand.Rule None rule) off = holds-set rule x c off
met_untouched x c (demand.Rule (Some on) rule) off =
    let parts = or_parts (eqb on c) (occurs c rule) off in
    ap (λ t. not t || holds rule (set x c true)) (get_or-set_other x c on true false (eqb-false on c parts.0))
    ∙ ap (λ t. not (has x on) || t) (holds-set rule x c parts.1)
met_untouched x c (demand.One group) off = ap (λ (n : ℕ). eqb n 1) (count_untouched x c group off)
met_untouched x c (demand.Most group) off = ap (λ (n : ℕ). leb n 1) (count_untouched x c group off)

-- and one in which it stands, where what is asked of the set with it is true
pub met_touched : (n : ℕ) (x : List Bool) (c : ℕ) (d : Demand) → c < length x → DemandFits n d → touches c d ≡ true → is_met (set x c true) d ≡ holds (after c d) x
met_touched n x c (demand.Rule None rule) within fits on_ = sym (holds-with_present x c within rule)
met_touched n x c (demand.Rule (Some on) rule) within fits on_ =
    elim (cases_eq on c) [
      | inl same ↦
          rw (eq-eqb on c same, ap (has (set x c true)) same, get_or-set_same x c true false within) (sym (holds-with_present x c within rule))
      | inr other ↦ rw (ne_eqb on c other, get_or-set_other x c on true false other, holds-with_present x c within rule) refl
    ]
met_touched n x c (demand.One group) within fits on_ =
    ap (λ (k : ℕ). eqb k 1) (count_touched x c group within fits.distinct on_) ∙ one_of_more (present x (filter (λ k. not (eqb k c)) group))
    ∙ sym (none_present x (filter (λ k. not (eqb k c)) group)) ∙ sym (holds-none_rule x (map code (filter (λ k. not (eqb k c)) group)))
met_touched n x c (demand.Most group) within fits on_ =
    ap (λ (k : ℕ). leb k 1) (count_touched x c group within fits.distinct on_) ∙ most_of_more (present x (filter (λ k. not (eqb k c)) group))
    ∙ sym (none_present x (filter (λ k. not (eqb k c)) group)) ∙ sym (holds-none_rule x (map code (filter (λ k. not (eqb k c)) group)))

-- Over a set that breaks no rule, the set with the code breaks one just where one that it touches asks what is not true.

pub broken_after : (n day : ℕ) (x : List Bool) (c : ℕ) (rs : List Construct) → c < length x → AllByRecursion (ConstructFits n) rs → list_any (breaks day x) rs ≡ false
    → list_any (breaks day (set x c true)) rs ≡ list_any (λ r. not (holds (after c r.demand) x)) (filter (λ r. is_within r.from r.until day && touches c r.demand) rs)
broken_after n day x c [] within fits none = refl
broken_after n day x c (r ∷ rs) within fits none =
    let parts = or_parts (breaks day x r) (list_any (breaks day x) rs) none in
    let later = broken_after n day x c rs within fits.1 parts.1 in
    elim (cases_Bool (is_within r.from r.until day)) [
      | inl active ↦ elim (cases_Bool (touches c r.demand)) [
        | inl on_ ↦
            let here : is_met (set x c true) r.demand ≡ holds (after c r.demand) x = met_touched n x c r.demand within fits.0.demand on_ in
            rw (active, on_, here, later) refl
        | inr off ↦
            let here : breaks day (set x c true) r ≡ false = ap (λ t. is_within r.from r.until day && not t) (met_untouched x c r.demand off) ∙ parts.0 in
            rw (here, active, off) later
      ]
      | inr inactive ↦ rw inactive later
    ]
