-- Clauses of rules that are codes and negations of codes joined by `/`, behind clauses that just the sets that pass a test satisfy.
use Rattle.std.proofs.Common.{append_assoc, ◌≡◌, ℕ, ◌+◌, ◌*◌, ◌/◌, ◌%◌, ◌<◌, ◌≤◌, Bool, true, false, not, ◌&&◌, ◌||◌, ◌==◌, List, [], ◌∷◌, ◌++◌, Option, None, Some, length, map, get_or, slice_get, ◌⊎◌, ltb, if◌then◌else◌, refl, sym, ap, subst, ◌∙◌, inl, inr, arith}
use Rattle.std.specs.List.{AllByRecursion}
use Rattle.std.proofs.lemmas.Bool.{and_from, and_parts, cases_Bool, or_cases, or_left, or_right, ltb-true, ltb-false, false≢true}
use Rattle.std.proofs.lemmas.List.{append-nil, map-append}
use Rattle.std.proofs.lemmas.List.Elements.{recursion_from_All, All-from_recursion}
use Rattle.std.proofs.lemmas.List.Folds.{list_all-append}
use Rattle.std.proofs.lemmas.Option.{slice_get-get_or, get_or_from_slice_get}
use Rattle.pb_base.specs.Rule.{Rule, holds, codes_below}
use Rattle.pb_base.specs.Sets.{has}
use Rattle.book_model.specs.Contents.{Contents}
use Rattle.clause_pool.specs.Literal.{literal, is_true}
use Rattle.clause_pool.specs.Clause.{Sat, clause_of, clause_true, IsBelow, AreBelow}
use Rattle.clause_pool.proofs.ClauseLaws.{clause_true-clause_of, IsBelow-clause_of}
use Rattle.clausify.specs.Encoding.{EncodesAlone}
use Rattle.clausify.specs.Items.{Item, rule_item}
use Rattle.clausify.specs.Lifting.{BeginsWith, CodesJust}
use Rattle.clausify.specs.declared.encoder.Encoder.{Encoder}
use Rattle.clausify.proofs.ItemLaws.{meets, item_fits}
use Rattle.clausify.proofs.ListLaws.{all-append, all_first, all_last}
use Rattle.clausify.proofs.Truth.{true_negative}
use Rattle.blame.specs.Blame.{entry_item}
use Rattle.blame.specs.Guarding.{AreFurther, plain_entry}
use Rattle.blame.specs.Plain.{begun_literals, further_true, IsPlain, IsPlainOf, AddsPlain}
use Rattle.blame.specs.declared.entries.Entry.{Entry}

begun_met : (g : ℕ) (on : Option ℕ) (f : Rule) (y : List Bool) → (has y g ≡ true → meets y (rule_item on f) ≡ true) → (holds f y || clause_true (has y) (begun_literals g on)) ≡ true
begun_met g None f y h =
    elim (cases_Bool (has y g)) [
      | inl there ↦ or_left (holds f y) (clause_true (has y) (begun_literals g None)) (h there)
      | inr absent ↦
          or_right (holds f y) (clause_true (has y) (begun_literals g None))
          (or_left (is_true (has y) (literal g false)) false (true_negative (has y) g ∙ ap not absent))
    ]
begun_met g (Some c) f y h =
    let rest : Bool = clause_true (has y) (begun_literals g (Some c)) in
    let tail : Bool = clause_true (has y) (literal c false ∷ []) in
    elim (cases_Bool (has y g)) [
      | inl there ↦ elim (or_cases (not (has y c)) (holds f y) (h there)) [
        | inl absent ↦
            or_right (holds f y) rest
            (or_right (is_true (has y) (literal g false)) tail (or_left (is_true (has y) (literal c false)) false (true_negative (has y) c ∙ absent)))
        | inr true_ ↦ or_left (holds f y) rest true_
      ]
      | inr absent ↦ or_right (holds f y) rest (or_left (is_true (has y) (literal g false)) tail (true_negative (has y) g ∙ ap not absent))
    ]

begun_low : (g n : ℕ) (on : Option ℕ) (f : Rule) → g < n → item_fits n (rule_item on f) ≡ true → IsBelow (2 * n) (begun_literals g on)
begun_low g n None f low fit = (omega (arith, low), tt)
begun_low g n (Some c) f low fit =
    let inside : c < n = ltb-true c n (and_parts (codes_below n f) _ fit).1 in
    (omega (arith, low), (omega (arith, inside), tt))

-- where the guard is there, it asks for the rule
begun_back : (g : ℕ) (on : Option ℕ) (f : Rule) (y : List Bool) → has y g ≡ true → (holds f y || clause_true (has y) (begun_literals g on)) ≡ true → meets y (rule_item on f) ≡ true
begun_back g None f y there h =
    elim (or_cases (holds f y) (clause_true (has y) (begun_literals g None)) h) [
      | inl true_ ↦ true_
      | inr begun ↦ elim (or_cases (is_true (has y) (literal g false)) false begun) [
        | inl absent ↦ absurd (false≢true (sym (ap not there) ∙ sym (true_negative (has y) g) ∙ absent))
        | inr none ↦ absurd (false≢true none)
      ]
    ]
begun_back g (Some c) f y there h =
    let tail : Bool = clause_true (has y) (literal c false ∷ []) in
    elim (or_cases (holds f y) (clause_true (has y) (begun_literals g (Some c))) h) [
      | inl true_ ↦ or_right (not (has y c)) (holds f y) true_
      | inr begun ↦ elim (or_cases (is_true (has y) (literal g false)) tail begun) [
        | inl absent ↦ absurd (false≢true (sym (ap not there) ∙ sym (true_negative (has y) g) ∙ absent))
        | inr later ↦ elim (or_cases (is_true (has y) (literal c false)) false later) [
          | inl gone ↦ or_left (not (has y c)) (holds f y) (sym (true_negative (has y) c) ∙ gone)
          | inr none ↦ absurd (false≢true none)
        ]
      ]
    ]

-- the clause of a rule behind its guard
pub plain_added : (plain : Bool) (g : ℕ) (on : Option ℕ) (f : Rule) (begun lits : List ℕ) (old new : Encoder) → begun ≡ begun_literals g on → IsPlain f begun lits
    → EncodesAlone old new (clause_of lits ∷ []) → AddsPlain plain g (rule_item on f) old new
plain_added whether g on f begun lits old new is plain made = record {
  lists = lits ∷ [];
  made = made;
  each = let one : AllByRecursion (IsPlainOf g (rule_item on f)) (lits ∷ []) = (
    record {
      met = λ y h. sym (plain.same y) ∙ ap (λ (ls : List ℕ). holds f y || clause_true (has y) ls) is ∙ begun_met g on f y h;
      low = λ n low fit.
          plain.low n (and_parts (codes_below n f) _ fit).0 (subst (IsBelow (2 * n)) (sym is) (begun_low g n on f low fit));
    },
    tt,
  ) in All-from_recursion (IsPlainOf g (rule_item on f)) (lits ∷ []) one;
  back = λ so y true_ there.
      begun_back g on f y there
      (sym (sym (plain.same y) ∙ ap (λ (ls : List ℕ). holds f y || clause_true (has y) ls) is) ∙ (and_parts (clause_true (has y) lits) true true_).0);
}

pub plain_none : (plain : Bool) (g : ℕ) (i : Item) (e : Encoder) → plain ≡ false → AddsPlain plain g i e e
plain_none plain g i e not_plain = record {
  lists = [];
  made = record { clauses = sym (append-nil e.pool.clauses); next = omega arith; truth = refl; first = refl };
  each = All-from_recursion (IsPlainOf g i) [] tt;
  back = λ is y true_ there. absurd (false≢true (sym not_plain ∙ is));
}

-- further clauses
module _ (x : List Bool) (a : ℕ → Bool) (begins : BeginsWith x a) where
  clause_agree : (c : List ℕ) → IsBelow (2 * length x) c → clause_true a c ≡ clause_true (has x) c
  clause_agree [] low = refl
  clause_agree (l ∷ c) low =
      ap (λ (p : Bool). (if l % 2 == 0 then p else not p) || clause_true a c) (begins (l / 2) (omega (arith, low.0)))
      ∙ ap (λ (p : Bool). is_true (has x) l || p) (clause_agree c low.1)

  further_sat : (ls : List (List ℕ)) → AllByRecursion (IsBelow (2 * length x)) ls → further_true ls x ≡ true → Sat (map clause_of ls) a
  further_sat [] low h = tt
  further_sat (c ∷ ls) low h =
      let parts = and_parts (clause_true (has x) c) (further_true ls x) h in
      (clause_true-clause_of a c ∙ clause_agree c low.0 ∙ parts.0, further_sat ls low.1 parts.1)

  further_from_sat : (ls : List (List ℕ)) → AllByRecursion (IsBelow (2 * length x)) ls → Sat (map clause_of ls) a → further_true ls x ≡ true
  further_from_sat [] low s = refl
  further_from_sat (c ∷ ls) low s =
      and_from (clause_true (has x) c) (further_true ls x) (sym (clause_agree c low.0) ∙ sym (clause_true-clause_of a c) ∙ s.0) (further_from_sat ls low.1 s.1)

pub just_further : (n v : ℕ) (test : List Bool → Bool) (cs ls : List (List ℕ)) → AllByRecursion (IsBelow (2 * n)) ls → CodesJust n test cs v
    → CodesJust n (λ x. test x && further_true ls x) (cs ++ map clause_of ls) v
just_further n v test cs ls low h = record {
  lifts = λ x len pass.
      let parts = and_parts (test x) (further_true ls x) pass in
      let l = h.lifts x len parts.0 in (
        l.0,
        record {
          begins = l.1.begins;
          satisfies = all-append _ cs (map clause_of ls) l.1.satisfies (further_sat x l.0 l.1.begins ls (subst (λ (k : ℕ). AllByRecursion (IsBelow (2 * k)) ls) (sym len) low) parts.1);
          alone = λ c starts sat. l.1.alone c starts (all_first _ cs (map clause_of ls) sat);
        },
      );
  begins_so = λ a x len begins sat.
      and_from (test x) (further_true ls x) (h.begins_so a x len begins (all_first _ cs (map clause_of ls) sat))
      (further_from_sat x a begins ls (subst (λ (k : ℕ). AllByRecursion (IsBelow (2 * k)) ls) (sym len) low) (all_last _ cs (map clause_of ls) sat));
}

below_more : (n v : ℕ) (c : List ℕ) → n ≤ v → IsBelow (2 * n) c → IsBelow (2 * v) c
below_more n v [] more low = tt
below_more n v (l ∷ c) more low = (omega (arith, low.0, more), below_more n v c more low.1)

pub further_below : (n v : ℕ) (ls : List (List ℕ)) → n ≤ v → AllByRecursion (IsBelow (2 * n)) ls → AreBelow (2 * v) (map clause_of ls)
further_below n v [] more low = tt
further_below n v (c ∷ ls) more low = (IsBelow-clause_of (2 * v) c (below_more n v c more low.0), further_below n v ls more low.1)

-- an element that isn't behind a place stands before it, or there
pub or_last : {X : Type 0} (xs : List X) (i k : ℕ) (d x : X) → slice_get xs k ≡ Some x → k < i + 1 → (k < i) ⊎ ((k ≡ i) × (get_or xs i d ≡ x))
or_last xs i k d x there inside =
    elim (cases_Bool (ltb k i)) [
      | inl before ↦ inl (ltb-true k i before)
      | inr past ↦
          let same : k ≡ i = omega (arith, inside, ltb-false k i past) in
          inr (same, sym (ap (λ (j : ℕ). get_or xs j d) same) ∙ get_or_from_slice_get xs k x d there)
    ]

-- what each of some clauses gives
each_met : (g : ℕ) (i : Item) (lists : List (List ℕ)) (y : List Bool) → AllByRecursion (IsPlainOf g i) lists → (has y g ≡ true → meets y i ≡ true) → further_true lists y ≡ true
each_met g i [] y each h = refl
each_met g i (c ∷ lists) y each h = and_from (clause_true (has y) c) (further_true lists y) (each.0.met y h) (each_met g i lists y each.1 h)

each_low : (g n : ℕ) (i : Item) (lists : List (List ℕ)) → AllByRecursion (IsPlainOf g i) lists → g < n → item_fits n i ≡ true → AllByRecursion (IsBelow (2 * n)) lists
each_low g n i [] each low fit = tt
each_low g n i (c ∷ lists) each low fit = (each.0.low n low fit, each_low g n i lists each.1 low fit)

pub further_none : (b : Contents) (m : List Entry) (e : Encoder) → AreFurther b m 0 e e
further_none b m e = record {
  lists = [];
  made = record { clauses = sym (append-nil e.pool.clauses); next = omega arith; truth = refl; first = refl };
  low = tt;
  met = λ y on. refl;
  back = λ y true_ k e inside. absurd (omega (arith, inside));
}

pub further_more : (b : Contents) (m : List Entry) (i g : ℕ) (d : Entry) (first e e2 : Encoder) → i < length m → g ≡ length b.codes + i
    → item_fits (length b.codes + length m) (entry_item b (get_or m i d)) ≡ true → AreFurther b m i first e
    → AddsPlain (plain_entry b (get_or m i d)) g (entry_item b (get_or m i d)) e e2 → AreFurther b m (i + 1) first e2
further_more b m i g d first e e2 within is fit h more =
    let x : Entry = get_or m i d in
    let all : ℕ = length b.codes + length m in
    let each = recursion_from_All (IsPlainOf g (entry_item b x)) more.lists more.each in
    record {
      lists = h.lists ++ more.lists;
      made = record {
        clauses =
            more.made.clauses
            ∙ ap (λ (cs : List (List ℕ)). cs ++ map clause_of more.lists) h.made.clauses
            ∙ append_assoc first.pool.clauses (map clause_of h.lists) (map clause_of more.lists)
            ∙ ap (λ (cs : List (List ℕ)). first.pool.clauses ++ cs) (sym (map-append clause_of h.lists more.lists));
        next = omega (arith, h.made.next, more.made.next);
        truth = more.made.truth ∙ h.made.truth;
        first = more.made.first ∙ h.made.first;
      };
      low = all-append (IsBelow (2 * all)) h.lists more.lists h.low (each_low g all (entry_item b x) more.lists each (omega (arith, is, within)) fit);
      met = λ y on.
          list_all-append (λ c. clause_true (has y) c) h.lists more.lists
          ∙ and_from (further_true h.lists y) (further_true more.lists y) (h.met y on)
          (each_met g (entry_item b x) more.lists y each (λ there. on i x (slice_get-get_or m i d within) (ap (has y) (sym is) ∙ there)));
      back = λ y true_ k e inside there plain on.
          let parts = and_parts (further_true h.lists y) (further_true more.lists y) (sym (list_all-append (λ c. clause_true (has y) c) h.lists more.lists) ∙ true_) in
          elim (or_last m i k d e there inside) [
            | inl before ↦ h.back y parts.0 k e before there plain on
            | inr last ↦
                subst (λ (o : Entry). meets y (entry_item b o) ≡ true) last.1
                (more.back (ap (plain_entry b) last.1 ∙ plain) y parts.1 (ap (has y) (is ∙ ap (λ (j : ℕ). length b.codes + j) (sym last.0)) ∙ on))
          ];
    }
