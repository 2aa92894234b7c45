-- What questions assume.
use Rattle.std.proofs.Common.{inl, inr, ◌≡◌, ℕ, ◌+◌, ◌*◌, ◌<◌, Bool, true, false, not, ◌&&◌, ◌||◌, eqb, List, [], ◌∷◌, ◌++◌, Some, length, get_or, take, refl, sym, ap, subst, ◌∙◌, arith}
use Rattle.std.specs.List.{list_any}
use Rattle.std.proofs.lemmas.Bool.{or_cases, or_parts, or_left, or_right, eq-eqb, eqb-true, false≢true, true≢false}
use Rattle.std.proofs.lemmas.List.{take_more}
use Rattle.std.proofs.lemmas.Option.{slice_get-get_or}
use Rattle.std.proofs.lemmas.List.Folds.{list_any-append, list_all-append}
use Rattle.pb_base.specs.Rule.{holds}
use Rattle.book_model.specs.Contents.{Contents}
use Rattle.book_model.specs.Parts.{variants_of}
use Rattle.clause_pool.specs.Literal.{literal, complement, is_true}
use Rattle.clause_pool.specs.Clause.{has}
use Rattle.clause_pool.specs.Derivation.{Derivation}
use Rattle.clause_pool.proofs.LiteralLaws.{is_true-complement}
use Rattle.clause_pool.proofs.ClauseLaws.{has-append}
use Rattle.clausify.specs.Choices.{usage, is_active_variant, active_variants}
use Rattle.clausify.specs.declared.question.Question.TheVariants.{Necessary, Inadmissible, Superfluous, Ambiguous, Uncovered}
use Rattle.clausify.proofs.ItemLaws.{or_nothing}
use Rattle.clausify.proofs.RangeLaws.{positive_below, negative_below, complement_below}
use Rattle.clausify.proofs.Truth.{true_positive, true_negative}
use Rattle.propagate.specs.Trail.{AreLiterals}
use Rattle.propagate.specs.Quiet.{IsConsistent}
use Rattle.slice_hints.proofs.UsageLaws.{any_of_kept, none_used}
use Rattle.solver.specs.Answer.{IsCore}
use Rattle.solver.proofs.OneLaws.{one_below}
use Rattle.book_clauses.specs.BookClauses.{AreUsages, IsUsage}
use Rattle.findings.specs.Core.{Assumes, AssumesNone, IsClash}

and_true : (t : Bool) → (t && true) ≡ t
and_true true = refl
and_true false = refl

pub assumes_absent : (b : Contents) (cs : List (List ℕ)) (vars day i l : ℕ) → length b.codes < vars → i < length b.codes → l ≡ literal i false → Assumes b cs vars day (Necessary i) (l ∷ [])
assumes_absent b cs vars day i l few within is =
    subst (λ (k : ℕ). Assumes b cs vars day (Necessary i) (k ∷ [])) (sym is) (record {
      below = one_below (literal i false) (2 * vars) (negative_below i vars (omega (arith, within, few)));
      right = λ x a len begins sat. and_true (is_true a (literal i false)) ∙ true_negative a i ∙ ap not (begins i (omega (arith, within, len)));
    })

pub assumes_present : (b : Contents) (cs : List (List ℕ)) (vars day i l : ℕ) → length b.codes < vars → i < length b.codes → l ≡ literal i true → Assumes b cs vars day (Inadmissible i) (l ∷ [])
assumes_present b cs vars day i l few within is =
    subst (λ (k : ℕ). Assumes b cs vars day (Inadmissible i) (k ∷ [])) (sym is) (record {
      below = one_below (literal i true) (2 * vars) (positive_below i vars (omega (arith, within, few)));
      right = λ x a len begins sat. and_true (is_true a (literal i true)) ∙ true_positive a i ∙ begins i (omega (arith, within, len));
    })

pub assumes_usage : (b : Contents) (cs : List (List ℕ)) (vars : ℕ) (day v l : ℕ) → IsUsage b cs vars v l → Assumes b cs vars day (Superfluous v) (l ∷ [])
assumes_usage b cs vars day v l h = record {
  below = one_below l (2 * vars) h.below;
  right = λ x a len begins sat. and_true (is_true a l) ∙ h.right x a len begins sat;
}

two_below : (l k n : ℕ) → l < n → k < n → AreLiterals (l ∷ k ∷ []) n
two_below l k n low other j is_in = elim (or_cases (eqb l j) (has (k ∷ []) j) is_in) [
  | inl same ↦ subst (λ (i : ℕ). i < n) (eqb-true l j same) low
  | inr later ↦ one_below k n other j later
]

pub assumes_both : (b : Contents) (cs : List (List ℕ)) (vars : ℕ) (day position f g l k : ℕ) → IsUsage b cs vars f l → IsUsage b cs vars g k → Assumes b cs vars day (Ambiguous position f g) (l ∷ k ∷ [])
assumes_both b cs vars day position f g l k h j = record {
  below = two_below l k (2 * vars) h.below j.below;
  right = λ x a len begins sat.
      ap (λ (t : Bool). is_true a l && t) (and_true (is_true a k) ∙ j.right x a len begins sat)
      ∙ ap (λ (t : Bool). t && holds (usage b g) x) (h.right x a len begins sat);
}

pub assumes_uncovered : (b : Contents) (cs : List (List ℕ)) (vars : ℕ) (day position : ℕ) (ls : List ℕ) → AssumesNone b cs vars day (variants_of position b.variants) ls → Assumes b cs vars day (Uncovered position) ls
assumes_uncovered b cs vars day position ls h = record {
  below = h.below;
  right = λ x a len begins sat.
      h.right x a len begins sat
      ∙ ap not (sym (any_of_kept (is_active_variant b day) (λ v. holds (usage b v) x) (variants_of position b.variants)))
      ∙ sym (none_used b x (active_variants b day position));
}

-- one variant more
abbrev is_used : Contents → ℕ → List Bool → ℕ → Bool
is_used b day x v = is_active_variant b day v && holds (usage b v) x

none_of_both : (t u : Bool) → (not t && (not u && true)) ≡ not (t || ((true && u) || false))
none_of_both true u = refl
none_of_both false true = refl
none_of_both false false = refl

pub none_begun : (b : Contents) (cs : List (List ℕ)) (vars : ℕ) (day : ℕ) (ls : List ℕ) → ls ≡ [] → AssumesNone b cs vars day [] ls
none_begun b cs vars day ls is =
    subst (AssumesNone b cs vars day []) (sym is) (record { below = λ l is_in. absurd (false≢true is_in); right = λ x a len begins sat. refl })

pub none_passed : (b : Contents) (cs : List (List ℕ)) (vars : ℕ) (day v : ℕ) (vs ls : List ℕ) → is_active_variant b day v ≡ false → AssumesNone b cs vars day vs ls → AssumesNone b cs vars day (vs ++ v ∷ []) ls
none_passed b cs vars day v vs ls inactive h = record {
  below = h.below;
  right = λ x a len begins sat.
      h.right x a len begins sat
      ∙ ap not (sym (list_any-append (is_used b day x) vs (v ∷ [])
      ∙ ap (λ (t : Bool). list_any (is_used b day x) vs || ((t && holds (usage b v) x) || false)) inactive
      ∙ or_nothing (list_any (is_used b day x) vs)));
}

more_below : (ls : List ℕ) (c n : ℕ) → AreLiterals ls n → c < n → AreLiterals (ls ++ c ∷ []) n
more_below ls c n all low l is_in = elim (or_cases (has ls l) (has (c ∷ []) l) (sym (has-append ls (c ∷ []) l) ∙ is_in)) [
  | inl before ↦ all l before
  | inr here ↦ one_below c n low l here
]

pub none_taken : (b : Contents) (cs : List (List ℕ)) (vars : ℕ) (day v l c : ℕ) (vs ls : List ℕ) → is_active_variant b day v ≡ true → IsUsage b cs vars v l → c ≡ complement l → AssumesNone b cs vars day vs ls
    → AssumesNone b cs vars day (vs ++ v ∷ []) (ls ++ c ∷ [])
none_taken b cs vars day v l c vs ls active own is h =
    subst (λ (k : ℕ). AssumesNone b cs vars day (vs ++ v ∷ []) (ls ++ k ∷ [])) (sym is) (record {
      below = more_below ls (complement l) (2 * vars) h.below (complement_below l vars own.below);
      right = λ x a len begins sat.
          let any : Bool = list_any (is_used b day x) vs in
          let used : Bool = holds (usage b v) x in
          list_all-append (is_true a) ls (complement l ∷ [])
          ∙ ap (λ (t : Bool). t && (is_true a (complement l) && true)) (h.right x a len begins sat)
          ∙ ap (λ (t : Bool). not any && (t && true)) (is_true-complement a l ∙ ap not (own.right x a len begins sat))
          ∙ none_of_both any used
          ∙ ap not (ap (λ (t : Bool). any || ((t && used) || false)) (sym active) ∙ sym (list_any-append (is_used b day x) vs (v ∷ [])));
    })

-- the first k + 1 of some variants
pub taken_more : (vs : List ℕ) (k v : ℕ) → k < length vs → v ≡ get_or vs k v → take (k + 1) vs ≡ take k vs ++ v ∷ []
taken_more vs k v below is = take_more vs k v below ∙ ap (λ (w : ℕ). take k vs ++ w ∷ []) (sym is)

-- tests over the literals of a list
pub none_passes : (p : ℕ → Bool) (xs : List ℕ) (l : ℕ) → list_any p xs ≡ false → has xs l ≡ true → p l ≡ false
none_passes p [] l none is_in = absurd (false≢true is_in)
none_passes p (x ∷ xs) l none is_in =
    let parts = or_parts (p x) (list_any p xs) none in
    elim (or_cases (eqb x l) (has xs l) is_in) [
      | inl same ↦ ap p (sym (eqb-true x l same)) ∙ parts.0
      | inr later ↦ none_passes p xs l parts.1 later
    ]

some_passes : (p : ℕ → Bool) (xs : List ℕ) → list_any p xs ≡ true → (l : ℕ) × (has xs l ≡ true) × (p l ≡ true)
some_passes p [] any = absurd (false≢true any)
some_passes p (x ∷ xs) any =
    elim (or_cases (p x) (list_any p xs) any) [
      | inl here ↦ (x, or_left (eqb x x) (has xs x) (eq-eqb x x refl), here)
      | inr later ↦
          let found = some_passes p xs later in
          (found.0, or_right (eqb x found.0) (has xs found.0) found.1, found.2)
    ]

pub consistent_by : (ls : List ℕ) → list_any (λ l. has ls (complement l)) ls ≡ false → IsConsistent ls
consistent_by ls none l is_in other = true≢false (sym other ∙ none_passes (λ k. has ls (complement k)) ls l none is_in)

pub clash_by : (ls : List ℕ) → list_any (λ l. has ls (complement l)) ls ≡ true → IsClash ls
clash_by ls any = let found = some_passes (λ k. has ls (complement k)) ls any in record { literal = found.0; is_in = found.1; other = found.2 }

pub from_not : (t : Bool) → not t ≡ false → t ≡ true
from_not true h = refl
from_not false h = absurd (true≢false h)

from_not_true : (t : Bool) → not t ≡ true → t ≡ false
from_not_true true h = absurd (false≢true h)
from_not_true false h = refl

pub consistent_when : (ls : List ℕ) (t : Bool) → t ≡ not (list_any (λ l. has ls (complement l)) ls) → t ≡ true → IsConsistent ls
consistent_when ls t is known = consistent_by ls (from_not_true (list_any (λ l. has ls (complement l)) ls) (sym is ∙ known))

pub clash_when : (ls : List ℕ) (t : Bool) → t ≡ not (list_any (λ l. has ls (complement l)) ls) → t ≡ false → IsClash ls
clash_when ls t is none = clash_by ls (from_not (list_any (λ l. has ls (complement l)) ls) (sym is ∙ none))

pub complements_by : (ls c : List ℕ) (l : ℕ) → list_any (λ k. not (has ls (complement k))) c ≡ false → has c l ≡ true → has ls (complement l) ≡ true
complements_by ls c l none is_in = from_not (has ls (complement l)) (none_passes (λ k. not (has ls (complement k))) c l none is_in)

pub complements_when : (ls c : List ℕ) (t : Bool) → t ≡ not (list_any (λ k. not (has ls (complement k))) c) → t ≡ true
    → (l : ℕ) → has c l ≡ true → has ls (complement l) ≡ true
complements_when ls c t is known l is_in = complements_by ls c l (from_not_true (list_any (λ k. not (has ls (complement k))) c) (sym is ∙ known)) is_in

pub core_by : (k : Derivation) (ls : List ℕ) (at : ℕ) (c : List ℕ) (t : Bool) → at < length k.clauses → c ≡ get_or k.clauses at [] → t ≡ not (list_any (λ l. not (has ls (complement l))) c) → t ≡ true
    → IsCore k ls at
core_by k ls at c t within is value known = record {
  clause = c;
  there = slice_get-get_or k.clauses at [] within ∙ ap (λ (x : List ℕ). Some x) (sym is);
  complements = complements_when ls c t value known;
}

-- a usage read from the literals of all of them
pub usage_read : (b : Contents) (cs : List (List ℕ)) (vars v : ℕ) (lits : List ℕ) (d : ℕ) → v < length lits → AreUsages b cs vars lits → IsUsage b cs vars v (get_or lits v d)
usage_read b cs vars v lits d within are = are v (get_or lits v d) (slice_get-get_or lits v d within)
