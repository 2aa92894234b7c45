-- What holds of every completion.
use Rattle.std.proofs.Common.{◌≡◌, ℕ, zero, suc, ◌<◌, ◌≤◌, Bool, true, false, not, cond, List, [], ◌∷◌, length, get_or, set, Option, Some, None, refl, sym, ap, subst, ◌∙◌, ◌⊎◌, inl, inr, arith, All}
use Rattle.std.specs.Prelude.{count_by}
use Rattle.std.specs.Option.{option_map_or}
use Rattle.std.specs.List.{list_any}
use Rattle.std.proofs.lemmas.Bool.{not_from_false, not-true, cases_eq, or_parts}
use Rattle.std.proofs.lemmas.List.Elements.{All-nil, All-cons}
use Rattle.std.proofs.lemmas.List.{length-set, get_or-set_same, get_or-set_other}
use Rattle.std.proofs.lemmas.List.Sums.{sum_by-set}
use Rattle.std.proofs.lemmas.List.Folds.{list_any_none}
use Rattle.pb_base.specs.Sets.{has}
use Rattle.book_model.specs.Book.{SupplementFits}
use Rattle.book_model.specs.Contents.{Contents}
use Rattle.book_model.specs.Good.{fires, is_closed}
use Rattle.book_model.specs.declared.record.Supplement.{Supplement}
use Rattle.supplement.specs.declared.firing.Firing.{Firing}
use Rattle.supplement.specs.Completion.{Includes, first_firing, with_code_of, nothing_added, added_first, completion_within, completion_by, completion_of}
use Rattle.supplement.proofs.FirstFiring.{none_fires, first_firing-none, first_code}

cases_firing : (o : Option Firing) → (o ≡ None) ⊎ ((f : Firing) × (o ≡ Some f))
cases_firing None = inl refl
cases_firing (Some f) = inr (f, refl)

-- an absent code that is added is one fewer to add
pub fewer_absent : (x : List Bool) (code : ℕ) → code < length x → has x code ≡ false → count_by not x ≡ suc (count_by not (set x code true))
fewer_absent x code within absent =
    let f : Bool → ℕ = λ v. cond (not v) 1 0 in
    let e = sum_by-set f x code true false within in
    let one : f (get_or x code false) ≡ 1 = ap f absent in
    omega (arith, e, one)

-- adding a code takes none away
pub Includes-set : (x : List Bool) (code : ℕ) → code < length x → Includes x (set x code true)
Includes-set x code within other present =
    elim (cases_eq other code) [
      | inl same ↦ ap (λ k. get_or (set x code true) k false) same ∙ get_or-set_same x code true false within
      | inr differs ↦ get_or-set_other x code other true false differs ∙ present
    ]

any_fires_none : (rules : List Supplement) (day : ℕ) (x : List Bool) → first_firing rules day x ≡ None → list_any (fires day x) rules ≡ false
any_fires_none rules day x none = list_any_none (fires day x) rules (none_fires 0 day x rules none)

-- what a completion is: no rule fires over it, it has the same codes, and every code that was there
pub record IsCompleted (rules : List Supplement) (day : ℕ) (x y : List Bool) : Type 0 where
  pub closed : not (list_any (fires day y) rules) ≡ true
  pub includes : Includes x y
  pub same_codes : length y ≡ length x

within_none : (n : ℕ) (rules : List Supplement) (day : ℕ) (x : List Bool) → first_firing rules day x ≡ None → completion_within n rules day x ≡ nothing_added x
within_none zero rules day x none = refl
within_none (suc n) rules day x none = ap (λ o. option_map_or (λ f. added_first f (completion_within n rules day (with_code_of f x))) o (nothing_added x)) none

within_firing : (n : ℕ) (rules : List Supplement) (day : ℕ) (x : List Bool) (f : Firing) → first_firing rules day x ≡ Some f → completion_within (suc n) rules day x ≡ added_first f (completion_within n rules day (with_code_of f x))
within_firing n rules day x f first = ap (λ o. option_map_or (λ f. added_first f (completion_within n rules day (with_code_of f x))) o (nothing_added x)) first

is_completed_at_none : (n : ℕ) (rules : List Supplement) (day : ℕ) (x : List Bool) → first_firing rules day x ≡ None → IsCompleted rules day x (completion_within n rules day x).set
is_completed_at_none n rules day x none =
    subst (λ y. IsCompleted rules day x y) (sym (ap (λ c. c.set) (within_none n rules day x none)))
    (record { closed = not_from_false _ (any_fires_none rules day x none); includes = λ code present. present; same_codes = refl })

is_completed_within : (n : ℕ) (rules : List Supplement) (day : ℕ) (x : List Bool) → count_by not x ≤ n → All (SupplementFits (length x)) rules → IsCompleted rules day x (completion_within n rules day x).set
is_completed_within zero rules day x few fit =
    elim (cases_firing (first_firing rules day x)) [
      | inl none ↦ is_completed_at_none zero rules day x none
      | inr found ↦
          let code = first_code (length x) 0 day x rules found.0 fit found.1 in
          absurd (omega (arith, fewer_absent x found.0.code code.0 code.1))
    ]
is_completed_within (suc n) rules day x few fit =
    elim (cases_firing (first_firing rules day x)) [
      | inl none ↦ is_completed_at_none (suc n) rules day x none
      | inr found ↦
          let f = found.0 in
          let code = first_code (length x) 0 day x rules f fit found.1 in
          let larger = with_code_of f x in
          let same : length larger ≡ length x = length-set x f.code true in
          let rest = is_completed_within n rules day larger (omega (arith, fewer_absent x f.code code.0 code.1)) (subst (λ k. All (SupplementFits k) rules) (sym same) fit) in
          subst (λ y. IsCompleted rules day x y) (sym (ap (λ c. c.set) (within_firing n rules day x f found.1)))
          (record { closed = rest.closed; includes = λ k present. rest.includes k (Includes-set x f.code code.0 k present); same_codes = rest.same_codes ∙ same })
    ]

-- no rule fires over the set of a completion, and it holds the set that was given
pub is_completed-completion : (rules : List Supplement) (day : ℕ) (x : List Bool) → All (SupplementFits (length x)) rules → IsCompleted rules day x (completion_by rules day x).set
unfolding completion_by
is_completed-completion rules day x fit = is_completed_within (count_by not x) rules day x (omega arith) fit

-- where no rule fires, nothing is added
pub completion-none : (rules : List Supplement) (day : ℕ) (x : List Bool) → first_firing rules day x ≡ None → completion_by rules day x ≡ nothing_added x
unfolding completion_by
completion-none rules day x none = within_none (count_by not x) rules day x none

-- else the rule that fires first adds its code, and the completion of the larger set follows
pub completion-firing : (rules : List Supplement) (day : ℕ) (x : List Bool) (f : Firing) → first_firing rules day x ≡ Some f → f.code < length x → has x f.code ≡ false → completion_by rules day x ≡ added_first f (completion_by rules day (with_code_of f x))
unfolding completion_by
completion-firing rules day x f first within absent =
    ap (λ n. completion_within n rules day x) (fewer_absent x f.code within absent) ∙ within_firing (count_by not (with_code_of f x)) rules day x f first

all_false : (test : Supplement → Bool) (ss : List Supplement) → list_any test ss ≡ false → All (λ s. test s ≡ false) ss
all_false test [] none = All-nil (λ s. test s ≡ false)
all_false test (s ∷ ss) none =
    let parts = or_parts (test s) (list_any test ss) none in
    All-cons (λ t. test t ≡ false) s ss parts.0 (all_false test ss parts.1)

-- a closed set is its own completion
pub completion-closed : (b : Contents) (day : ℕ) (x : List Bool) → is_closed b day x ≡ true → completion_of b day x ≡ nothing_added x
completion-closed b day x closed = completion-none b.supplements day x (first_firing-none 0 day x b.supplements (all_false (fires day x) b.supplements (not-true _ closed)))
