-- Completing step by step.
use Rattle.std.proofs.Common.{◌≡◌, ℕ, ◌<◌, Bool, true, false, not, List, [], ◌∷◌, ◌++◌, length, set, Some, None, refl, sym, ap, subst, ◌∙◌, arith, All, append_assoc, append-nil}
use Rattle.std.specs.Prelude.{count_by}
use Rattle.std.proofs.lemmas.List.{length-set}
use Rattle.pb_base.specs.Sets.{has}
use Rattle.book_model.specs.Book.{SupplementFits}
use Rattle.book_model.specs.declared.record.Supplement.{Supplement}
use Rattle.supplement.specs.declared.completed.Added.{Added}
use Rattle.supplement.specs.declared.completed.Completed.{Completed}
use Rattle.supplement.specs.declared.firing.Firing.{Firing}
use Rattle.supplement.specs.Completion.{first_firing, with_code_of, nothing_added, completion_by}
use Rattle.supplement.proofs.FirstFiring.{first_code}
use Rattle.supplement.proofs.Laws.{fewer_absent, completion-none, completion-firing}

-- what was added before, and then a completion
abbrev pub after : List Added → Completed → Completed
after before c = record { set = c.set; added = before ++ c.added }

abbrev pub added_by : Firing → Added
added_by f = record { code = f.code; rule = f.rule }

-- from x these additions led to y, and the completion of x goes on as that of y
pub record IsOnTheWay (rules : List Supplement) (day : ℕ) (x y : List Bool) (before : List Added) : Type 0 where
  pub same_codes : length y ≡ length x
  pub goes_on : completion_by rules day x ≡ after before (completion_by rules day y)

pub begins : (rules : List Supplement) (day : ℕ) (x : List Bool) → IsOnTheWay rules day x x []
begins rules day x = record { same_codes = refl; goes_on = refl }

-- the code of the rule that fires first is one that y lacks
pub adds_absent : (rules : List Supplement) (day : ℕ) (x y : List Bool) (before : List Added) (f : Firing) → All (SupplementFits (length x)) rules → first_firing rules day y ≡ Some f
    → IsOnTheWay rules day x y before → (f.code < length y) × (has y f.code ≡ false)
adds_absent rules day x y before f fit first so_far =
    let code = first_code (length x) 0 day y rules f fit first in
    (subst (λ n. f.code < n) (sym so_far.same_codes) code.0, code.1)

pub steps : (rules : List Supplement) (day : ℕ) (x y : List Bool) (before : List Added) (f : Firing) → All (SupplementFits (length x)) rules → first_firing rules day y ≡ Some f
    → IsOnTheWay rules day x y before → IsOnTheWay rules day x (set y f.code true) (before ++ added_by f ∷ [])
steps rules day x y before f fit first so_far =
    let code = adds_absent rules day x y before f fit first so_far in
    let rest = completion_by rules day (with_code_of f y) in
    let step = completion-firing rules day y f first code.0 code.1 in
    record {
      same_codes = length-set y f.code true ∙ so_far.same_codes;
      goes_on = so_far.goes_on ∙ ap (after before) step ∙ sym (ap (λ items. record { set = rest.set; added = items }) (append_assoc before (added_by f ∷ []) rest.added));
    }

pub fewer_after : (rules : List Supplement) (day : ℕ) (x y : List Bool) (before : List Added) (f : Firing) → All (SupplementFits (length x)) rules → first_firing rules day y ≡ Some f
    → IsOnTheWay rules day x y before → count_by not (set y f.code true) < count_by not y
fewer_after rules day x y before f fit first so_far =
    let code = adds_absent rules day x y before f fit first so_far in
    omega (arith, fewer_absent y f.code code.0 code.1)

pub ends : (rules : List Supplement) (day : ℕ) (x y : List Bool) (before : List Added) → first_firing rules day y ≡ None → IsOnTheWay rules day x y before → record { set = y; added = before } ≡ completion_by rules day x
ends rules day x y before none so_far =
    let stop : completion_by rules day x ≡ after before (nothing_added y) = so_far.goes_on ∙ ap (after before) (completion-none rules day y none) in
    sym (stop ∙ ap (λ items. record { set = y; added = items }) (append-nil before))
