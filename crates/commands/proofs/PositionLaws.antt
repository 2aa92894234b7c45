-- The clauses of one position of two books say what the position asks for.
use Rattle.std.proofs.Common.{◌≡◌, ℕ, ◌<◌, Bool, true, List, [], ◌∷◌, ◌++◌, length, refl, sym, ap, subst, append-nil}
use Rattle.std.specs.List.{IsDistinct}
use Rattle.pb_base.specs.Names.{same_name}
use Rattle.pb_base.specs.Sets.{has}
use Rattle.book_model.specs.Contents.{Contents}
use Rattle.clause_pool.specs.Clause.{Sat}
use Rattle.clause_pool.specs.Literal.{is_true}
use Rattle.inquiry.specs.Form.{MeetsGoal}
use Rattle.book_compare.specs.Asked.{asked_clauses, asked_goal, asked_keys}
use Rattle.book_compare.specs.Common.{DiffersWith}
use Rattle.book_compare.specs.Comparing.{AreBooks}
use Rattle.book_compare.specs.JointItems.{joint_clauses, joint_variables}
use Rattle.book_compare.specs.Keys.{position_clauses}
use Rattle.pb_base.specs.Picked.{picked}
use Rattle.book_compare.specs.Together.{searched_clauses}
use Rattle.book_compare.proofs.NoteLaws.{differs_with, lifts_other}

clauses_alone : (first second : Contents) (day : ℕ) (id : List ℕ)
    → searched_clauses first second day (record { id = id; guess = 0 } ∷ []) ≡ asked_clauses first second day id
clauses_alone first second day id =
    ap (λ (cs : List (List ℕ)). joint_clauses first second day ++ cs)
    (append-nil (position_clauses (length first.codes) (joint_variables first second day) (asked_keys first second day id)))

pub met : (first second : Contents) (day : ℕ) (id : List ℕ) (names : List (List ℕ)) → AreBooks first second day
    → DiffersWith first second day id names → MeetsGoal (asked_clauses first second day id) (asked_goal first second day id)
met first second day id names books differs =
    let found = lifts_other first second day books names differs.common (record { id = id; guess = 0 } ∷ []) 0 (record { id = id; guess = 0 }) refl differs.differ in
    record {
      assignment = found.0;
      satisfies = subst (λ (cs : List (List ℕ)). Sat cs found.0) (clauses_alone first second day id) found.1;
      meets_it = found.2;
    }

pub shown : (first second : Contents) (day : ℕ) (id : List ℕ) (set : List Bool) (a : ℕ → Bool) → AreBooks first second day
    → IsDistinct same_name first.codes → ((i : ℕ) → i < length first.codes → a i ≡ has set i)
    → Sat (asked_clauses first second day id) a → is_true a (asked_goal first second day id) ≡ true
    → DiffersWith first second day id (picked first.codes set)
shown first second day id set a books apart begins sat assumed =
    differs_with first second day (record { id = id; guess = 0 } ∷ []) 0 (record { id = id; guess = 0 }) set a books apart refl begins
    (subst (λ (cs : List (List ℕ)). Sat cs a) (sym (clauses_alone first second day id)) sat) assumed
