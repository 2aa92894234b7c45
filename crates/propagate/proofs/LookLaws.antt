-- What a look at an entry keeps and answers.
use Rattle.std.proofs.Common.{◌≡◌, ◌⊎◌, inl, inr, ℕ, ◌+◌, ◌<◌, ◌≤◌, Bool, true, false, not, List, Some, length, refl, sym, subst, ◌∙◌, ap, arith}
use Rattle.std.specs.List.{slice_get}
use Rattle.std.proofs.lemmas.Bool.{cases_eq, true≢false, or_left}
use Rattle.std.proofs.lemmas.Option.{get_or_from_slice_get, slice_get_within}
use Rattle.clause_pool.specs.Literal.{complement}
use Rattle.clause_pool.specs.Clause.{has}
use Rattle.clause_pool.proofs.ClauseLaws.{has-append}
use Rattle.propagate.specs.Trail.{OthersFalse, IsReason}
use Rattle.propagate.specs.Assignment.{Assigned}
use Rattle.propagate.specs.Watching.{HasTrue, Watching, EntryFits, IsPairIn, clause_at, pair_of, list_of, Grown, AreReasons, AreTrue, Keeps, Shifted, Watches}
use Rattle.propagate.specs.Visiting.{Scene, scene, IsConflict, CanWatch, Stops, AreTrueIn, entries_of}
use Rattle.propagate.specs.declared.watch.Watch.{Watch}
use Rattle.propagate.proofs.KeepLaws.{grown_not, grown_twice, held_grown, visiting_grown, shifted_held, true_grown, true_shifted, true_one_more}
use Rattle.propagate.proofs.WatchLaws.{one_entry}

pub keeps_not : (a : Assigned) (w : Watching) → Keeps a a w w
keeps_not a w = record { grown = grown_not a; same_clauses = refl; same_count = refl; reasoned = λ h. h; held = λ v visiting h. h }

pub keeps_grown : (a b : Assigned) (w : Watching) → Grown a b → (AreReasons w.clauses a → AreReasons w.clauses b) → Keeps a b w w
keeps_grown a b w g reasoned = record { grown = g; same_clauses = refl; same_count = refl; reasoned = reasoned; held = λ v visiting h. held_grown a b v w g visiting h }

pub keeps_twice : (a b c : Assigned) (w x y : Watching) → Keeps a b w x → Keeps b c x y → Keeps a c w y
keeps_twice a b c w x y first second = record {
  grown = grown_twice a b c first.grown second.grown;
  same_clauses = second.same_clauses ∙ first.same_clauses;
  same_count = second.same_count ∙ first.same_count;
  reasoned = λ h. subst (λ (cs : List (List ℕ)). AreReasons cs c) first.same_clauses (second.reasoned (subst (λ (cs : List (List ℕ)). AreReasons cs b) (sym first.same_clauses) (first.reasoned h)));
  held = λ v visiting h. second.held v (visiting_grown a b v first.grown visiting) (first.held v visiting h);
}

pub keeps_codes : (a b : Assigned) (w x : Watching) → Keeps a b w x → length w.lists ≡ a.vars + a.vars → length x.lists ≡ b.vars + b.vars
keeps_codes a b w x k h =
    let vars : b.vars ≡ a.vars = ap (λ (z : Assigned). z.vars) k.grown.is in
    k.same_count ∙ h ∙ ap (λ (n : ℕ). n + n) (sym vars)

pub grown_has : (a b : Assigned) (l : ℕ) → Grown a b → has a.lits l ≡ true → has b.lits l ≡ true
grown_has a b l g h = subst (λ (z : Assigned). has z.lits l ≡ true) (sym g.is) (has-append a.lits g.more l ∙ or_left (has a.lits l) (has g.more l) h)

-- a clause of two literals, one of which is false
pub binary_reason : (a : Assigned) (w : Watching) (code : ℕ) (entry : Watch) → EntryFits w code entry → entry.is_binary ≡ true → has a.lits (complement code) ≡ true → IsReason w.clauses a.lits entry.blocker entry.clause
binary_reason a w code entry fits binary is_false = record {
  attached = fits.attached;
  is_in = fits.blocks;
  others_false = λ l is_in other. elim (fits.binary binary l is_in) [
    | inl e ↦ subst (λ (n : ℕ). has a.lits (complement n) ≡ true) (sym e) is_false
    | inr e ↦ absurd (other e)
  ];
}

-- a clause that is false but for one literal, which is false too
pub reason_conflict : (a b : Assigned) (w : Watching) (l k : ℕ) → IsReason w.clauses a.lits l k → b ≡ a → has a.lits (complement l) ≡ true → IsConflict (scene b w) k
reason_conflict a b w l k reason same is_false = subst (λ (z : Assigned). IsConflict (scene z w) k) (sym same) (record {
  attached = reason.attached;
  all_false = λ x is_in. elim (cases_eq x l) [
    | inl e ↦ subst (λ (n : ℕ). has a.lits (complement n) ≡ true) (sym e) is_false
    | inr other ↦ reason.others_false x is_in other
  ];
})

-- what is watched is in the clause
pub other_in : (w : Watching) (k other : ℕ) → IsPairIn (clause_at w.clauses k) (pair_of w k) → (other ≡ (pair_of w k).first) ⊎ (other ≡ (pair_of w k).second) → has (clause_at w.clauses k) other ≡ true
other_in w k other pair one = elim one [
  | inl e ↦ subst (λ (n : ℕ). has (clause_at w.clauses k) n ≡ true) (sym e) pair.first_in
  | inr e ↦ subst (λ (n : ℕ). has (clause_at w.clauses k) n ≡ true) (sym e) pair.second_in
]

pub keeps_shifted : (a : Assigned) (w x : Watching) (code at k other open_literal : ℕ) → Shifted w x code at → Watches w x k other open_literal → (other ≡ open_literal → ⊥)
    → has (clause_at w.clauses k) open_literal ≡ true → has a.lits (complement open_literal) ≡ false → (other ≡ (pair_of w k).first) ⊎ (other ≡ (pair_of w k).second) → Keeps a a w x
keeps_shifted a w x code at k other open_literal s h apart is_in not_false one = record {
  grown = grown_not a;
  same_clauses = s.same_clauses;
  same_count = s.same_count;
  reasoned = λ r. r;
  held = λ v visiting held. shifted_held a v w x k other open_literal s.same_clauses h apart is_in not_false one held;
}

pub reason_by : (clauses : List (List ℕ)) (lits codes : List ℕ) (l k : ℕ) → k < length clauses → has (clause_at clauses k) l ≡ true → codes ≡ clause_at clauses k → OthersFalse lits codes l → IsReason clauses lits l k
reason_by clauses lits codes l k attached is_in is others = record {
  attached = attached;
  is_in = is_in;
  others_false = subst (λ (xs : List ℕ). OthersFalse lits xs l) is others;
}

pub binary_is : (b : Bool) → not b ≡ false → b ≡ true
binary_is true h = refl
binary_is false h = sym h

-- the loop over the entries
pub record AtEntry (first s : Scene) (code at : ℕ) : Type 0 where
  pub keeps : Keeps first.assigned s.assigned first.watching s.watching
  pub before : AreTrueIn s code at
  pub within : at ≤ entries_of s code

pub at_first : (a : Assigned) (w : Watching) (code : ℕ) → AtEntry (scene a w) (scene a w) code 0
at_first a w code = record { keeps = keeps_not a w; before = tt; within = omega arith }

-- the loop over the entries before one has to move
pub record Going (a b : Assigned) (w : Watching) (code from at : ℕ) : Type 0 where
  pub keeps : Keeps a b w w
  pub behind : from ≤ at
  pub within : at ≤ length (list_of w code)
  pub true_before : AreTrue a w code from → AreTrue b w code at

pub going_first : (a : Assigned) (w : Watching) (code from : ℕ) → from ≤ length (list_of w code) → Going a a w code from from
going_first a w code from within = record { keeps = keeps_not a w; behind = omega arith; within = within; true_before = λ h. h }

pub going_on : (a b c : Assigned) (w : Watching) (code from at : ℕ) (entry : Watch) → Going a b w code from at → Keeps b c w w → slice_get (list_of w code) at ≡ Some entry → HasTrue c.lits (clause_at w.clauses entry.clause) → Going a c w code from (at + 1)
going_on a b c w code from at entry g k found holds =
    let inside = slice_get_within (list_of w code) at entry found in
    let behind = g.behind in
    record {
      keeps = keeps_twice a b c w w w g.keeps k;
      behind = omega (arith, behind);
      within = omega (arith, inside);
      true_before = λ h. true_one_more c w code at entry inside (get_or_from_slice_get (list_of w code) at entry entry found) holds (true_grown b c w code at k.grown (g.true_before h));
    }

pub going_stops : (a b c : Assigned) (w : Watching) (code from at other fresh : ℕ) (entry : Watch) → Going a b w code from at → Keeps b c w w → slice_get (list_of w code) at ≡ Some entry → CanWatch (scene c w) code entry other fresh
    → AreTrue a w code from → Stops (scene c w) code from at other fresh
going_stops a b c w code from at other fresh entry g k found can h = record {
  behind = g.behind;
  there = slice_get_within (list_of w code) at entry found;
  true_before = true_grown b c w code at k.grown (g.true_before h);
  entry = entry;
  is_entry = found;
  can_watch = can;
}

-- the entry moves
pub stopped : (first s : Scene) (b : Assigned) (x : Watching) (code from at other fresh : ℕ) → AtEntry first s code from → Keeps s.assigned b s.watching s.watching → (h : Stops (scene b s.watching) code from at other fresh)
    → Shifted s.watching x code at → Watches s.watching x h.entry.clause other fresh → AtEntry first (scene b x) code at
stopped first s b x code from at other fresh e k h shifted watches = record {
  keeps = keeps_twice first.assigned s.assigned b first.watching s.watching x e.keeps
      (keeps_twice s.assigned b b s.watching s.watching x k (keeps_shifted b s.watching x code at h.entry.clause other fresh shifted watches h.can_watch.apart h.can_watch.is_in h.can_watch.not_false h.can_watch.one));
  before = true_shifted b s.watching x code at shifted h.true_before;
  within = let l = shifted.shorter in let there = h.there in omega (arith, l, there);
}

-- what the entry at this place may watch
pub can_watch_at : (s : Scene) (code from at other fresh : ℕ) (h : Stops s code from at other fresh) (e : Watch) → slice_get (list_of s.watching code) at ≡ Some e → CanWatch s code e other fresh
can_watch_at s code from at other fresh h e found = subst (λ (x : Watch). CanWatch s code x other fresh) (one_entry (list_of s.watching code) at h.entry e h.is_entry found) h.can_watch

-- another literal than one that is false
pub fresh_not : (lits : List ℕ) (code fresh : ℕ) → has lits (complement code) ≡ true → has lits (complement fresh) ≡ false → fresh ≡ code → ⊥
fresh_not lits code fresh is_false not_false e = true≢false (sym is_false ∙ ap (λ (n : ℕ). has lits (complement n)) (sym e) ∙ not_false)
