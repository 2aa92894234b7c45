-- What the clauses of a book say of the sets that are good on the days of a slice, and what an answer over them says of a question.
use Rattle.std.proofs.Common.{inl, inr, ◌≡◌, ℕ, zero, suc, ◌+◌, ◌-◌, ◌*◌, ◌<◌, ◌≤◌, Bool, true, false, not, eqb, List, [], ◌∷◌, ◌++◌, Option, length, append-nil, refl, sym, ap, subst, ◌∙◌, arith}
use Rattle.std.specs.Prelude.{◌==◌, IsTrue, All}
use Rattle.std.specs.List.{slice_get}
use Rattle.std.specs.Option.{option_map_or}
use Rattle.std.proofs.lemmas.Bool.{and_from, and_parts, cases_Bool, or_cases, or_left, or_right, eq-eqb, eqb-true, false≢true, true≢false, le-leb}
use Rattle.std.proofs.lemmas.List.{take_all}
use Rattle.std.proofs.lemmas.List.Folds.{list_all-append}
use Rattle.std.proofs.lemmas.Option.{none-some, same_Some}
use Rattle.pb_base.specs.Rule.{Rule, holds}
use Rattle.book_model.specs.Activity.{is_within}
use Rattle.book_model.specs.Contents.{Contents}
use Rattle.book_model.specs.Good.{is_good}
use Rattle.book_model.specs.Slices.{AreAlike}
use Rattle.book_model.specs.declared.record.Slice.{Slice}
use Rattle.book_model.proofs.DaysAlike.{good_alike}
use Rattle.book_clauses.specs.BookClauses.{AreOn, AreUsages, CodesBook, SaysOn, is_in, literals_on}
use Rattle.clause_pool.specs.Literal.{literal, complement, is_true}
use Rattle.clause_pool.specs.Clause.{has, Follows, Sat}
use Rattle.clause_pool.specs.Derivation.{Derivation, AllFollow, kernel_of}
use Rattle.clause_pool.proofs.LiteralLaws.{is_true-complement}
use Rattle.clause_pool.proofs.ClauseLaws.{TrueLiteral, true_literal, all_found, has-append}
use Rattle.chains.specs.Growth.{given_of}
use Rattle.clausify.specs.Lifting.{BeginsWith}
use Rattle.clausify.specs.Questions.{goal, HasSet}
use Rattle.clausify.specs.declared.question.Question.{Question}
use Rattle.clausify.specs.declared.question.Question.TheVariants.{Void}
use Rattle.clausify.proofs.ItemLaws.{length_from_good}
use Rattle.clausify.proofs.SteadyLaws.{goal_same}
use Rattle.clausify.proofs.Truth.{true_positive, true_negative}
use Rattle.propagate.specs.Quiet.{IsConsistent}
use Rattle.propagate.specs.Trail.{AreLiterals}
use Rattle.slice_hints.specs.Found.{IsFound, KnowsUsages}
use Rattle.slice_hints.specs.declared.found.Found.{Found}
use Rattle.solver.specs.Answer.{Begins, IsCore}
use Rattle.solver.specs.Solver.{Solving, Onwards}
use Rattle.findings.specs.declared.core_report.Asking.{Asking}
use Rattle.findings.specs.Findings.{MeetsThrough}
use Rattle.findings.specs.Core.{all_true, Asks, Assumes, IsAsking, IsClash, IsInTerm, IsKnown, IsOverBook, periods_of}
use Rattle.findings.proofs.Lifting.{has_from_meets, on_first}

-- the truth of all literals of a list
pub one_of_all : (a : ℕ → Bool) (ls : List ℕ) (l : ℕ) → all_true a ls ≡ true → has ls l ≡ true → is_true a l ≡ true
one_of_all a [] l all is_in = absurd (false≢true is_in)
one_of_all a (x ∷ ls) l all is_in =
    let parts = and_parts (is_true a x) (all_true a ls) all in
    elim (or_cases (eqb x l) (has ls l) is_in) [
      | inl same ↦ ap (is_true a) (sym (eqb-true x l same)) ∙ parts.0
      | inr later ↦ one_of_all a ls l parts.1 later
    ]

pub all_of_each : (a : ℕ → Bool) (ls : List ℕ) → ((l : ℕ) → has ls l ≡ true → is_true a l ≡ true) → all_true a ls ≡ true
all_of_each a [] h = refl
all_of_each a (x ∷ ls) h =
    and_from (is_true a x) (all_true a ls) (h x (or_left (eqb x x) (has ls x) (eq-eqb x x refl)))
    (all_of_each a ls (λ l is_in. h l (or_right (eqb x l) (has ls l) is_in)))

-- a literal and its complement aren't true together
not_both : (a : ℕ → Bool) (l : ℕ) → is_true a l ≡ true → is_true a (complement l) ≡ true → ⊥
not_both a l one other = true≢false (sym other ∙ is_true-complement a l ∙ ap not one)

pub clash_false : (a : ℕ → Bool) (ls : List ℕ) → IsClash ls → all_true a ls ≡ true → ⊥
clash_false a ls h all = not_both a h.literal (one_of_all a ls h.literal all h.is_in) (one_of_all a ls (complement h.literal) all h.other)

pub core_false : (given : List (List ℕ)) (a : ℕ → Bool) (ls : List ℕ) (k : Derivation) (at : ℕ) → given_of k ≡ given → AllFollow k → IsCore k ls at → Sat given a
    → all_true a ls ≡ true → ⊥
core_false given a ls k at are follow core sat all =
    let follows : Follows (given_of k) core.clause = all_found (Follows (given_of k)) k.clauses at core.clause follow core.there in
    let found : TrueLiteral a core.clause = true_literal a core.clause (follows a (subst (λ (cs : List (List ℕ)). Sat cs a) (sym are) sat)) in
    not_both a found.literal found.holds (one_of_all a ls (complement found.literal) all (core.complements found.literal found.is_in))

-- what says which periods a day is in is true just where the variables say so
literal_true : (a : ℕ → Bool) (v : ℕ) (t : Bool) → a v ≡ t → is_true a (literal v t) ≡ true
literal_true a v true is = true_positive a v ∙ is
literal_true a v false is = true_negative a v ∙ ap not is

literal_says : (a : ℕ → Bool) (v : ℕ) (t : Bool) → is_true a (literal v t) ≡ true → a v ≡ t
literal_says a v true holds_so = sym (true_positive a v) ∙ holds_so
literal_says a v false holds_so =
    elim (cases_Bool (a v)) [
      | inl on ↦ absurd (false≢true (ap not (sym on) ∙ sym (true_negative a v) ∙ holds_so))
      | inr off ↦ off
    ]

periods_true : (v day : ℕ) (ps : List Slice) (a : ℕ → Bool) → AreOn v ps day a → all_true a (literals_on v ps day) ≡ true
periods_true v day [] a on = refl
periods_true v day (p ∷ ps) a on =
    and_from _ _ (literal_true a v (is_in day p) (ap a (let e : v ≡ v + 0 = omega arith in e) ∙ on 0 p refl))
    (periods_true (v + 1) day ps a (λ k q there. ap a (let e : v + 1 + k ≡ v + suc k = omega arith in e) ∙ on (suc k) q there))

periods_say : (v day : ℕ) (ps : List Slice) (a : ℕ → Bool) → all_true a (literals_on v ps day) ≡ true → AreOn v ps day a
periods_say v day [] a all k p there = absurd (none-some p there)
periods_say v day (q ∷ ps) a all zero p there =
    let here = and_parts (is_true a (literal v (is_in day q))) (all_true a (literals_on (v + 1) ps day)) all in
    ap a (let e : v + 0 ≡ v = omega arith in e) ∙ literal_says a v (is_in day q) here.0 ∙ ap (is_in day) (same_Some q p there)
periods_say v day (q ∷ ps) a all (suc k) p there =
    let here = and_parts (is_true a (literal v (is_in day q))) (all_true a (literals_on (v + 1) ps day)) all in
    ap a (let e : v + suc k ≡ v + 1 + k = omega arith in e) ∙ periods_say (v + 1) day ps a here.1 k p there

-- and no literal of it is there with its complement, since some variables say so
abbrev period_values : ℕ → List Slice → ℕ → ℕ → Bool
period_values v ps day n = option_map_or (is_in day) (slice_get ps (n - v)) false

values_say : (v day : ℕ) (ps : List Slice) → AreOn v ps day (period_values v ps day)
values_say v day ps k p there =
    ap (λ (j : ℕ). option_map_or (is_in day) (slice_get ps j) false) (let e : (v + k) - v ≡ k = omega arith in e)
    ∙ ap (λ (o : Option Slice). option_map_or (is_in day) o false) there

pub periods_consistent : (v day : ℕ) (ps : List Slice) → IsConsistent (literals_on v ps day)
periods_consistent v day ps l is_in_list other =
    let a : ℕ → Bool = period_values v ps day in
    let all : all_true a (literals_on v ps day) ≡ true = periods_true v day ps a (values_say v day ps) in
    not_both a l (one_of_all a (literals_on v ps day) l all is_in_list) (one_of_all a (literals_on v ps day) (complement l) all other)

literal_under : (v n : ℕ) (t : Bool) → v < n → literal v t < 2 * n
literal_under v n true low = omega (arith, low)
literal_under v n false low = omega (arith, low)

periods_below : (v n day : ℕ) (ps : List Slice) → v + length ps ≤ n → AreLiterals (literals_on v ps day) (2 * n)
periods_below v n day [] low l is_in_list = absurd (false≢true is_in_list)
periods_below v n day (p ∷ ps) low l is_in_list =
    elim (or_cases (eqb (literal v (is_in day p)) l) (has (literals_on (v + 1) ps day) l) is_in_list) [
      | inl same ↦ subst (λ (j : ℕ). j < 2 * n) (eqb-true (literal v (is_in day p)) l same) (literal_under v n (is_in day p) (omega (arith, low)))
      | inr later ↦ periods_below (v + 1) n day ps (omega (arith, low)) l later
    ]

both_below : (ls ks : List ℕ) (n : ℕ) → AreLiterals ls n → AreLiterals ks n → AreLiterals (ls ++ ks) n
both_below ls ks n first last l is_in_list = elim (or_cases (has ls l) (has ks l) (sym (has-append ls ks l) ∙ is_in_list)) [
  | inl here ↦ first l here
  | inr there ↦ last l there
]

-- a question of a slice: what says which periods its first day is in, and what the question assumes
pub asks_by : (b : Contents) (ps : List Slice) (s : Slice) (q : Question) (cs : List (List ℕ)) (vars : ℕ) (ls all : List ℕ) → CodesBook b ps cs → length b.codes + length ps < vars → IsInTerm b s
    → Assumes b cs vars s.first q ls → all ≡ periods_of b ps s ++ ls → Asks b s q cs vars all
asks_by b ps s q cs vars ls all codes few slice assumes are =
    subst (Asks b s q cs vars) (sym are) (record {
      below = both_below (periods_of b ps s) ls (2 * vars) (periods_below (length b.codes) vars s.first ps (omega (arith, few))) assumes.below;
      none = λ never has_set.
          let within : IsTrue (is_within s.first s.last has_set.day) = and_from _ _ (le-leb s.first has_set.day has_set.not_before) (le-leb has_set.day s.last has_set.not_after) in
          let alike : AreAlike b has_set.day s.first = slice.steady has_set.day within in
          let good : is_good b s.first has_set.set ≡ true = sym (good_alike b has_set.day s.first has_set.set alike) ∙ has_set.is_good_then in
          let len : length has_set.set ≡ length b.codes = length_from_good b s.first has_set.set good in
          let lift = codes.lifts s.first slice.not_before slice.not_after has_set.set good in
          never lift.0 lift.2
          (list_all-append (is_true lift.0) (periods_of b ps s) ls
          ∙ and_from _ _ (periods_true (length b.codes) s.first ps lift.0 lift.1.periods)
          (assumes.right has_set.set lift.0 len lift.1.begins lift.2 ∙ ap (λ (f : Rule). holds f has_set.set) (sym (goal_same b has_set.day s.first alike q)) ∙ has_set.meets_goal));
      meets = λ x h.
          let held : all_true h.assignment (periods_of b ps s ++ ls) ≡ true = all_of_each h.assignment (periods_of b ps s ++ ls) h.assumed in
          let parts = and_parts (all_true h.assignment (periods_of b ps s)) (all_true h.assignment ls) (sym (list_all-append (is_true h.assignment) (periods_of b ps s) ls) ∙ held) in
          let begins : BeginsWith x h.assignment = λ i below. h.begins i (omega (arith, below, h.counted)) in
          let says : SaysOn b ps s.first x h.assignment = record { begins = begins; periods = periods_say (length b.codes) s.first ps h.assignment parts.0 } in
          let good : is_good b s.first x ≡ true = codes.begins_good s.first slice.not_before slice.not_after x h.assignment h.counted says h.satisfied in
          record {
            good_then = λ day within. good_alike b day s.first x (slice.steady day within) ∙ good;
            met_then = λ day within.
                ap (λ (f : Rule). holds f x) (goal_same b day s.first (slice.steady day within) q)
                ∙ sym (assumes.right x h.assignment h.counted begins h.satisfied) ∙ parts.1;
          };
    })

-- what is good on the first day is so through the slice, and so is a goal that is met
pub meets_found_core : (b : Contents) (s : Slice) (q : Question) (x : List Bool) → IsInTerm b s → is_good b s.first x ≡ true → holds (goal b s.first q) x ≡ true → MeetsThrough b s q x
meets_found_core b s q x slice good met = record {
  good_then = λ day within. good_alike b day s.first x (slice.steady day within) ∙ good;
  met_then = λ day within. ap (λ (f : Rule). holds f x) (goal_same b day s.first (slice.steady day within) q) ∙ met;
}

-- so a set that is good on the first day shows that the slice isn't void
pub found_not_void : (b : Contents) (s : Slice) (f : Found) → IsInTerm b s → IsFound b s.first f → HasSet b s Void
found_not_void b s f slice found = has_from_meets b s Void f.set slice.order (meets_found_core b s Void f.set slice found.good_then refl)

-- Void assumes nothing more
pub void_assumes : (b : Contents) (cs : List (List ℕ)) (vars day : ℕ) → Assumes b cs vars day Void []
void_assumes b cs vars day = record { below = λ l is_in_list. absurd (false≢true is_in_list); right = λ x a len begins sat. refl }

-- so it is asked with the periods alone
pub void_asks : (b : Contents) (ps : List Slice) (s : Slice) (cs : List (List ℕ)) (vars : ℕ) (on : List ℕ) → CodesBook b ps cs → length b.codes + length ps < vars → IsInTerm b s
    → on ≡ periods_of b ps s → Asks b s Void cs vars on
void_asks b ps s cs vars on codes few slice are =
    asks_by b ps s Void cs vars [] on codes few slice (void_assumes b cs vars s.first) (are ∙ sym (append-nil (periods_of b ps s)))

pub some_not_void : (b : Contents) (s : Slice) (sets : List Found) (none : Bool) → none ≡ (length sets == 0) → not none ≡ true → IsInTerm b s → All (IsFound b s.first) sets → HasSet b s Void
some_not_void b s [] none is some slice found = absurd (false≢true (sym (ap not is) ∙ some))
some_not_void b s (f ∷ sets) none is some slice found = found_not_void b s f slice (found 0 f (omega arith))

pub found_by_meets : (b : Contents) (s : Slice) (x : List Bool) (f : Found) → s.first ≤ s.last → MeetsThrough b s Void x → length x ≡ length b.codes → f.set ≡ x → KnowsUsages b f → IsFound b s.first f
found_by_meets b s x f order meets counted is knows = record {
  counted = ap (λ (y : List Bool). length y) is ∙ counted;
  good_then = ap (λ (y : List Bool). is_good b s.first y) is ∙ meets.good_then s.first (on_first s order);
  usages = knows;
}

-- a solver that derived further clauses was given the same ones
usages_onwards : (b : Contents) (lits : List ℕ) (old new : Solving) → AreUsages b (given_of old.kernel) old.vars lits → Onwards old new → AreUsages b (given_of new.kernel) new.vars lits
usages_onwards b lits old new h on =
    subst (λ (vars : ℕ). AreUsages b (given_of new.kernel) vars lits) (sym on.same_vars)
    (subst (λ (cs : List (List ℕ)). AreUsages b cs old.vars lits) (sym on.extends.same_given) h)

book_onwards : (b : Contents) (ps : List Slice) (old new : Solving) → IsOverBook b ps old → Onwards old new → IsOverBook b ps new
book_onwards b ps old new h on = record {
  codes = on.same_codes ∙ h.codes;
  periods = omega (arith, h.periods, on.same_vars);
  clauses = subst (CodesBook b ps) (sym on.extends.same_given) h.clauses;
}

pub known_onwards : (b : Contents) (asking : Asking) (sets more : List Found) (old new : Solving) → IsKnown b asking sets old → Onwards old new
    → All (IsFound b asking.task.slice.first) more → IsKnown b asking more new
known_onwards b asking sets more old new h on found = record {
  over = book_onwards b asking.periods.now old new h.over on;
  usages = usages_onwards b asking.usages.now old new h.usages on;
  found = found;
}

-- so what it is asked means the same, and what it finds begins an assignment as before
pub asks_onwards : (b : Contents) (s : Slice) (q : Question) (ls : List ℕ) (old new : Solving) → Asks b s q (given_of old.kernel) old.vars ls → Onwards old new → Asks b s q (given_of new.kernel) new.vars ls
asks_onwards b s q ls old new h on =
    subst (λ (vars : ℕ). Asks b s q (given_of new.kernel) vars ls) (sym on.same_vars)
    (subst (λ (cs : List (List ℕ)). Asks b s q cs old.vars ls) (sym on.extends.same_given) h)

pub begins_onwards : (b : Contents) (ps : List Slice) (ls : List ℕ) (x : List Bool) (old new : Solving) → IsOverBook b ps old → Onwards old new → Begins (given_of new.kernel) ls new.codes x
    → Begins (given_of old.kernel) ls (length b.codes) x
begins_onwards b ps ls x old new h on begins =
    subst (λ (n : ℕ). Begins (given_of old.kernel) ls n x) (on.same_codes ∙ h.codes)
    (subst (λ (cs : List (List ℕ)). Begins cs ls new.codes x) on.extends.same_given begins)

-- what the search for a set of a slice finds meets Void's goal
pub void_met : (b : Contents) (asking : Asking) (sets : List Found) (old new : Solving) (x : List Bool) → IsAsking b asking → IsKnown b asking sets old → Onwards old new
    → Begins (given_of new.kernel) asking.on.now new.codes x → MeetsThrough b asking.task.slice Void x
void_met b asking sets old new x h known on begins =
    let ps = asking.periods.now in
    (void_asks b ps asking.task.slice (given_of old.kernel) old.vars asking.on.now known.over.clauses known.over.periods h.task.slice h.on).meets x
    (begins_onwards b ps asking.on.now x old new known.over on begins)

-- a new solver over the clauses of a book
pub given_at_first : (clauses : List (List ℕ)) (vars codes : ℕ) (kernel : Derivation) (solving : Solving) → kernel ≡ kernel_of clauses → solving ≡ record { kernel = kernel; vars = vars; codes = codes }
    → given_of solving.kernel ≡ clauses
given_at_first clauses vars codes kernel solving is made =
    ap (λ (s : Solving). given_of s.kernel) made ∙ ap (λ (k : Derivation). given_of k) is ∙ take_all (length clauses) clauses (omega arith)

pub book_begun : (b : Contents) (ps : List Slice) (clauses : List (List ℕ)) (vars : ℕ) (solving : Solving) → CodesBook b ps clauses → length b.codes + length ps < vars
    → given_of solving.kernel ≡ clauses → solving.vars ≡ vars → solving.codes ≡ length b.codes → IsOverBook b ps solving
book_begun b ps clauses vars solving coded few given same counted = record {
  codes = counted;
  periods = omega (arith, few, same);
  clauses = subst (CodesBook b ps) (sym given) coded;
}

pub usages_begun : (b : Contents) (clauses : List (List ℕ)) (vars : ℕ) (lits : List ℕ) (solving : Solving) → AreUsages b clauses vars lits
    → given_of solving.kernel ≡ clauses → solving.vars ≡ vars → AreUsages b (given_of solving.kernel) solving.vars lits
usages_begun b clauses vars lits solving h given same =
    subst (λ (n : ℕ). AreUsages b (given_of solving.kernel) n lits) (sym same) (subst (λ (cs : List (List ℕ)). AreUsages b cs vars lits) (sym given) h)
