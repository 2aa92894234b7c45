-- What a conflict teaches, and where a search ends.
use Rattle.std.proofs.Common.{◌≡◌, inl, inr, ℕ, ◌+◌, ◌-◌, ◌*◌, ◌/◌, ◌<◌, ◌≤◌, Bool, true, false, List, [], ◌∷◌, ◌++◌, Option, Some, None, length, take, get_or, refl, sym, subst, ◌∙◌, ap, arith, length-append}
use Rattle.std.specs.List.{slice_get}
use Rattle.std.specs.Option.{IfSome}
use Rattle.std.proofs.Math.Seq.{get_or-append_seam, take-append_seam}
use Rattle.std.proofs.lemmas.List.{take_all, take-append-le}
use Rattle.std.proofs.lemmas.Option.{slice_get-get_or, slice_get_within, get_or_from_slice_get}
use Rattle.std.proofs.Math.ListN.{get_or-append, get_or-eq_default}
use Rattle.std.proofs.lemmas.Bool.{cases_Bool, cases_eq, false≢true, true≢false}
use Rattle.clause_pool.specs.Literal.{complement}
use Rattle.clause_pool.specs.Clause.{has, AreBelow, KeepsBounds}
use Rattle.clause_pool.specs.Chain.{chain}
use Rattle.clause_pool.specs.Derivation.{Derivation}
use Rattle.clause_pool.specs.Marks.{marked}
use Rattle.clause_pool.proofs.LiteralLaws.{complement-complement, complement-half}
use Rattle.propagate.specs.Trail.{Trail, IsTrail, AllFalse, level, end_of}
use Rattle.propagate.specs.Quiet.{Quiet, IsConsistent}
use Rattle.propagate.specs.Assignment.{value_over}
use Rattle.propagate.proofs.AssignmentLaws.{has_place, value_is_false, value_is_true}
use Rattle.propagate.proofs.KeepLaws.{has_at}
use Rattle.propagate.proofs.QuietLaws.{has_take}
use Rattle.solver.specs.Answer.{AreHeld, IsCore, IsNew}
use Rattle.solver.specs.Marks.{AreClear, AreFalseOrBlamed, AreLiteralsAt, IsChain, IsUnmarked, IsUip, start_of, false_at}
use Rattle.solver.specs.declared.resolution.Resolution.{Resolution}
use Rattle.solver.specs.Search.{IsReady, IsKept, IsSettled, IsAssumed, AreOpened, IsAppended, IsAsserting, IsLesson, IsFalseAt, IsClosing, IsLearning, IsNext, AllNew, next_of}
use Rattle.solver.proofs.TrailLaws.{consistent}
use Rattle.solver.proofs.MarkLaws.{unmarked_clear, started_is}
use Rattle.solver.proofs.SearchLaws.{uip_open}

-- the clause of the marks asserts the literal that is left, and is new
pub asserting_of : (t : Trail) (marks : List Bool) (c : List ℕ) (at : ℕ) → ((l : ℕ) → marked marks l ≡ has c l) → IsUip t marks at → IsAsserting t c at
asserting_of t marks c at same uip = record {
  within = uip.within;
  late = uip.late;
  is_in = sym (same (false_at t.lits at)) ∙ uip.is_in;
  others_false = λ l is_in other. uip.others l (same l ∙ is_in) other;
}

pub lesson_of : (old new : Derivation) (t : Trail) (marks : List Bool) (at : ℕ) → IsTrail t → t.clauses ≡ old.clauses → Quiet t.clauses (take (start_of t) t.lits) → IsUip t marks at → IsAppended old new marks → IsLesson old new t at
lesson_of old new t marks at h attached quiet uip a =
    let asserting = asserting_of t marks a.clause at a.literals uip in
    record {
      clause = a.clause;
      clauses = a.clauses;
      asserting = asserting;
      is_new = λ xs assumed. record {
        quiet_set = take (start_of t) t.lits;
        open_literal = false_at t.lits at;
        is_in = asserting.is_in;
        quiet = subst (λ (cs : List (List ℕ)). Quiet cs (take (start_of t) t.lits)) attached quiet;
        assumed = assumed;
        others_false = asserting.others_false;
        not_true = λ is. consistent t (false_at t.lits at) h (has_take (start_of t) t.lits (false_at t.lits at) is)
            (has_at t.lits at (complement (false_at t.lits at)) uip.within (sym (complement-complement (get_or t.lits at 0))));
        not_false = uip_open t a.clause at (start_of t) h asserting (omega arith);
      };
    }

pub kept_after : (old new : List (List ℕ)) (t : Trail) (marks after : List Bool) (c : List ℕ) → IsReady old t marks → new ≡ old ++ c ∷ [] → KeepsBounds old new → length after ≡ 2 * t.vars → IsKept new t after
kept_after old new t marks after c ready more bounds table = record {
  attached = ready.attached ∙ sym (ap (λ (cs : List (List ℕ)). take (length cs) new) ready.attached ∙ ap (take (length old)) more ∙ take-append_seam old (c ∷ []));
  below = bounds (2 * t.vars) ready.below;
  table = table;
}

take_whole : (xs : List (List ℕ)) → take (length xs) xs ≡ xs
take_whole xs = take_all (length xs) xs (omega arith)

pub kept_before : (clauses : List (List ℕ)) (t : Trail) (marks after : List Bool) → IsReady clauses t marks → length after ≡ 2 * t.vars → IsKept clauses t after
kept_before clauses t marks after ready table = record {
  attached = ready.attached ∙ sym (ap (λ (cs : List (List ℕ)). take (length cs) clauses) ready.attached ∙ take_whole clauses);
  below = ready.below;
  table = table;
}

-- the clause that was read behind the others
pub last_clause : (old new : List (List ℕ)) (c d : List ℕ) (at : ℕ) → new ≡ old ++ c ∷ [] → at ≡ length old → d ≡ get_or new at [] → d ≡ c
last_clause old new c d at more place read = read ∙ ap (λ (n : ℕ). get_or new n []) place ∙ ap (λ (cs : List (List ℕ)). get_or cs (length old) []) more ∙ get_or-append_seam old c [] []

pub clear_after : (kernel : Derivation) (new : Derivation) (marks after : List Bool) (d : List ℕ) (clauses : List (List ℕ)) (at : ℕ) → IsAppended kernel new marks → at ≡ length kernel.clauses → clauses ≡ new.clauses → d ≡ get_or clauses at [] → IsUnmarked marks after d → AreClear after
clear_after kernel new marks after d clauses at a place same read u =
    let is : d ≡ a.clause = last_clause kernel.clauses new.clauses a.clause d at a.clauses place (read ∙ ap (λ (cs : List (List ℕ)). get_or cs at []) same) in
    unmarked_clear marks after d (λ l. a.literals l ∙ sym (ap (λ (x : List ℕ). has x l) is)) u

-- an assumption is false: the reason for that, of which the assumptions know nothing, closes the question
module _ (t : Trail) (a : List ℕ) (x : ℕ) (r : Option ℕ) (h : IsTrail t) (is_in : has a x ≡ true) (is_false : has t.lits (complement x) ≡ true) (opened : AreOpened a t)
    (reads : (k : ℕ) → k < length t.lits → get_or t.lits k 0 / 2 ≡ x / 2 → r ≡ get_or t.reasons k None) where
  false_place : (k : ℕ) × (k < length t.lits) × (get_or t.lits k 0 ≡ complement x)
  false_place = has_place t.lits (complement x) is_false

  pub refuted_reasoned : IsConsistent a → r ≡ None → ⊥
  refuted_reasoned consistent_list is =
      let p = false_place in
      consistent_list x is_in (subst (λ (l : ℕ). has a l ≡ true) p.2 (opened p.0 p.1 (sym (reads p.0 p.1 (ap (λ (n : ℕ). n / 2) p.2 ∙ complement-half x)) ∙ is)))

  pub refuted_closing : (at : ℕ) → r ≡ Some at → IsClosing t a at
  refuted_closing at is =
      let p = false_place in
      let reason = h.reasoned p.0 at p.1 (sym (reads p.0 p.1 (ap (λ (n : ℕ). n / 2) p.2 ∙ complement-half x)) ∙ is) in
      record {
        attached = reason.attached;
        others_false = λ l there other. has_take p.0 t.lits (complement l) (reason.others_false l there
            (λ e. other (subst (λ (y : ℕ). has a y ≡ true) (sym (ap complement (e ∙ p.2) ∙ complement-complement x)) is_in)));
        opened = opened;
      }

-- a clause is false where only assumptions were assumed
pub false_closing : (t : Trail) (a : List ℕ) (at : ℕ) → IsFalseAt t at → AreOpened a t → IsClosing t a at
false_closing t a at f opened = record { attached = f.attached; others_false = λ l there other. f.all_false l there; opened = opened }

pub false_found : (t : Trail) (a : List ℕ) (found : Option ℕ) → IfSome found (λ at. AllFalse t.lits (get_or t.clauses at [])) → IfSome found (λ at. at < length t.clauses) → AreOpened a t → IfSome found (IsClosing t a)
false_found t a None f low opened = tt
false_found t a (Some at) f low opened = false_closing t a at (record { attached = low; all_false = f }) opened

-- the value that was read
pub value_true : (lits : List ℕ) (l : ℕ) (o : Option Bool) → o ≡ value_over lits l → o ≡ Some true → has lits l ≡ true
value_true lits l o is e = sym (value_is_true lits l true (sym is ∙ e))

pub value_false : (t : Trail) (l : ℕ) (o : Option Bool) → IsTrail t → o ≡ value_over t.lits l → o ≡ Some false → has t.lits (complement l) ≡ true
value_false t l o h is e = sym (value_is_false t.lits l false (consistent t l h) (sym is ∙ e))

-- what a lesson gives to who goes on with it
pub lesson_next : (old new : Derivation) (t : Trail) (at : ℕ) → t.clauses ≡ old.clauses → IsLesson old new t at → IsNext new.clauses t
lesson_next old new t at attached l = record {
  one_more = ap length l.clauses ∙ length-append old.clauses (l.clause ∷ []) ∙ sym (ap (λ (cs : List (List ℕ)). length cs + 1) attached);
  attached = attached ∙ sym (ap (λ (cs : List (List ℕ)). take (length cs) new.clauses) attached ∙ ap (take (length old.clauses)) l.clauses ∙ take-append_seam old.clauses (l.clause ∷ []));
}

lesson_is : (old new : Derivation) (t : Trail) (at : ℕ) (l : IsLesson old new t at) → get_or new.clauses (length old.clauses) [] ≡ l.clause
lesson_is old new t at l = ap (λ (cs : List (List ℕ)). get_or cs (length old.clauses) []) l.clauses ∙ get_or-append_seam old.clauses l.clause [] []

pub lesson_asserting : (old new : Derivation) (t : Trail) (at : ℕ) → t.clauses ≡ old.clauses → IsLesson old new t at → IsAsserting t (next_of new.clauses t) at
lesson_asserting old new t at attached l =
    subst (λ (c : List ℕ). IsAsserting t c at) (sym (ap (λ (cs : List (List ℕ)). get_or new.clauses (length cs) []) attached ∙ lesson_is old new t at l)) l.asserting

pub lesson_is_new : (old new : Derivation) (t : Trail) (at : ℕ) (a : List ℕ) (d : ℕ) → d < level t → IsAssumed a d t → IsLesson old new t at → IsNew old.clauses a (get_or new.clauses (length old.clauses) [])
lesson_is_new old new t at a d high assumed l =
    subst (IsNew old.clauses a) (sym (lesson_is old new t at l)) (l.is_new a (assumed.held (level t - 1) (omega (arith, high)) (omega arith)))

pub lesson_count : (old new : Derivation) (t : Trail) (at : ℕ) → IsLesson old new t at → length new.clauses ≡ length old.clauses + 1
lesson_count old new t at l = ap length l.clauses ∙ length-append old.clauses (l.clause ∷ [])

-- a clause that was false at the current level alone teaches something
pub learning_of : (t : Trail) (at : ℕ) → 0 < level t → IsSettled t → IsFalseAt t at → IsLearning t at
learning_of t at some settled f = record {
  attached = f.attached;
  all_false = f.all_false;
  quiet = settled.quiet (level t - 1) (omega (arith, some));
}

-- where all assumptions hold
pub assumed_here : (t : Trail) (a : List ℕ) → AreHeld a t.lits → AreOpened a t → IsAssumed a (level t) t
assumed_here t a held opened = record {
  held = λ n late low l is_in.
      let e : end_of t n ≡ length t.lits = get_or-eq_default t.starts (length t.lits) late in
      subst (λ (xs : List ℕ). has xs l ≡ true) (sym (ap (λ (k : ℕ). take k t.lits) e ∙ take_all (length t.lits) t.lits (omega arith))) (held l is_in);
  opened = λ k low none. let e : end_of t (level t) ≡ length t.lits = get_or-eq_default t.starts (length t.lits) (omega arith) in opened k (omega (arith, low, e)) none;
}

-- and they do from that level on
pub held_here : (t : Trail) (a : List ℕ) (d : ℕ) → d ≤ level t → IsAssumed a d t → AreHeld a t.lits
held_here t a d deep assumed l is_in = has_take (end_of t (level t)) t.lits l (assumed.held (level t) deep (omega arith) l is_in)

-- up to the level of the assumptions nothing else was assumed
pub opened_here : (t : Trail) (a : List ℕ) (d : ℕ) → level t ≤ d → IsAssumed a d t → AreOpened a t
opened_here t a d low assumed k within none = assumed.opened k (let e : end_of t d ≡ length t.lits = get_or-eq_default t.starts (length t.lits) low in omega (arith, within, e)) none

-- the same over a trail with the same clauses
pub ready_moved : (clauses : List (List ℕ)) (t s : Trail) (marks : List Bool) → s.clauses ≡ t.clauses → s.vars ≡ t.vars → IsReady clauses t marks → IsReady clauses s marks
ready_moved clauses t s marks same vars r = record {
  attached = same ∙ r.attached;
  below = subst (λ (v : ℕ). AreBelow (2 * v) clauses) (sym vars) r.below;
  table = r.table ∙ sym (ap (λ (v : ℕ). 2 * v) vars);
  clear = r.clear;
}

pub all_new_none : (a : List ℕ) (clauses : List (List ℕ)) → AllNew a (length clauses) clauses
all_new_none a clauses k low high = absurd (omega (arith, low, high))

-- one more new clause
pub all_new_more : (a : List ℕ) (first : ℕ) (old new more : List (List ℕ)) → new ≡ old ++ more → length new ≡ length old + 1 → AllNew a first old → IsNew old a (get_or new (length old) []) → AllNew a first new
all_new_more a first old new more is count all last k low high = elim (cases_eq k (length old)) [
  | inl e ↦
      subst (λ (n : ℕ). IsNew (take n new) a (get_or new n [])) (sym e)
      (subst (λ (cs : List (List ℕ)). IsNew cs a (get_or new (length old) [])) (sym (ap (take (length old)) is ∙ take-append_seam old more)) last)
  | inr other ↦
      let before : k < length old = omega (arith, high, count, other) in
      subst (λ (cs : List (List ℕ)). IsNew cs a (get_or new k [])) (sym (ap (take k) is ∙ take-append-le k old more (omega (arith, before))))
      (subst (IsNew (take k old) a) (sym (ap (λ (cs : List (List ℕ)). get_or cs k []) is ∙ get_or-append old more [] k before)) (all k low before))
]

-- nothing but complements of assumptions is left
only_left : (marks : List Bool) (a : List ℕ) (l : ℕ) → AreFalseOrBlamed [] marks a → marked marks l ≡ true → has a (complement l) ≡ true
only_left marks a l h m = elim (cases_Bool (has a (complement l))) [ inl e ↦ e | inr other ↦ absurd (false≢true (h l m (λ is. true≢false (sym is ∙ other)))) ]

pub literals_by_start : (clauses : List (List ℕ)) (r : Resolution) → IsChain clauses r → r.pairs.items ≡ [] → AreLiteralsAt clauses r.marks.items r.start
literals_by_start clauses r c none =
    let found : slice_get clauses r.start ≡ Some c.running = started_is (slice_get clauses r.start) c.running (sym (ap (chain clauses r.start) none) ∙ c.is_running) in
    record {
      within = slice_get_within clauses r.start c.running found;
      literals = λ l. c.marks_are l ∙ ap (λ (d : List ℕ). has d l) (sym (get_or_from_slice_get clauses r.start c.running [] found));
    }

pub literals_by_last : (old new : Derivation) (marks : List Bool) (at : ℕ) → IsAppended old new marks → at ≡ length old.clauses → AreLiteralsAt new.clauses marks at
literals_by_last old new marks at a place = record {
  within = let l : length new.clauses ≡ length old.clauses + 1 = ap length a.clauses ∙ length-append old.clauses (a.clause ∷ []) in omega (arith, l, place);
  literals = λ l. a.literals l ∙ sym (ap (λ (d : List ℕ). has d l) (ap (λ (n : ℕ). get_or new.clauses n []) place ∙ ap (λ (cs : List (List ℕ)). get_or cs (length old.clauses) []) a.clauses ∙ get_or-append_seam old.clauses a.clause [] []));
}

pub core_of : (k : Derivation) (marks : List Bool) (a : List ℕ) (at : ℕ) → AreLiteralsAt k.clauses marks at → AreFalseOrBlamed [] marks a → IsCore k a at
core_of k marks a at c h = record {
  clause = get_or k.clauses at [];
  there = slice_get-get_or k.clauses at [] c.within;
  complements = λ l is_in. only_left marks a l h (c.literals l ∙ is_in);
}

pub none_there : {X : Type 0} → (xs : List X) → length xs ≡ 0 → xs ≡ []
none_there [] e = refl
none_there (x ∷ xs) e = absurd (omega (arith, e))

-- the clause of a conflict is false but for complements of assumptions
pub closing_marks : (t : Trail) (clauses : List (List ℕ)) (marks : List Bool) (a : List ℕ) (at : ℕ) → t.clauses ≡ clauses → ((l : ℕ) → marked marks l ≡ has (get_or clauses at []) l) → IsClosing t a at → AreFalseOrBlamed t.lits marks a
closing_marks t clauses marks a at same marks_are c l m other = c.others_false l (ap (λ (cs : List (List ℕ)). has (get_or cs at []) l) same ∙ sym (marks_are l) ∙ m) other

-- an engine with the same clauses and variables
pub kept_moved : (clauses : List (List ℕ)) (t u : Trail) (marks : List Bool) → IsKept clauses t marks → u.clauses ≡ t.clauses → u.vars ≡ t.vars → IsKept clauses u marks
kept_moved clauses t u marks kept same vars = record {
  attached = subst (λ (cs : List (List ℕ)). cs ≡ take (length cs) clauses) (sym same) kept.attached;
  below = subst (λ (v : ℕ). AreBelow (2 * v) clauses) (sym vars) kept.below;
  table = kept.table ∙ ap (λ (v : ℕ). 2 * v) (sym vars);
}
