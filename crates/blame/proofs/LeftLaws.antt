-- What a search without an entry was asked when it was left, and what is to blame by the marks.
use Rattle.std.proofs.Common.{◌≡◌, ◌==◌, ℕ, zero, suc, ◌+◌, ◌*◌, ◌<◌, ◌&&◌, Bool, true, false, not, List, [], ◌∷◌, Some, length, slice_get, Result, Ok, Err, IfOk, refl, sym, ap, subst, ◌∙◌, inl, inr, eqb-true, eq-eqb, arith}
use Rattle.std.specs.List.{remove}
use Rattle.std.proofs.lemmas.Bool.{and_parts, cases_Bool, false≢true}
use Rattle.pb_base.specs.Rule.{Rule}
use Rattle.pb_base.specs.Sets.{has}
use Rattle.book_model.specs.Contents.{Contents}
use Rattle.chains.specs.Growth.{given_of}
use Rattle.clause_pool.specs.Literal.{is_true}
use Rattle.propagate.specs.Trail.{AreLiterals}
use Rattle.solver.specs.Answer.{Begins}
use Rattle.solver.specs.Solver.{Solving}
use Rattle.blame.specs.Blame.{IsMet, IsMetBy, IsBlame, AsksFor, IsLeftWithout}
use Rattle.blame.specs.Entries.{meets_entry, meets_all, Among}
use Rattle.blame.specs.Guards.{MeetsKept, IsGuarding, IsGuardOf, AreAllGuards, IsLeftBut}
use Rattle.blame.specs.Guarding.{kept_of, AreMarked, IsSettled, MeetsBut, WasLeft}
use Rattle.blame.specs.declared.blamed.Blamed.{Blamed}
use Rattle.blame.specs.declared.entries.Entry.{Entry}
use Rattle.blame.specs.declared.marks.Marks.{Marks}
use Rattle.blame.proofs.AbsentLaws.{values, length-values, value_at}
use Rattle.blame.proofs.GuardLaws.{value_but, value_true, guards_below, guarded_found, found_but}
use Rattle.blame.proofs.KeptLaws.{IsFrom, from_there, has_within, among_kept, kept_met, length-kept, place_kept, place_of, place_there, some_same}

-- where fewer are kept, these are among those that were
among_fewer : {X : Type 0} (xs : List X) (ts us : List Bool) → length ts ≡ length xs → length us ≡ length xs → ((k : ℕ) → has us k ≡ true → has ts k ≡ true) → Among (kept_of xs ts) (kept_of xs us)
among_fewer [] ts us same also fewer = refl
among_fewer (x ∷ xs) [] us same also fewer = absurd (omega (arith, same))
among_fewer (x ∷ xs) (t ∷ ts) [] same also fewer = absurd (omega (arith, also))
among_fewer (x ∷ xs) (true ∷ ts) (true ∷ us) same also fewer = inr (kept_of xs us, refl, among_fewer xs ts us (omega (arith, same)) (omega (arith, also)) (λ k on. fewer (suc k) on))
among_fewer (x ∷ xs) (true ∷ ts) (false ∷ us) same also fewer = inl (among_fewer xs ts us (omega (arith, same)) (omega (arith, also)) (λ k on. fewer (suc k) on))
among_fewer (x ∷ xs) (false ∷ ts) (true ∷ us) same also fewer = absurd (false≢true (fewer 0 refl))
among_fewer (x ∷ xs) (false ∷ ts) (false ∷ us) same also fewer = among_fewer xs ts us (omega (arith, same)) (omega (arith, also)) (λ k on. fewer (suc k) on)

-- where an element stood that is still kept, when more were
record StoodAt {X : Type 0} (xs : List X) (ts us : List Bool) (place : ℕ) : Type 0 where
  pub at : ℕ
  pub within : at < length (kept_of xs ts)
  pub is : place_of ts at ≡ place_of us place
  pub others : Among (remove (kept_of xs ts) at) (remove (kept_of xs us) place)

stood_at : {X : Type 0} (xs : List X) (ts us : List Bool) (place : ℕ) → length ts ≡ length xs → length us ≡ length xs → ((k : ℕ) → has us k ≡ true → has ts k ≡ true)
    → place < length (kept_of xs us) → StoodAt xs ts us place
stood_at [] ts us place same also fewer within = absurd (omega (arith, within))
stood_at (x ∷ xs) [] us place same also fewer within = absurd (omega (arith, same))
stood_at (x ∷ xs) (t ∷ ts) [] place same also fewer within = absurd (omega (arith, also))
stood_at (x ∷ xs) (true ∷ ts) (true ∷ us) zero same also fewer within = record {
  at = 0;
  within = omega arith;
  is = refl;
  others = among_fewer xs ts us (omega (arith, same)) (omega (arith, also)) (λ k on. fewer (suc k) on);
}
stood_at {X} (x ∷ xs) (true ∷ ts) (true ∷ us) (suc place) same also fewer within =
    let later : StoodAt xs ts us place = stood_at xs ts us place (omega (arith, same)) (omega (arith, also)) (λ k on. fewer (suc k) on) (omega (arith, within)) in
    record {
      at = suc later.at;
      within = omega (arith, later.within);
      is = ap (λ (k : ℕ). suc k) later.is;
      others = inr (remove (kept_of xs us) place, refl, later.others);
    }
stood_at {X} (x ∷ xs) (true ∷ ts) (false ∷ us) place same also fewer within =
    let later : StoodAt xs ts us place = stood_at xs ts us place (omega (arith, same)) (omega (arith, also)) (λ k on. fewer (suc k) on) within in
    record { at = suc later.at; within = omega (arith, later.within); is = ap (λ (k : ℕ). suc k) later.is; others = inl later.others }
stood_at (x ∷ xs) (false ∷ ts) (true ∷ us) place same also fewer within = absurd (false≢true (fewer 0 refl))
stood_at {X} (x ∷ xs) (false ∷ ts) (false ∷ us) place same also fewer within =
    let later : StoodAt xs ts us place = stood_at xs ts us place (omega (arith, same)) (omega (arith, also)) (λ k on. fewer (suc k) on) within in
    record { at = later.at; within = later.within; is = ap (λ (k : ℕ). suc k) later.is; others = later.others }

-- what meets the list without the element at a place meets each kept entry but that one
others_kept : (b : Contents) (day : ℕ) (x : List Bool) (m : List Entry) (ts : List Bool) (place : ℕ) → place < length (kept_of m ts) → meets_all b day x (remove (kept_of m ts) place) ≡ true → (k : ℕ) (e : Entry)
    → slice_get m k ≡ Some e → has ts k ≡ true → (k ≡ place_of ts place → ⊥) → meets_entry b day x e ≡ true
others_kept b day x [] ts place within met k e there on other = absurd (omega (arith, within))
others_kept b day x (d ∷ m) [] place within met k e there on other = absurd (omega (arith, within))
others_kept b day x (d ∷ m) (true ∷ ts) zero within met zero e there on other = absurd (other refl)
others_kept b day x (d ∷ m) (true ∷ ts) zero within met (suc k) e there on other = kept_met b day x m ts met k e there on
others_kept b day x (d ∷ m) (true ∷ ts) (suc place) within met zero e there on other =
    subst (λ (c : Entry). meets_entry b day x c ≡ true) (some_same d e there) (and_parts (meets_entry b day x d) (meets_all b day x (remove (kept_of m ts) place)) met).0
others_kept b day x (d ∷ m) (true ∷ ts) (suc place) within met (suc k) e there on other =
    others_kept b day x m ts place (omega (arith, within)) (and_parts (meets_entry b day x d) (meets_all b day x (remove (kept_of m ts) place)) met).1 k e there on
    (λ same. other (ap (λ (j : ℕ). suc j) same))
others_kept b day x (d ∷ m) (false ∷ ts) place within met zero e there on other = absurd (false≢true on)
others_kept b day x (d ∷ m) (false ∷ ts) place within met (suc k) e there on other =
    others_kept b day x m ts place within met k e there on (λ same. other (ap (λ (j : ℕ). suc j) same))

-- the mark at a place taken off
abbrev cleared : List Bool → ℕ → List Bool
cleared [] but = []
cleared (t ∷ ts) zero = false ∷ ts
cleared (t ∷ ts) (suc but) = t ∷ cleared ts but

length-cleared : (ts : List Bool) (but : ℕ) → length (cleared ts but) ≡ length ts
length-cleared [] but = refl
length-cleared (t ∷ ts) zero = refl
length-cleared (t ∷ ts) (suc but) = ap (λ (k : ℕ). suc k) (length-cleared ts but)

cleared_there : (ts : List Bool) (but : ℕ) → has (cleared ts but) but ≡ false
cleared_there [] but = refl
cleared_there (t ∷ ts) zero = refl
cleared_there (t ∷ ts) (suc but) = cleared_there ts but

cleared_other : (ts : List Bool) (but k : ℕ) → (k ≡ but → ⊥) → has (cleared ts but) k ≡ has ts k
cleared_other [] but k other = refl
cleared_other (t ∷ ts) zero zero other = absurd (other refl)
cleared_other (t ∷ ts) zero (suc k) other = refl
cleared_other (t ∷ ts) (suc but) zero other = refl
cleared_other (t ∷ ts) (suc but) (suc k) other = cleared_other ts but k (λ same. other (ap (λ (j : ℕ). suc j) same))

and_not : (p q : Bool) → q ≡ false → (p && not q) ≡ p
and_not true q h = ap not h
and_not false q h = refl

and_none : (p q : Bool) → q ≡ true → (p && not q) ≡ false
and_none true q h = ap not h
and_none false q h = refl

cleared_value : (ts : List Bool) (but k : ℕ) → has (cleared ts but) k ≡ value_but ts but k
cleared_value ts but k =
    elim (cases_Bool (k == but)) [
      | inl same ↦
          subst (λ (j : ℕ). has (cleared ts but) j ≡ false) (sym (eqb-true k but same)) (cleared_there ts but)
          ∙ sym (and_none (has ts k) (k == but) same)
      | inr other ↦ cleared_other ts but k (λ same. false≢true (sym other ∙ eq-eqb k but same)) ∙ sym (and_not (has ts k) (k == but) other)
    ]

-- the clauses of the solver, with the literals of the guards, ask for a set that meets the entries of which the guards are there
module _ (b : Contents) (day : ℕ) (f : Rule) (m : List Entry) (s : Solving) (guarding : IsGuarding b day f m s) (kept : List Bool) (but : ℕ) (lits : List ℕ)
    (counted : length kept ≡ length m) (guards : AreAllGuards (length b.codes) kept but lits) (asked : List Entry)
    (all : (x : List Bool) → ((k : ℕ) (e : Entry) → slice_get m k ≡ Some e → has kept k ≡ true → (k ≡ but → ⊥) → meets_entry b day x e ≡ true) → meets_all b day x asked ≡ true)
    (each : (x : List Bool) → meets_all b day x asked ≡ true → (k : ℕ) (e : Entry) → slice_get m k ≡ Some e → has kept k ≡ true → (k ≡ but → ⊥) → meets_entry b day x e ≡ true) where
  one_asked : (x : List Bool) → Begins (given_of s.kernel) lits (length b.codes) x → IsMetBy b day f asked x
  one_asked x h =
      let n : ℕ = length b.codes in
      let below : AreLiterals lits (2 * (n + length m)) = guards_below n (n + length m) kept but lits guards.only (omega (arith, counted)) in
      let met : MeetsBut b day f m kept but x =
      found_but b day f m s guarding n kept but lits x refl counted guards
      (guarded_found n (n + length m) guarding.test s lits x guarding.sets below
      (subst (λ (k : ℕ). Begins (given_of s.kernel) lits k x) (sym guarding.sets.decides) h)) in
      record { counted = met.counted; meets = all x met.meets; holds_there = met.holds_there }

  kept_asked : (x : List Bool) → meets_all b day x asked ≡ true → MeetsKept b day x m (cleared kept but)
  kept_asked x met k e there on =
      let so : value_but kept but k ≡ true = sym (cleared_value kept but k) ∙ on in
      each x met k e there (and_parts (has kept k) (not (k == but)) so).0
      (λ same. false≢true (sym (cleared_there kept but) ∙ ap (has (cleared kept but)) (sym same) ∙ on))

  some_asked : IsMet b day f asked → (x : List Bool) × Begins (given_of s.kernel) lits (length b.codes) x
  some_asked h =
      let n : ℕ = length b.codes in
      let p = guarding.passes h.0 (cleared kept but) h.1.counted (length-cleared kept but ∙ counted) (kept_asked h.0 h.1.meets) h.1.holds_there in
      let l = guarding.sets.just.lifts p.0 p.1.0 p.1.1 in
      let a : ℕ → Bool = l.0 in (
        values a 0 n,
        record {
          assignment = a;
          satisfied = l.1.satisfies;
          assumed = λ l2 is_in.
              let g : IsGuardOf n kept but l2 = guards.only l2 is_in in
              let inside : g.place < length m = subst (λ (j : ℕ). g.place < j) counted g.inside in
              let so : a (n + g.place) ≡ value_but kept but g.place =
              l.1.begins (n + g.place) (omega (arith, inside, p.1.0)) ∙ p.1.2 g.place inside ∙ cleared_value kept but g.place in
              ap (is_true a) g.is ∙ value_true a (n + g.place) (value_but kept but g.place) so;
          counted = length-values a 0 n;
          begins = λ i low. sym (value_at a n i low);
        },
      )

  asks_for : AsksFor b day f asked (given_of s.kernel) lits
  asks_for = record { only = one_asked; some = some_asked }

-- a kept entry that isn't needed, in the list of those that are kept
left_kept : (b : Contents) (day : ℕ) (f : Rule) (budget : ℕ) (m : List Entry) (ts : List Bool) (place : ℕ) → length ts ≡ length m → place < length (kept_of m ts)
    → WasLeft b day f m ts (place_of ts place) budget → IsLeftWithout b day f budget (kept_of m ts) place
left_kept b day f budget m ts place counted within h =
    let before : List Bool = h.before in
    let stood : StoodAt m before ts place = stood_at m before ts place h.counted counted h.fewer.fewer within in
    let left : IsLeftBut b day f m before (place_of ts place) budget = h.left in
    let asked : List Entry = remove (kept_of m before) stood.at in
    record {
      before = kept_of m before;
      at = stood.at;
      same = place_there m before stood.at stood.within ∙ ap (slice_get m) stood.is ∙ sym (place_there m ts place within);
      others = stood.others;
      left = record {
        given = given_of left.solver.kernel;
        assumed = left.lits;
        asks =
            asks_for b day f m left.solver left.guarding before (place_of ts place) left.lits h.counted left.guards asked
            (λ x met. (from_there m before before stood.at h.counted stood.within).others b day x (λ k e there on other. met k e there on (λ same. other (same ∙ sym stood.is))))
            (λ x met k e there on other. others_kept b day x m before stood.at stood.within met k e there on (λ same. other (same ∙ stood.is)));
        vars = left.solver.vars;
        learnt = left.learnt;
        spent = left.spent;
      };
    }

known_left : (k : ℕ) (marks : Marks) → IsSettled k marks → has marks.kept.items k ≡ true → has marks.needed.items k ≡ false → has marks.left.items k ≡ true
known_left k marks settled on open_ =
    elim (settled on) [
      | inl needed ↦ absurd (false≢true (sym open_ ∙ needed))
      | inr left ↦ left
    ]

blame_of : (b : Contents) (day : ℕ) (f : Rule) (budget : ℕ) (m : List Entry) (marks : Marks) → AreMarked b day f m budget marks → ((k : ℕ) → k < length m → IsSettled k marks)
    → IsBlame b day f budget (kept_of m marks.kept.items) (kept_of marks.needed.items marks.kept.items)
blame_of b day f budget m marks h settled =
    let ts : List Bool = marks.kept.items in
    record {
      counted = length-kept marks.needed.items m ts h.needed.counted;
      none = λ x counted met. h.none x counted (kept_met b day x m ts met);
      each = λ place within needs.
          let from : IsFrom m ts marks.needed.items place = from_there m ts marks.needed.items place h.needed.counted within in
          let e = h.needed.each (place_of ts place) (sym from.same ∙ needs) in (
            e.0,
            record { counted = e.1.counted; meets = from.others b day e.0 e.1.meets; holds_there = e.1.holds_there },
          );
      left = λ place within open_.
          let from : IsFrom m ts marks.needed.items place = from_there m ts marks.needed.items place h.needed.counted within in
          let on : has ts (place_of ts place) ≡ true = place_kept m ts place within in
          let inside : place_of ts place < length m = subst (λ (k : ℕ). place_of ts place < k) h.kept_counted (has_within ts (place_of ts place) on) in
          left_kept b day f budget m ts place h.kept_counted within
          (h.left (place_of ts place) (known_left (place_of ts place) marks (settled (place_of ts place) inside) on (sym from.same ∙ open_)));
    }

blame_kept : (b : Contents) (day : ℕ) (f : Rule) (budget : ℕ) (m kept : List Entry) (marks : Marks) (needed : List Bool) → AreMarked b day f m budget marks
    → ((k : ℕ) → k < length m → IsSettled k marks) → kept ≡ kept_of m marks.kept.items → needed ≡ kept_of marks.needed.items marks.kept.items → IsBlame b day f budget kept needed
blame_kept b day f budget m kept marks needed h settled is also =
    subst (λ (es : List Entry). IsBlame b day f budget es needed) (sym is)
    (subst (λ (ts : List Bool). IsBlame b day f budget (kept_of m marks.kept.items) ts) (sym also) (blame_of b day f budget m marks h settled))

-- what is told of them
module _ {E : Type 0} (m : List Entry) (marks : Marks) where
  pub blame_told : (b : Contents) (day : ℕ) (f : Rule) (budget : ℕ) (made : Result Blamed E) → AreMarked b day f m budget marks → ((k : ℕ) → k < length m → IsSettled k marks)
      → IfOk made (λ r. r.entries.items ≡ kept_of m marks.kept.items) → IfOk made (λ r. r.needed.items ≡ kept_of marks.needed.items marks.kept.items)
      → IfOk made (λ r. IsBlame b day f budget r.entries.items r.needed.items)
  blame_told b day f budget (Ok r) h settled is also = blame_kept b day f budget m r.entries.items marks r.needed.items h settled is also
  blame_told b day f budget (Err e) h settled is also = tt

  pub among_told : (made : Result Blamed E) → length marks.kept.items ≡ length m → IfOk made (λ r. r.entries.items ≡ kept_of m marks.kept.items)
      → IfOk made (λ r. Among m r.entries.items)
  among_told (Ok r) same is = among_kept m r.entries.items marks.kept.items same is
  among_told (Err e) same is = tt
