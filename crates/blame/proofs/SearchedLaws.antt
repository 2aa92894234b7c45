-- What comes of a search for a set that meets the rule and all kept entries but one.
use Rattle.std.proofs.Common.{◌≡◌, ℕ, ◌<◌, Bool, false, List, [], length, refl, sym, subst}
use Rattle.std.specs.List.{slice_index_or}
use Rattle.std.proofs.lemmas.Option.{slice_get_within}
use Rattle.pb_base.specs.Sets.{has}
use Rattle.clause_pool.specs.declared.pool.Pool.{Pool}
use Rattle.solver.specs.Solver.{Solving}
use Rattle.solver.specs.declared.answer.Answer.{Answer}
use Rattle.solver.specs.declared.answer.Answer.TheVariants.{Set, Closed, Spent}
use Rattle.blame.specs.Cases.{IsSearched, MarksCase, ShowsNeed}
use Rattle.blame.specs.Guards.{AreAllGuards, IsLeftBut}
use Rattle.blame.specs.Guarding.{AreFewer, AreStill, IsUntried}
use Rattle.blame.specs.declared.case.Case.{Case}
use Rattle.blame.specs.declared.marks.Marks.{Marks}
use Rattle.blame.proofs.GuardLaws.{found_but, marked_first, marked_used}

-- the same guards by equal lists, and the same search by equal marks and answers
pub same_guards : {n m : ℕ} {kept : List Bool} {but : ℕ} {lits handed : List ℕ} → n ≡ m → handed ≡ lits → AreAllGuards n kept but lits → AreAllGuards m kept but handed
same_guards {n} {m} {kept} {but} {lits} {handed} counted same h =
    subst (λ (ls : List ℕ). AreAllGuards m kept but ls) (sym same) (subst (λ (k : ℕ). AreAllGuards k kept but lits) counted h)

pub same_search : {c : Case} {kept handed : List Bool} {but budget : ℕ} {s : Solving} {answer told : Answer} → handed ≡ kept → answer ≡ told → IsSearched c handed but budget s answer
    → IsSearched c kept but budget s told
same_search {c} {kept} {handed} {but} {budget} {s} {answer} {told} same is h =
    subst (λ (ts : List Bool). IsSearched c ts but budget s told) same (subst (λ (a : Answer). IsSearched c handed but budget s a) is h)

-- a set shows that the entry is needed
pub searched_found : (c : Case) (kept : List Bool) (but budget : ℕ) (s : Solving) (x : List Bool) → length kept ≡ length c.entries.now → IsSearched c kept but budget s (Set x) → ShowsNeed c kept but x
searched_found c kept but budget s x counted h =
    found_but c.book.now c.day c.rule.now c.entries.now s h.guarding (length c.book.now.codes) kept but h.lits x refl counted h.guards h.answered

pub searched_left : (c : Case) (kept : List Bool) (but budget : ℕ) (s : Solving) (learnt : Pool) → IsSearched c kept but budget s (Spent learnt)
    → IsLeftBut c.book.now c.day c.rule.now c.entries.now kept but budget
searched_left c kept but budget s learnt h = record { solver = s; guarding = h.guarding; lits = h.lits; guards = h.guards; learnt = learnt.clauses; spent = h.answered }

pub closed_within : (c : Case) (kept : List Bool) (but budget : ℕ) (s : Solving) (at : ℕ) → IsSearched c kept but budget s (Closed at) → at < length s.kernel.clauses
closed_within c kept but budget s at h = slice_get_within s.kernel.clauses at h.answered.clause h.answered.there

-- those of which a clause denies the guards are enough
module _ (c : Case) (but budget : ℕ) (s : Solving) (at : ℕ) (old new : Marks) (h : IsSearched c old.kept.items but budget s (Closed at)) (fewer : AreFewer old.kept.items new.kept.items)
    (left_out : has new.kept.items but ≡ false) (still : AreStill (length c.book.now.codes) but (slice_index_or s.kernel.clauses at []) old.kept.items new.kept.items)
    (needed : new.needed ≡ old.needed) (left : new.left ≡ old.left) where
  pub searched_used : MarksCase c budget old → MarksCase c budget new
  searched_used marked =
      marked_used c.book.now c.day c.rule.now c.entries.now s h.guarding s.kernel h.lits at but (length c.book.now.codes) old new refl h.answered h.guards.only fewer left_out still
      budget needed left marked

  pub searched_first : IsUntried (length c.entries.now) old → MarksCase c budget new
  searched_first untried =
      marked_first c.book.now c.day c.rule.now c.entries.now s h.guarding s.kernel h.lits at but (length c.book.now.codes) old new refl h.answered h.guards.only fewer left_out still
      budget needed left untried
