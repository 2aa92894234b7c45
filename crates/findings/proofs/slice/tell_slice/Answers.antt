use Rattle.std.proofs.Common.{◌≡◌, ◌<◌, ◌+◌, List, [], All, ◌∷◌, drop, length, refl, sym, ap, subst, ◌∙◌, arith}
use Rattle.chains.specs.Growth.{given_of}
use Rattle.clausify.specs.Goals.{void_asked}
use Rattle.clausify.specs.declared.question.Asked.{Asked}
use Rattle.solver.specs.Answer.{Begins, IsCore, IsSpent}
use Rattle.solver.proofs.OneLaws.{closed_by_core}
use Rattle.solver.proofs.PoolLaws.{onwards_twice}
use Rattle.findings.specs.Answering.{IsAsked}
use Rattle.findings.proofs.SliceLaws.{void_shown}
use Rattle.findings.proofs.SolverLaws.{over_onwards, meets_by_solver, counted_by_solver, spent_by_solver}
use Rattle.findings.proofs.slice.tell_slice.Goals as goal

some_question : (qs later : List Asked) (a : Asked) → qs ≡ a ∷ later → 0 < length qs
some_question qs later a are = let count = ap (λ (l : List Asked). length l) are in omega (arith, count)

behind_count : (qs : List Asked) → 0 < length qs → length (drop 1 qs) + 1 ≡ length qs
behind_count [] some = absurd (omega (arith, some))
behind_count (q ∷ qs) some = omega arith

pub behind_first-later-requires : goal.behind_first-later-requires
behind_first-later-requires c = some_question c.args.questions.now _ (void_asked (length c.args.book.now.codes)) c.requires.questions

pub tell_later-requires-clause-asked : goal.tell_later-requires-clause-asked
tell_later-requires-clause-asked c = subst (λ (qs : List Asked). All (IsAsked c.args.book.now c.args.task.slice) qs) (sym c.behind_first-later.ensures) c.requires.asked

pub tell_later-requires-clause-later : goal.tell_later-requires-clause-later
tell_later-requires-clause-later c = c.behind_first-later.ensures ∙ ap (λ (qs : List Asked). drop 1 qs) c.requires.questions

pub tell_later-requires-clause-count : goal.tell_later-requires-clause-count
tell_later-requires-clause-count c =
    let some = some_question c.args.questions.now _ (void_asked (length c.args.book.now.codes)) c.requires.questions in
    omega (arith, ap (λ (qs : List Asked). length qs) c.behind_first-later.ensures, behind_count c.args.questions.now some, c.requires.count)

pub tell_later-requires-clause-over : goal.tell_later-requires-clause-over
tell_later-requires-clause-over c = over_onwards c.args.book.now c.args.task.slice c.args.solver.now c.ask_void.new.solver c.requires.over c.ask_void.ensures.onwards

pub tell_later-requires-clause-counted : goal.tell_later-requires-clause-counted
tell_later-requires-clause-counted c =
    let b = c.args.book.now in
    let s = c.args.task.slice in
    let now = c.ask_void.new.solver in
    let void = (void_asked (length b.codes)).goal in
    let begins : Begins (given_of now.kernel) (void ∷ []) now.codes c.in-Set.set = rw c.in-Set.is at c.in_ok-searched.ensures.answer in
    counted_by_solver b s void now c.in-Set.set (over_onwards b s c.args.solver.now now c.requires.over c.ask_void.ensures.onwards) begins

pub tell_later-requires-clause-void : goal.tell_later-requires-clause-void
tell_later-requires-clause-void c =
    let b = c.args.book.now in
    let s = c.args.task.slice in
    let now = c.ask_void.new.solver in
    let void = void_asked (length b.codes) in
    let begins : Begins (given_of now.kernel) (void.goal ∷ []) now.codes c.in-Set.set = rw c.in-Set.is at c.in_ok-searched.ensures.answer in
    meets_by_solver b s 0 void now c.in-Set.set c.requires.task.facts refl (over_onwards b s c.args.solver.now now c.requires.over c.ask_void.ensures.onwards) begins

pub returns-in-Set-clause-onwards : goal.returns-in-Set-clause-onwards
returns-in-Set-clause-onwards c = onwards_twice c.args.solver.now c.ask_void.new.solver c.tell_later.new.solver c.ask_void.ensures.onwards c.tell_later.ensures.onwards

pub void_closed-requires-clause-given : goal.void_closed-requires-clause-given
void_closed-requires-clause-given c =
    (over_onwards c.args.book.now c.args.task.slice c.args.solver.now c.ask_void.new.solver c.requires.over c.ask_void.ensures.onwards).stands.given

pub void_closed-requires-clause-closed : goal.void_closed-requires-clause-closed
void_closed-requires-clause-closed c =
    let now = c.ask_void.new.solver in
    let void = (void_asked (length c.args.book.now.codes)).goal in
    let core : IsCore now.kernel (void ∷ []) c.in-Closed.at = rw c.in-Closed.is at c.in_ok-searched.ensures.answer in
    closed_by_core now.kernel void c.in-Closed.at core

pub returns-in-Closed-clause-proof : goal.returns-in-Closed-clause-proof
returns-in-Closed-clause-proof c =
    void_shown c.args.book.now c.args.task.slice c.ask_void.new.solver.kernel c.void_closed.result c.void_closed.ensures.stopped c.void_closed.ensures.none

pub void_left-requires : goal.void_left-requires
void_left-requires c =
    let b = c.args.book.now in
    let s = c.args.task.slice in
    let now = c.ask_void.new.solver in
    let void = (void_asked (length b.codes)).goal in
    let budget = c.args.task.effort.budget in
    let learnt = c.in-Spent.learnt in
    let spent : IsSpent now.vars (given_of now.kernel) (void ∷ []) budget learnt.clauses = rw c.in-Spent.is at c.in_ok-searched.ensures.answer in
    record { spent = spent_by_solver b s void budget now learnt.clauses (over_onwards b s c.args.solver.now now c.requires.over c.ask_void.ensures.onwards) spent }

pub returns-in-Spent-clause-proof : goal.returns-in-Spent-clause-proof
returns-in-Spent-clause-proof c =
    void_shown c.args.book.now c.args.task.slice c.ask_void.new.solver.kernel c.void_left.result c.void_left.ensures.stopped c.void_left.ensures.none
