use Rattle.std.proofs.Common.{length, not, [], ◌∷◌}
use Rattle.clause_pool.specs.Literal.{literal}
use Rattle.item_search.specs.Search.{IsFound, NoneFound}
use Rattle.left_cars.specs.Freedom.{IsState}
use Rattle.left_cars.specs.Left.{is_left, IsGivenUp}
use Rattle.left_cars.proofs.StateLaws.{open_by, refuted_by, state_open}
use Rattle.left_cars.proofs.free.state_beside.Goals as goal

pub see_one-noted-requires-clause-left : goal.see_one-noted-requires-clause-left
see_one-noted-requires-clause-left c =
    let found : IsFound (length c.args.book.now.codes) (is_left c.args.book.now c.args.day c.args.chosen.now) (literal c.args.place (not c.args.value) ∷ []) c.in-Shown.car =
    rw c.in-Shown.is at c.in_ok-outcome.ensures.outcome in
    found.passes

pub see_one-noted-requires-clause-counted : goal.see_one-noted-requires-clause-counted
see_one-noted-requires-clause-counted c =
    let found : IsFound (length c.args.book.now.codes) (is_left c.args.book.now c.args.day c.args.chosen.now) (literal c.args.place (not c.args.value) ∷ []) c.in-Shown.car =
    rw c.in-Shown.is at c.in_ok-outcome.ensures.outcome in
    found.counted

pub returns-in-Shown-clause-state : goal.returns-in-Shown-clause-state
returns-in-Shown-clause-state c =
    let found : IsFound (length c.args.book.now.codes) (is_left c.args.book.now c.args.day c.args.chosen.now) (literal c.args.place (not c.args.value) ∷ []) c.in-Shown.car =
    rw c.in-Shown.is at c.in_ok-outcome.ensures.outcome in
    state_open (IsState c.args.book.now c.args.day c.args.chosen.now c.args.budget c.args.place) c.state_when.result
    (c.requires.further, open_by c.args.book.now c.args.day c.args.chosen.now c.args.place c.args.value c.in-Shown.car c.requires.shown found) c.state_when.ensures

pub returns-in-NotShown-clause-state : goal.returns-in-NotShown-clause-state
returns-in-NotShown-clause-state c =
    let none : NoneFound (length c.args.book.now.codes) (is_left c.args.book.now c.args.day c.args.chosen.now) (literal c.args.place (not c.args.value) ∷ []) =
    rw c.in-NotShown.is at c.in_ok-outcome.ensures.outcome in
    rw c.refuted.ensures (refuted_by c.args.book.now c.args.day c.args.chosen.now c.args.budget c.args.place c.args.value c.requires.further none)

pub returns-in-Left-clause-state : goal.returns-in-Left-clause-state
returns-in-Left-clause-state c =
    let given_up : IsGivenUp c.args.book.now c.args.day c.args.chosen.now (literal c.args.place (not c.args.value) ∷ []) c.args.budget c.in-Left.learnt.clauses =
    rw c.in-Left.is at c.in_ok-outcome.ensures.outcome in
    (c.requires.further, record { value = c.args.value; shown = c.requires.shown; given_up = given_up })
