use Rattle.std.proofs.Common.{[], ◌∷◌, subst}
use Rattle.chains.specs.Growth.{given_of}
use Rattle.clause_pool.specs.Derivation.{Derivation, AllFollow}
use Rattle.solver.specs.Answer.{Begins, IsCore, IsSpent}
use Rattle.inquiry.specs.Form.{goal_at}
use Rattle.inquiry.proofs.AskingLaws.{set_shows, closed_shows_none, left_over}
use Rattle.inquiry.proofs.asking.read_answer.Goals as goal

pub returns-in-Set : goal.returns-in-Set
returns-in-Set g c =
    let f = g.S.Inquiry.form c.args.source.now in
    let now = c.args.asking.now in
    let qs = c.args.questions.now in
    let begins : Begins (given_of now.solver.kernel) (goal_at f qs c.args.place ∷ []) now.solver.codes c.in-Set.set = rw c.in-Set.is at c.requires.right in
    set_shows f (g.S.Inquiry.IsPosed c.args.source.now) (g.S.Inquiry.MayShow c.args.source.now) c.lawful.ensures qs c.requires.posed c.args.place c.args.question now c.in-Set.set
    c.requires.there c.requires.asking begins

pub returns-in-Closed : goal.returns-in-Closed
returns-in-Closed g c =
    let f = g.S.Inquiry.form c.args.source.now in
    let now = c.args.asking.now in
    let qs = c.args.questions.now in
    let closed : IsCore now.solver.kernel (goal_at f qs c.args.place ∷ []) c.in-Closed.field-0 = rw c.in-Closed.is at c.requires.right in
    let follow : AllFollow now.solver.kernel = subst (λ (k : Derivation). AllFollow k) c.kernel.ensures c.pool.ensures.follow in
    closed_shows_none f (g.S.Inquiry.IsPosed c.args.source.now) (g.S.Inquiry.MayShow c.args.source.now) c.lawful.ensures qs c.requires.posed c.args.place c.in-Closed.field-0 c.args.question now
    c.requires.there c.requires.asking follow closed

pub returns-in-Spent : goal.returns-in-Spent
returns-in-Spent g c =
    let f = g.S.Inquiry.form c.args.source.now in
    let now = c.args.asking.now in
    let qs = c.args.questions.now in
    let spent : IsSpent now.solver.vars (given_of now.solver.kernel) (goal_at f qs c.args.place ∷ []) c.args.budget c.in-Spent.learnt.clauses = rw c.in-Spent.is at c.requires.right in
    left_over f qs c.args.place c.args.budget now c.in-Spent.learnt.clauses c.requires.asking spent
