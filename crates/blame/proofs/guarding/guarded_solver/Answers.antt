use Rattle.std.proofs.Common.{ℕ, ◌≤◌, length, sym, ap, subst, ◌∙◌}
use Rattle.blame.proofs.GuardLaws.{guarding_by, made_low, made_room}
use Rattle.blame.proofs.guarding.guarded_solver.Goals as goal

pub solver_deciding-requires-clause-below : goal.solver_deciding-requires-clause-below
solver_deciding-requires-clause-below c =
    made_low c.args.book.now c.args.day c.codes.ensures.book c.args.entries.now c.args.rule.now c.in_ok-encoder.encoder
    c.in_ok-encoder.ensures.truth c.in_ok-encoder.ensures.made

pub solver_deciding-requires-clause-codes : goal.solver_deciding-requires-clause-codes
solver_deciding-requires-clause-codes c =
    subst (λ (k : ℕ). k ≤ c.in_ok-encoder.encoder.next) (sym (c.len-codes.ensures.value ∙ ap length c.codes.ensures.value))
    (made_room c.args.book.now c.args.day c.codes.ensures.book c.args.entries.now c.args.rule.now c.in_ok-encoder.encoder c.in_ok-encoder.ensures.truth c.in_ok-encoder.ensures.made)

pub returns : goal.returns
returns c =
    guarding_by c.args.book.now c.args.day c.codes.ensures.book c.args.entries.now c.args.rule.now c.in_ok-encoder.encoder c.in_ok-solver.solver
    c.requires.fit c.requires.rule c.in_ok-encoder.ensures.truth c.in_ok-encoder.ensures.made c.in_ok-solver.ensures.clauses c.in_ok-solver.ensures.variables
    (c.in_ok-solver.ensures.decides ∙ c.len-codes.ensures.value ∙ ap length c.codes.ensures.value)
