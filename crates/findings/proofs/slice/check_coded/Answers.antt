use Rattle.std.proofs.Common.{All, sym, subst, arith}
use Rattle.slice_hints.specs.Found.{KnowsUsages}
use Rattle.findings.specs.Answering.{inquiry}
use Rattle.findings.proofs.SliceLaws.{over_begun, on_ok, concluded_notes, concluded_proof}
use Rattle.findings.proofs.slice.check_coded.Goals as goal

pub tell_slice-requires-clause-over : goal.tell_slice-requires-clause-over
tell_slice-requires-clause-over c =
    over_begun c.args.book.now c.args.task.slice c.args.clauses.clauses c.args.vars c.in_ok-solver.solver c.requires.clauses c.requires.variables
    c.in_ok-solver.ensures.over c.in_ok-solver.ensures.vars c.in_ok-solver.ensures.codes

pub tell_slice-requires-clause-void : goal.tell_slice-requires-clause-void
tell_slice-requires-clause-void c =
    let vars = c.in_ok-solver.ensures.vars in
    omega (arith, vars, c.requires.void)

pub tell_slice-requires-clause-earlier : goal.tell_slice-requires-clause-earlier
tell_slice-requires-clause-earlier c = subst (λ sets. All (KnowsUsages c.args.book.now) sets.items) (sym c.begin.ensures.sets) c.requires.earlier

pub returns : goal.returns
returns c =
    let b = c.args.book.now in
    let s = c.args.task.slice in
    let told = c.in_ok-told.told in
    record {
      earlier =
          on_ok c.conclude.result (All (KnowsUsages b) c.conclude.new.earlier.sets.items)
          (subst (λ sets. All (KnowsUsages b) sets.items) (sym c.conclude.ensures.sets) c.in_ok-told.ensures.earlier);
      notes = concluded_notes (inquiry b c.args.task.effort) s told c.conclude.result c.in_ok-told.ensures.notes c.conclude.ensures.notes;
      proof = concluded_proof b s c.tell_slice.new.solver.kernel told c.conclude.result c.in_ok-told.ensures.proof c.conclude.ensures.notes c.conclude.ensures.proof;
    }
