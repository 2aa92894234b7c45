use Rattle.std.proofs.Common.{[], refl, sym, subst, ◌∙◌}
use Rattle.std.proofs.lemmas.List.{append-nil}
use Rattle.clause_pool.specs.Derivation.{Derivation, AllFollow}
use Rattle.chains.specs.Growth.{given_of}
use Rattle.clausify.specs.declared.question.Question.TheVariants.{Void}
use Rattle.findings.specs.Answering.{inquiry}
use Rattle.findings.specs.Core.{Asks}
use Rattle.findings.proofs.CoreLaws.{asks_by, core_false, void_assumes}
use Rattle.findings.proofs.CoreTold.{void_of_core}
use Rattle.findings.proofs.core_report.void_closed.Goals as goal

pub returns : goal.returns
returns c =
    let b = c.args.book.now in
    let s = c.args.asking.task.slice in
    let now = c.args.solver.now in
    let on = c.args.asking.on.now in
    let follow : AllFollow now.kernel = subst (λ (k : Derivation). AllFollow k) c.kernel.ensures c.pool.ensures.follow in
    let asks : Asks b s Void (given_of now.kernel) now.vars on =
    asks_by b c.args.asking.periods.now s Void (given_of now.kernel) now.vars [] on c.requires.over.clauses c.requires.over.periods c.requires.asking.task.slice
    (void_assumes b (given_of now.kernel) now.vars s.first) (c.requires.asking.on ∙ sym (append-nil _)) in
    void_of_core (inquiry b c.args.asking.task.effort) s c.in_ok-notes.notes.items
    (asks.none (λ a sat all. core_false (given_of now.kernel) a on now.kernel c.args.at refl follow c.requires.core sat all)) c.in_ok-notes.ensures
