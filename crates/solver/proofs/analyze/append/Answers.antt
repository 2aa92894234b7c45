use Rattle.std.proofs.Common.{◌≡◌, ℕ, Bool, List, ◌++◌, Ok, ap, sym, ◌∙◌}
use Rattle.std.specs.List.{filter}
use Rattle.clause_pool.specs.Clause.{has, clause_of}
use Rattle.clause_pool.specs.Chain.{chain}
use Rattle.clause_pool.specs.Derivation.{Derivation}
use Rattle.clause_pool.specs.Marks.{marked}
use Rattle.solver.proofs.MarkLaws.{chain_written, written_is}
use Rattle.solver.proofs.analyze.append.Goals as goal

pub append-requires-clause-resolvent : goal.append-requires-clause-resolvent
append-requires-clause-resolvent c =
    let marks : List Bool = c.args.resolution.now.marks.items in
    let written : c.push_marked.new.out.items ≡ filter (λ l. marked marks l) c.args.resolution.now.touched.items =
    c.in_ok-push_marked.ensures ∙ ap (λ (xs : List ℕ). xs ++ filter (λ l. marked c.deref.result.now l) c.deref-2.result.now) c.clear.ensures.items ∙ ap (λ (ms : List Bool). filter (λ l. marked ms l) c.deref-2.result.now) c.deref.ensures.value ∙ ap (filter (λ l. marked marks l)) c.deref-2.ensures.value in
    ap (chain c.args.kernel.now.clauses c.args.resolution.now.start) c.deref-3.ensures.value
    ∙ chain_written c.args.kernel.now.clauses c.args.resolution.now c.push_marked.new.out.items c.requires.chain c.requires.some written
    ∙ ap (λ (xs : List ℕ). Ok (clause_of xs)) (sym c.deref-4.ensures.value)

pub returns-clause-appended : goal.returns-clause-appended
returns-clause-appended c =
    let marks : List Bool = c.args.resolution.now.marks.items in
    let written : c.push_marked.new.out.items ≡ filter (λ l. marked marks l) c.args.resolution.now.touched.items =
    c.in_ok-push_marked.ensures ∙ ap (λ (xs : List ℕ). xs ++ filter (λ l. marked c.deref.result.now l) c.deref-2.result.now) c.clear.ensures.items ∙ ap (λ (ms : List Bool). filter (λ l. marked ms l) c.deref-2.result.now) c.deref.ensures.value ∙ ap (filter (λ l. marked marks l)) c.deref-2.ensures.value in
    let is = ap clause_of c.deref-4.ensures.value ∙ written_is c.args.kernel.now.clauses c.args.resolution.now c.push_marked.new.out.items c.requires.chain c.requires.some written in
    record {
      clause = clause_of c.deref-4.result.now;
      clauses = ap (λ (k : Derivation). k.clauses) c.in_ok-at.ensures.ok;
      same_number = ap (λ (k : Derivation). k.given) c.in_ok-at.ensures.ok;
      literals = λ l. c.requires.chain.marks_are l ∙ ap (λ (d : List ℕ). has d l) (sym is);
    }
