use Rattle.std.proofs.Common.{◌+◌, ◌≤◌, length, ap, ◌∙◌, arith}
use Rattle.std.proofs.lemmas.Result.{IfOk-weaker}
use Rattle.blame.specs.Cases.{GuardsCase, IsSearched}
use Rattle.blame.specs.Guarding.{IsGuardedAnswer}
use Rattle.blame.proofs.GuardLaws.{guards_below, guards_consistent, guarding_onwards}
use Rattle.blame.proofs.SearchedLaws.{same_guards}
use Rattle.blame.proofs.trying.search_but.Goals as goal

pub search_guarded-requires-clause-below : goal.search_guarded-requires-clause-below
search_guarded-requires-clause-below c =
    let n = length c.args.case.now.book.now.codes in
    let room : n + length c.args.kept.now ≤ c.args.solver.now.vars = omega (arith, c.requires.counted, c.requires.guarding.sets.within) in
    guards_below n c.args.solver.now.vars c.args.kept.now c.args.but c.deref.result.now (same_guards (c.len-codes.ensures.value ∙ ap length c.codes.ensures.value) c.deref.ensures.value c.in_ok-lits.ensures).only room

pub search_guarded-requires-clause-consistent : goal.search_guarded-requires-clause-consistent
search_guarded-requires-clause-consistent c =
    guards_consistent (length c.args.case.now.book.now.codes) c.args.kept.now c.args.but c.deref.result.now (same_guards (c.len-codes.ensures.value ∙ ap length c.codes.ensures.value) c.deref.ensures.value c.in_ok-lits.ensures).only

pub returns-clause-guarding : goal.returns-clause-guarding
returns-clause-guarding c =
    let case = c.args.case.now in
    guarding_onwards case.book.now case.day case.rule.now case.entries.now c.args.solver.now c.search_guarded.new.solver c.search_guarded.ensures.sets c.requires.guarding

pub returns-clause-searched : goal.returns-clause-searched
returns-clause-searched c =
    let case = c.args.case.now in
    let n = length case.book.now.codes in
    let all = n + length case.entries.now in
    let s = c.search_guarded.new.solver in
    let lits = c.deref.result.now in
    let was = c.requires.guarding in
    let guarding : GuardsCase case s = record { test = was.test; sets = c.search_guarded.ensures.sets n all was.test was.sets; passes = was.passes; reads = was.reads } in
    let room : n + length c.args.kept.now ≤ all = omega (arith, c.requires.counted) in
    IfOk-weaker _ (IsGuardedAnswer n all c.requires.guarding.test s lits c.args.budget) (IsSearched case c.args.kept.now c.args.but c.args.budget s)
    (λ answer answered. record { guarding = guarding; lits = lits; guards = same_guards (c.len-codes.ensures.value ∙ ap length c.codes.ensures.value) c.deref.ensures.value c.in_ok-lits.ensures; answered = answered })
    (c.search_guarded.ensures.answer n all c.requires.guarding.test c.requires.guarding.sets (guards_below n all c.args.kept.now c.args.but lits (same_guards (c.len-codes.ensures.value ∙ ap length c.codes.ensures.value) c.deref.ensures.value c.in_ok-lits.ensures).only room))
