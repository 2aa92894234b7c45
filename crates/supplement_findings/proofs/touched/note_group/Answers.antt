use Rattle.std.proofs.Common.{◌+◌, eqb, take}
use Rattle.std.specs.List.{list_any}
use Rattle.supplement_findings.proofs.NotedLaws.{any_next, none_yet, noted_none, noted_then}
use Rattle.supplement_findings.proofs.touched.note_group.Goals as goal

pub loop-code-init : goal.loop-code-init
loop-code-init c = noted_none c.args.place _ c.args.table.now (λ k. none_yet (λ j. eqb j k) c.args.group.now)

pub loop-code-preserved : goal.loop-code-preserved
loop-code-preserved c =
    let group = c.args.group.now in
    let i = c.loop-code.code-index in
    noted_then c.args.place (λ k. list_any (λ j. eqb j k) (take i group)) _ (λ k. list_any (λ j. eqb j k) (take (i + 1) group)) c.args.table.now c.loop-code.table c.note.new.table
    c.loop-code.invariant c.in_ok-note.ensures (λ k. any_next (λ j. eqb j k) group i _ c.loop-code-test.true)
