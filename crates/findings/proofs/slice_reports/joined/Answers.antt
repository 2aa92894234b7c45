use Rattle.std.proofs.Common.{◌≡◌, List, [], ◌∷◌, ◌++◌, map-id, rules, sym, subst, ◌∙◌}
use Rattle.std.proofs.lemmas.Iterator.Adapters.{YieldsList-from_vec}
use Rattle.std.proofs.lemmas.Iterator.Consumers.{YieldsList-end}
use Rattle.pb_base.specs.InParts.{InParts}
use Rattle.findings.specs.declared.report.Note.{Note}
use Rattle.findings.proofs.ToldLaws.{parts_more}
use Rattle.findings.proofs.slice_reports.joined.Goals as goal

pub loop-report-preserved : goal.loop-report-preserved
loop-report-preserved c =
    subst (InParts (λ (report own : List Note). report ≡ own) (c.loop-report.yielded ++ c.in-Some.report ∷ [])) (sym c.in_ok-append.ensures.items)
    (parts_more (λ (report own : List Note). report ≡ own) c.loop-report.yielded c.in-Some.report c.loop-report.all.items c.into_items-own.result.items c.loop-report.invariant
    (sym c.into_items-own.ensures))

pub returns : goal.returns
returns c =
    let end = YieldsList-end (YieldsList-from_vec {s = c.into_iter-report-iterator.result} c.args.reports.items (search rules) (search rules))
    c.loop-report.yielded c.loop-report.report-iterator c.loop-report.yielded_by c.next.result c.next.new.self c.in-None.is c.next.ensures.steps in
    subst (λ (rs : List (List Note)). InParts (λ (report own : List Note). report ≡ own) rs c.loop-report.all.items) (sym (map-id c.loop-report.yielded) ∙ end.0) c.loop-report.invariant
