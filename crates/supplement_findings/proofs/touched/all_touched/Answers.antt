use Rattle.std.proofs.Common.{◌≡◌, ℕ, ◌+◌, List, length, get_or, take, sym, subst, arith}
use Rattle.std.proofs.lemmas.List.{get_or_read}
use Rattle.book_model.specs.declared.record.Construct.{Construct}
use Rattle.supplement_findings.specs.Answering.{AreTouched}
use Rattle.supplement_findings.specs.Touching.{IsNoted, no_construct, touches}
use Rattle.supplement_findings.proofs.NotedLaws.{touched_next, written}
use Rattle.supplement_findings.proofs.touched.all_touched.Goals as goal

pub loop-place-preserved : goal.loop-place-preserved
loop-place-preserved c =
    let codes = length c.args.book.now.codes in
    let rs = c.constructs-construct-items.result.now in
    let place = c.loop-place.place in
    let table = c.loop-place.table in
    let new = c.note_demand.new.table in
    let r = c.construct-item.result in
    let read : r ≡ get_or rs place no_construct = get_or_read rs place r c.loop-place-test.true c.construct-item.is no_construct in
    let noted : IsNoted place (λ (k : ℕ). touches k (get_or rs place no_construct).demand) table.items new =
    subst (λ (old : List (List ℕ)). IsNoted place (λ (k : ℕ). touches k (get_or rs place no_construct).demand) old new) c.deref_mut.ensures.value
    (subst (λ (x : Construct). IsNoted place (λ (k : ℕ). touches k x.demand) c.deref_mut.result.now new) read c.in_ok-note_demand.ensures) in
    subst (AreTouched codes (take (place + 1) rs)) (sym (written new table.items table.len noted.counted (omega (arith, table.ok.0))))
    (touched_next codes place rs table.items new c.loop-place-test.true c.loop-place.invariant noted)
