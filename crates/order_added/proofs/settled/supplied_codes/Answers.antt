use Rattle.std.proofs.Common.{◌≡◌, ℕ, ◌<◌, ◌≤◌, List, [], ◌+◌, Bool, true, false, length, get_or, take, sym, ap, subst, ◌∙◌, arith}
use Rattle.std.proofs.lemmas.List.{take_all, length-set, length-replicate}
use Rattle.book_model.specs.Book.{SupplementFits}
use Rattle.book_model.specs.declared.record.Supplement.{Supplement}
use Rattle.order_added.specs.Settled.{AreSupplied}
use Rattle.order_added.proofs.SettledLaws.{supplied_none, supplied_more}
use Rattle.order_added.proofs.settled.supplied_codes.Goals as goal

pub loop-supplement-init : goal.loop-supplement-init
loop-supplement-init c = record {
  counted = ap length c.in_ok-supplied.ensures ∙ length-replicate c.len.result false ∙ c.len.ensures.value ∙ ap length c.codes.ensures.value;
  supplied = subst (AreSupplied []) (sym c.in_ok-supplied.ensures) (supplied_none c.len.result);
}

pub loop-supplement-preserved : goal.loop-supplement-preserved
loop-supplement-preserved c =
    let s : Supplement = c.supplement-item.result in
    let i : ℕ = c.loop-supplement.supplement-index in
    let old : List Bool = c.loop-supplement.supplied in
    let rules : List Supplement = c.supplements-supplement-items.result.now in
    let same : rules ≡ c.args.book.now.supplements = c.supplements-supplement-items.ensures.value in
    let fits : SupplementFits (length c.args.book.now.codes) s =
    subst (SupplementFits (length c.args.book.now.codes)) (sym c.supplement-item.is) (c.supplements-supplement-items.ensures.fit i s c.loop-supplement-test.true) in
    let below : s.code < length old = omega (arith, fits.code, c.loop-supplement.invariant.counted) in
    let within : i < length c.args.book.now.supplements = omega (arith, c.loop-supplement-test.true, ap length same) in
    record {
      counted = ap length c.with.ensures ∙ length-set old s.code true ∙ c.loop-supplement.invariant.counted;
      supplied = subst (AreSupplied (take (i + 1) c.args.book.now.supplements)) (sym c.with.ensures)
          (supplied_more c.args.book.now.supplements i s old within (sym (c.supplement-item.is ∙ ap (λ (rs : List Supplement). get_or rs i s) same)) below
          c.loop-supplement.invariant.supplied);
    }

pub returns : goal.returns
returns c =
    let i : ℕ = c.loop-supplement.supplement-index in
    let rules : List Supplement = c.args.book.now.supplements in
    let past : length rules ≤ i = omega (arith, c.loop-supplement-test.false, ap length c.supplements-supplement-items.ensures.value) in
    subst (λ (rs : List Supplement). AreSupplied rs c.loop-supplement.supplied) (take_all i rules past) c.loop-supplement.invariant.supplied
