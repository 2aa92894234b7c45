use Rattle.std.proofs.Common.{◌<◌, length, sym, ◌∙◌, arith}
use Rattle.book_text.specs.PartialBook.{records_of}
use Rattle.book_text.proofs.PassLemmas.{said-more, said-fault, said-end}
use Rattle.book_text.proofs.second_pass.resolve_all.Goals as goal

pub returns-in-Err-Refused-clause-value : goal.returns-in-Err-Refused-clause-value
returns-in-Err-Refused-clause-value c =
    let in_texts : c.loop-k.k < length c.args.texts.now = omega arith in
    let fault = rw (c.in-Err-Refused.field-0-is, c.get.ensures) at c.in-Err-Refused.ensures.value in
    rw c.in-Err-Refused.field-0-is (
    sym c.loop-k.invariant.rest
    ∙ said-fault c.args.names.now c.loop-k.k (records_of c.loop-k.book) c.args.entries.now c.args.texts.now c.index-entries-k.result c.in-Err-Refused.kind
    c.loop-k-test.true in_texts c.index-entries-k.is fault)

pub loop-k-preserved : goal.loop-k-preserved
loop-k-preserved c =
    let in_texts : c.loop-k.k < length c.args.texts.now = omega arith in
    let next = rw c.get.ensures at c.in-Ok.ensures.value in
    record {
      rest =
          sym (said-more c.args.names.now c.loop-k.k (records_of c.loop-k.book) c.args.entries.now c.args.texts.now (records_of c.resolve.new.book) c.index-entries-k.result
          c.loop-k-test.true in_texts c.index-entries-k.is next)
          ∙ c.loop-k.invariant.rest;
      few = omega (arith, c.in-Ok.ensures.more, c.loop-k.invariant.few);
      grouped = c.in-Ok.ensures.grouped;
    }

pub returns-clause-value : goal.returns-clause-value
returns-clause-value c =
    sym c.loop-k.invariant.rest
    ∙ said-end c.args.names.now c.loop-k.k (records_of c.loop-k.book) c.args.entries.now c.args.texts.now c.loop-k-test.false
