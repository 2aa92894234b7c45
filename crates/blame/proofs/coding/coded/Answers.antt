use Rattle.std.proofs.Common.{length, ap, ◌∙◌, arith}
use Rattle.item_search.proofs.EncodedLaws.{encoded_none}
use Rattle.blame.proofs.CodeLaws.{making_none, making_more, making_all, entry_room, rule_room, entry_at}
use Rattle.blame.proofs.coding.coded.Goals as goal

pub loop-entry-init : goal.loop-entry-init
loop-entry-init c =
    making_none c.args.book.now c.args.entries.now c.len.result c.in_ok-encoder.encoder (c.len.ensures.value ∙ ap length c.codes-codes.ensures.value)
    (encoded_none c.len.result c.in_ok-encoder.encoder c.in_ok-encoder.ensures.clauses c.in_ok-encoder.ensures.truth c.in_ok-encoder.ensures.next)
    c.in_ok-encoder.ensures.truth

pub add_entry-requires-clause-truth : goal.add_entry-requires-clause-truth
add_entry-requires-clause-truth c = c.loop-entry.invariant.truth

pub add_entry-requires-clause-there : goal.add_entry-requires-clause-there
add_entry-requires-clause-there c =
    (entry_at c.args.book.now c.args.day c.args.entries.now c.loop-entry.entry-index _ c.requires.fit (omega arith)).there

pub add_entry-requires-clause-room : goal.add_entry-requires-clause-room
add_entry-requires-clause-room c =
    entry_room c.args.book.now c.args.day c.codes-codes.ensures.book c.args.entries.now c.loop-entry.entry-index _ c.loop-entry.encoder c.requires.fit
    (omega arith) c.requires.few c.loop-entry.invariant

pub loop-entry-preserved : goal.loop-entry-preserved
loop-entry-preserved c =
    making_more c.args.book.now c.args.entries.now c.loop-entry.entry-index _ c.loop-entry.encoder c.add_entry.new.encoder
    (omega arith) c.loop-entry.invariant c.in_ok-add_entry.ensures

pub rule_on-requires : goal.rule_on-requires
rule_on-requires c =
    rule_room c.args.book.now c.args.day c.codes-codes.ensures.book c.args.entries.now c.args.rule.now c.loop-entry.entry-index c.loop-entry.encoder c.requires.fit c.requires.rule
    c.requires.few (omega arith) c.loop-entry.invariant

pub returns-clause-truth : goal.returns-clause-truth
returns-clause-truth c = c.in_ok-rule_on.ensures.truth ∙ c.loop-entry.invariant.truth

pub returns-clause-encoded : goal.returns-clause-encoded
returns-clause-encoded c =
    making_all c.args.book.now c.args.entries.now c.args.rule.now c.loop-entry.entry-index c.loop-entry.encoder c.rule_on.new.self (omega arith) c.loop-entry.invariant c.in_ok-rule_on.ensures
