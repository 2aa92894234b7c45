use Rattle.std.proofs.Common.{length, ap, arith, rules}
use Rattle.blame.proofs.CodeLaws.{entry_at}
use Rattle.blame.proofs.GuardLaws.{item_in}
use Rattle.blame.proofs.PlainLaws.{further_none, further_more}
use Rattle.blame.proofs.guarding.add_plain_entries.Goals as goal

pub loop-place-init : goal.loop-place-init
loop-place-init c = further_none c.args.book.now c.args.entries.now c.args.encoder.now

pub add_plain-requires : goal.add_plain-requires
add_plain-requires c = record { there = (entry_at c.args.book.now c.args.day c.args.entries.now c.loop-place.place _ c.requires.fit (omega arith)).there }

pub loop-place-preserved : goal.loop-place-preserved
loop-place-preserved c =
    further_more c.args.book.now c.args.entries.now c.loop-place.place _ _ c.args.encoder.now c.loop-place.encoder c.add_plain.new.encoder
    (omega arith) (first_of (omega (arith, c.len-codes.ensures.value, ap length c.codes.ensures.value), search rules))
    (item_in c.args.book.now c.args.day c.codes.ensures.book c.args.entries.now c.loop-place.place _ c.requires.fit (omega arith)) c.loop-place.invariant c.in_ok-add_plain.ensures
