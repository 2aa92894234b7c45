use Rattle.std.proofs.Common.{ℕ, ◌<◌, length, refl, rules, arith}
use Rattle.std.proofs.lemmas.List.Elements.{All-get_or}
use Rattle.order_stays.proofs.StayLaws.{up_to_none, up_to_more, up_to_all, kept_within, kept_few, left_further}
use Rattle.order_stays.proofs.staying.stay_from.Goals as goal

pub loop-code-init : goal.loop-code-init
loop-code-init c = record {
  over = c.requires.over;
  stays = up_to_none c.args.book.now c.args.day c.args.chosen.now _ (search rules) c.requires.car.good;
}

pub try_code-requires-clause-within : goal.try_code-requires-clause-within
try_code-requires-clause-within c =
    All-get_or (λ (code : ℕ). code < length c.args.book.now.codes) c.args.chosen.now c.loop-code.code-index 0 (omega arith) c.requires.chosen

pub try_code-requires-clause-kept : goal.try_code-requires-clause-kept
try_code-requires-clause-kept c =
    kept_within c.args.book.now c.args.day c.args.chosen.now c.loop-code.code-index c.loop-code.stay c.requires.chosen c.loop-code.invariant.stays

pub try_code-requires-clause-few : goal.try_code-requires-clause-few
try_code-requires-clause-few c =
    kept_few c.args.book.now c.args.day c.args.chosen.now c.loop-code.code-index c.loop-code.stay (omega arith) c.requires.few c.loop-code.invariant.stays

pub loop-code-preserved : goal.loop-code-preserved
loop-code-preserved c = record {
  over = c.try_code.ensures.over;
  stays =
      up_to_more c.args.book.now c.args.day c.args.chosen.now c.loop-code.code-index _ 0 c.loop-code.stay c.try_code.new.stay (omega arith) refl
      c.loop-code.invariant.stays (rw c.in-None.is at c.in_ok-left.ensures.tried);
}

pub returns-in-Some : goal.returns-in-Some
returns-in-Some c =
    left_further c.args.book.now c.args.day c.args.chosen.now c.loop-code.code-index _ 0 c.args.budget c.loop-code.stay _ (omega arith) refl
    c.loop-code.invariant.stays (rw c.in-Some.is at c.in_ok-left.ensures.tried)

pub returns : goal.returns
returns c = up_to_all c.args.book.now c.args.day c.args.chosen.now c.loop-code.code-index c.loop-code.stay (omega arith) c.loop-code.invariant.stays
