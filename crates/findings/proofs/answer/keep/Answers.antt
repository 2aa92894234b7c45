use Rattle.std.proofs.Common.{length, ap, ◌∙◌}
use Rattle.book_model.specs.Good.{is_good}
use Rattle.findings.proofs.answer.keep.Goals as goal

pub returns-in_err-put-clause-sets : goal.returns-in_err-put-clause-sets
returns-in_err-put-clause-sets c =
    let same = c.in_ok-found.ensures.set in
    c.put.ensures c.args.book.now c.args.day c.requires.sets
    (record {
      counted = ap length same ∙ c.requires.counted;
      good_then = ap (is_good c.args.book.now c.args.day) same ∙ c.requires.good;
      usages = c.in_ok-found.ensures.usages;
    })

pub returns-clause-sets : goal.returns-clause-sets
returns-clause-sets c =
    let same = c.in_ok-found.ensures.set in
    c.put.ensures c.args.book.now c.args.day c.requires.sets
    (record {
      counted = ap length same ∙ c.requires.counted;
      good_then = ap (is_good c.args.book.now c.args.day) same ∙ c.requires.good;
      usages = c.in_ok-found.ensures.usages;
    })
