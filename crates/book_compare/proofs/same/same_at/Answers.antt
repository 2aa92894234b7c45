use Rattle.book_compare.proofs.SameLaws.{alike_when}
use Rattle.book_compare.proofs.same.same_at.Goals as goal

pub returns : goal.returns
returns c = λ same.
    alike_when c.args.comparing.now.first.now c.args.comparing.now.second.now c.args.comparing.now.day c.args.id.now c.args.comparing.now.joint.numbers.items c.in_ok-own.own.items c.in_ok-other.other.items
    c.requires.books c.requires.joint.numbers c.in_ok-own.ensures.variants c.in_ok-other.ensures.variants
    (rw (c.deref.ensures.value, c.deref-2.ensures.value, c.deref-3.ensures.value) at (c.in_ok-same.ensures same))
