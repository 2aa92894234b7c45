use Rattle.std.proofs.Common.{append_assoc}
use Rattle.desk_words.proofs.fault_text.put_order_fault.Goals as goal

pub returns : goal.returns
returns c = rw (c.in_ok-put-2.ensures.ok, c.in_ok-put_optional.ensures, c.in_ok-put_number.ensures, c.in_ok-put.ensures.ok, c.order_place.ensures, c.from.ensures, c.number.ensures) (simp append_assoc)
