use Rattle.std.proofs.Common.{append_assoc}
use Rattle.desk_words.proofs.fault_text.put_slices.Goals as goal

pub returns : goal.returns
returns c = rw (c.in_ok-put_number.ensures, c.in_ok-put.ensures.ok) (simp append_assoc)
