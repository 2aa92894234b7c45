use Rattle.std.proofs.Common.{arith}
use Rattle.book_text.proofs.PlaceLemmas.{unknown-place}
use Rattle.book_text.proofs.second_pass.place_of.Goals as goal

pub returns-in_default : goal.returns-in_default
returns-in_default c = unknown-place c.args.codes.now c.args.name.now c.len-form.ensures.form (grind arith)
