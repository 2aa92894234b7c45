use Rattle.std.proofs.Common.{length, ap, ◌∙◌}
use Rattle.std.specs.List.{list_any}
use Rattle.std.proofs.lemmas.List.{length-map}
use Rattle.pb_base.specs.Names.{same_name}
use Rattle.free_answers.proofs.answer.completed_set.Goals as goal

pub complete-requires : goal.complete-requires
complete-requires c =
    rw c.in_ok-completer.ensures (ap length c.in_ok-ordered.ensures ∙ length-map c.args.book.now.codes (λ code. list_any (same_name code) c.args.names.now))
