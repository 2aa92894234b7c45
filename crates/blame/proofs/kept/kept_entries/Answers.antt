use Rattle.std.proofs.Common.{Vec, Global, sym, ap, ◌∙◌, arith}
use Rattle.blame.specs.declared.entries.Entry.{Entry}
use Rattle.blame.proofs.KeptLaws.{kept_pushed, kept_more_off}
use Rattle.blame.proofs.kept.kept_entries.Goals as goal
use Rattle.blame.proofs.kept.kept_entries.Goals.{then-kept-place+in_ok-push, else-kept-place}

pub loop-place-preserved : goal.loop-place-preserved
loop-place-preserved c =
    elim c.if-kept-place.branch [
      | then-kept-place+in_ok-push w ↦
          kept_pushed c.args.entries.now c.loop-place.some.items c.if-kept-place.some.items c.args.kept.now c.loop-place.place _ c.requires (omega arith) w.if-kept-place.true
          c.loop-place.invariant (ap (λ (v : Vec Entry Global). v.items) w.some-is ∙ w.in_ok-push.ensures.items)
      | else-kept-place w ↦
          ap (λ (v : Vec Entry Global). v.items) w.some-is ∙ c.loop-place.invariant
          ∙ sym (kept_more_off c.args.entries.now c.args.kept.now c.loop-place.place c.requires (omega arith) w.if-kept-place.false)
    ]
