use Rattle.std.proofs.Common.{◌+◌, List, Vec, Global, take, refl, sym, ap, subst, ◌∙◌, arith}
use Rattle.blame.specs.Entries.{Among}
use Rattle.blame.specs.declared.entries.Entry.{Entry}
use Rattle.blame.specs.declared.entries.Entry.TheVariants.{Chosen}
use Rattle.blame.proofs.ListLaws.{pushed_next, passed_next}
use Rattle.blame.proofs.entries.marked.Goals as goal
use Rattle.blame.proofs.entries.marked.Goals.{then-eq+in_ok-push, else-eq}

pub loop-place-preserved : goal.loop-place-preserved
loop-place-preserved c =
    elim c.if-eq.branch [
      | then-eq+in_ok-push w ↦
          pushed_next c.args.all.now c.loop-place.used.items c.if-eq.used.items c.loop-place.place _ _ (omega arith) refl
          (ap (λ (v : Vec Entry Global). v.items) w.used-is ∙ w.in_ok-push.ensures.items) c.loop-place.invariant
      | else-eq w ↦
          subst (λ (es : List Entry). Among (take (c.loop-place.place + 1) c.args.all.now) es) (sym (ap (λ (v : Vec Entry Global). v.items) w.used-is))
          (passed_next c.args.all.now c.loop-place.used.items c.loop-place.place (Chosen 0) (omega arith) c.loop-place.invariant)
    ]
