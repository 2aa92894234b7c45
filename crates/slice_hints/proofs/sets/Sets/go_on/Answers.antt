use Rattle.std.proofs.Common.{◌≡◌, false, List, sym, subst, ◌∙◌}
use Rattle.std.specs.List.{list_any}
use Rattle.slice_hints.specs.Found.{is_spoilt}
use Rattle.slice_hints.specs.declared.found.Found.{Found}
use Rattle.slice_hints.proofs.SpoiltLaws.{all_still}
use Rattle.slice_hints.proofs.sets.Sets.go_on.Goals as goal

pub returns-then-not-any_spoilt : goal.returns-then-not-any_spoilt
returns-then-not-any_spoilt c =
    let b = c.args.book.now in
    record {
      found =
          all_still b c.args.before c.args.day c.args.self.now c.requires.found
          (subst (λ (fs : List Found). list_any (λ f. is_spoilt b c.args.before c.args.day f.set) fs ≡ false) (c.deref.ensures.value ∙ c.self.view_is)
          (sym c.any_spoilt.ensures ∙ c.if-not-any_spoilt.true));
    }
