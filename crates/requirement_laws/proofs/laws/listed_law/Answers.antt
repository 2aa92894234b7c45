use Rattle.std.proofs.Common.{◌≡◌, Bool, true, List, ap, subst, ◌∙◌}
use Rattle.pb_base.specs.Rule.{holds}
use Rattle.book_model.specs.Parts.{PartsLine, parts}
use Rattle.kept_requirements.specs.Kept.{keeps}
use Rattle.parts_usage.specs.Broken.{first_broken_of}
use Rattle.parts_usage.specs.Fault.{order_fault}
use Rattle.parts_usage.specs.Unfit.{first_unfit_of}
use Rattle.release.specs.Orders.{supplemented}
use Rattle.requirements.specs.declared.requirement.Claim.{Claim}
use Rattle.requirement_laws.specs.Laws.{HasLineOf}
use Rattle.requirement_laws.proofs.ListLaws.{accepted_with, came_to, listed}
use Rattle.requirement_laws.proofs.laws.listed_law.Goals as goal

pub returns : goal.returns
returns c = λ budget rs notes place r part rule report there none claim day names formed asked x list accepted meets.
    let b = c.args.released.now.book in
    let y : List Bool = supplemented b day names in
    let kept = c.ordered_law.ensures budget rs notes place r report there none day names formed asked (accepted_with b day names x list accepted) in
    let came = came_to (order_fault b day names) (first_broken_of b day y) (first_unfit_of b day y) y x (parts b day y) list accepted in
    subst (λ (lines : List PartsLine). HasLineOf b part lines) came.1
    (listed b day part y rule (subst (λ (k : Claim). keeps b day k y ≡ true) claim kept) (ap (holds rule) came.0 ∙ meets))
