use Rattle.std.proofs.Common.{List, length, ap, subst, ◌∙◌}
use Rattle.book_compare.specs.Asked.{usages_at}
use Rattle.book_compare.specs.Asking.{TakesPosition}
use Rattle.book_compare.specs.Keys.{KeyLiterals, position_goal}
use Rattle.book_compare.proofs.KeyRuns.{keys_found}
use Rattle.book_compare.proofs.position.add_position.Goals as goal

pub returns-clause-made : goal.returns-clause-made
returns-clause-made c =
    subst (λ (ks : List KeyLiterals). TakesPosition (length c.args.comparing.now.first.now.codes) c.args.asking.now c.with_usages.new.self ks)
    (keys_found c.args.comparing.now.first.now c.args.comparing.now.second.now c.args.comparing.now.day c.args.place.id c.args.comparing.now.joint c.in_ok-own.own.items c.in_ok-other.other.items c.requires.joint
    (c.in_ok-own.ensures.usages ∙ ap (usages_at c.args.comparing.now.first.now c.args.place.id) c.deref.ensures.value)
    (c.in_ok-other.ensures.usages ∙ ap (usages_at c.args.comparing.now.second.now c.args.place.id) c.deref-2.ensures.value))
    (rw (c.deref-3.ensures.value, c.deref-4.ensures.value) at c.in_ok-lit.ensures.made)

pub returns-clause-goal : goal.returns-clause-goal
returns-clause-goal c =
    (rw (c.deref-3.ensures.value, c.deref-4.ensures.value) at c.in_ok-lit.ensures.goal)
    ∙ ap (position_goal c.args.asking.now.next)
    (keys_found c.args.comparing.now.first.now c.args.comparing.now.second.now c.args.comparing.now.day c.args.place.id c.args.comparing.now.joint c.in_ok-own.own.items c.in_ok-other.other.items c.requires.joint
    (c.in_ok-own.ensures.usages ∙ ap (usages_at c.args.comparing.now.first.now c.args.place.id) c.deref.ensures.value)
    (c.in_ok-other.ensures.usages ∙ ap (usages_at c.args.comparing.now.second.now c.args.place.id) c.deref-2.ensures.value))
