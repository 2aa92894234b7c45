use Rattle.std.proofs.Common.{◌≡◌, [], ◌∷◌, ◌++◌, IsOkAnd, map-id, refl, rules, sym, subst, ◌∙◌}
use Rattle.std.proofs.lemmas.Iterator.Adapters.{YieldsList-from_vec}
use Rattle.std.proofs.lemmas.Iterator.Consumers.{YieldsList-end}
use Rattle.pb_base.specs.InParts.{InParts}
use Rattle.pb_base.proofs.PartLaws.{parts_more}
use Rattle.shared_work.proofs.joined.joined.Goals as goal

pub loop-list-preserved : goal.loop-list-preserved
loop-list-preserved g c =
    subst (λ ms. InParts (λ list own. IsOkAnd list (λ v. v.items ≡ own)) (c.loop-list.yielded ++ c.in-Some.list ∷ []) ms) (sym c.in_ok-append.ensures.items)
    (parts_more (λ list own. IsOkAnd list (λ v. v.items ≡ own)) c.loop-list.yielded c.in-Some.list c.loop-list.all.items c.in_ok-own.own.items c.loop-list.invariant
    (subst (λ list. IsOkAnd list (λ v. v.items ≡ c.in_ok-own.own.items)) (sym c.in_ok-own.was) refl))

pub returns : goal.returns
returns g c =
    let end = YieldsList-end (YieldsList-from_vec {s = c.into_iter-list-iterator.result} c.args.lists.items (search rules) (search rules))
    c.loop-list.yielded c.loop-list.list-iterator c.loop-list.yielded_by c.next.result c.next.new.self c.in-None.is c.next.ensures.steps in
    subst (λ ls. InParts (λ list own. IsOkAnd list (λ v. v.items ≡ own)) ls c.loop-list.all.items) (sym (map-id c.loop-list.yielded) ∙ end.0) c.loop-list.invariant
