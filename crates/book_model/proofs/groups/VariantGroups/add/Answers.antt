use Rattle.std.proofs.Common.{◌≡◌, ◌<◌, [], ℕ, List, ◌∷◌, ◌++◌, length, Vec, Global, map, ap, ◌∙◌, get_or, arith}
use Rattle.std.proofs.lemmas.List.{length-map}
use Rattle.book_model.proofs.GroupLemmas.{push-group, same-group, on_err}
use Rattle.book_model.proofs.groups.VariantGroups.add.Goals as goal

pub returns-in_err-push-clause-err : goal.returns-in_err-push-clause-err
returns-in_err-push-clause-err c =
    let groups : List (Vec ℕ Global) = c.self.inside.groups.items in
    let old : Vec ℕ Global = c.index_mut-group.result.now in
    let kept : c.push.new.self.items ≡ (get_or groups c.args.position old).items = c.in_err-push.ensures.items ∙ ap (λ (g : Vec ℕ Global). g.items) c.index_mut-group.ensures.value in
    on_err c.from_residual.result (same-group groups c.args.position old c.push.new.self kept ∙ c.self.view_is)

pub returns-clause-ok : goal.returns-clause-ok
returns-clause-ok c =
    let groups : List (Vec ℕ Global) = c.self.inside.groups.items in
    let old : Vec ℕ Global = c.index_mut-group.result.now in
    let lt : c.args.position < length groups =
    let same : length (map (λ (g : Vec ℕ Global). g.items) groups) ≡ length c.args.self.now = ap (λ (gs : List (List ℕ)). length gs) c.self.view_is in
    let all : length (map (λ (g : Vec ℕ Global). g.items) groups) ≡ length groups = grind (arith, length-map) in
    omega (arith, c.requires, same, all) in
    let pushed : c.push.new.self.items ≡ (get_or groups c.args.position old).items ++ c.args.place ∷ [] = c.in_ok-push.ensures.items ∙ ap (λ (g : Vec ℕ Global). g.items ++ c.args.place ∷ []) c.index_mut-group.ensures.value in
    rw (← c.self.view_is) (push-group groups c.args.position c.args.place old c.push.new.self lt pushed)
