use Rattle.std.proofs.Common.{◌≡◌, ◌++◌, ◌∙◌, ℕ, Bool, List, Some, None, cond, length, ap, sym}
use Rattle.std.proofs.lemmas.Result.{IfOk-weaker}
use Rattle.order_added.specs.Judging.{Judging, passes_set, passes_with, with_codes}
use Rattle.order_added.proofs.AcceptLaws.{passes_when_put}
use Rattle.order_added.proofs.judge.Judge.passes.Goals as goal

pub passes_ordered-requires : goal.passes_ordered-requires
passes_ordered-requires c =
    c.put_both.ensures.same_codes ∙ ap (λ (x : List Bool). length x) c.in_ok-set.ensures ∙ c.self.invariant.0
    ∙ ap (λ (j : Judging). length j.book.codes) c.self.view_is

pub returns-then-put_both : goal.returns-then-put_both
returns-then-put_both c =
    let j = c.self.inside in
    let added : List ℕ = c.args.these.now ++ c.args.those.now in
    let put : with_codes j.ordered added ≡ Some c.put_both.new.set =
    ap (λ (x : List Bool). with_codes x added) (sym c.in_ok-set.ensures) ∙ c.put_both.ensures.put
    ∙ ap (λ (t : Bool). cond t (Some c.put_both.new.set) None) c.if-put_both.true in
    IfOk-weaker _ (λ passed. passed ≡ passes_set c.args.self.now (Some c.put_both.new.set)) (λ passed. passed ≡ passes_with c.args.self.now added)
    (λ passed is. is ∙ passes_when_put j.book.now j.day j.ordered j.positions c.args.self.now added (Some c.put_both.new.set) c.self.view_is put) c.passes_ordered.ensures

pub returns-else-put_both : goal.returns-else-put_both
returns-else-put_both c =
    let j = c.self.inside in
    let added : List ℕ = c.args.these.now ++ c.args.those.now in
    let put : with_codes j.ordered added ≡ None =
    ap (λ (x : List Bool). with_codes x added) (sym c.in_ok-set.ensures) ∙ c.put_both.ensures.put
    ∙ ap (λ (t : Bool). cond t (Some c.put_both.new.set) None) c.if-put_both.false in
    passes_when_put j.book.now j.day j.ordered j.positions c.args.self.now added None c.self.view_is put
