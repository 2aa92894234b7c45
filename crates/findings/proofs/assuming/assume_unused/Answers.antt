use Rattle.std.proofs.Common.{ℕ, List, ◌∷◌, [], ◌++◌, take, get_or, sym, subst, ◌∙◌, arith}
use Rattle.std.proofs.lemmas.List.{take_more, take_all}
use Rattle.findings.specs.Core.{AssumesNone}
use Rattle.findings.proofs.AssumeLaws.{none_begun, none_passed, none_taken}
use Rattle.findings.proofs.assuming.assume_unused.Goals as goal

pub loop-variant-init : goal.loop-variant-init
loop-variant-init c = λ cs vars are. none_begun c.args.book.now cs vars c.args.day c.args.assumed.now.items c.requires.none

pub loop-variant-preserved-then-not-is_active : goal.loop-variant-preserved-then-not-is_active
loop-variant-preserved-then-not-is_active c = λ cs vars are.
    let vs = c.args.variants.now in
    let k = c.loop-variant.variant-index in
    subst (λ (l : List ℕ). AssumesNone c.args.book.now cs vars c.args.day l c.loop-variant.assumed.items) (sym (take_more vs k 0 (omega arith)))
    (none_passed c.args.book.now cs vars c.args.day (get_or vs k 0) (take k vs) c.loop-variant.assumed.items (sym c.is_active.ensures ∙ c.if-not-is_active.true)
    (c.loop-variant.invariant cs vars are))

pub loop-variant-preserved : goal.loop-variant-preserved
loop-variant-preserved c = λ cs vars are.
    let b = c.args.book.now in
    let day = c.args.day in
    let vs = c.args.variants.now in
    let k = c.loop-variant.variant-index in
    subst (λ (l : List ℕ). AssumesNone b cs vars day l c.push.new.self.items) (sym (take_more vs k 0 (omega arith)))
    (subst (λ (ls : List ℕ). AssumesNone b cs vars day (take k vs ++ get_or vs k 0 ∷ []) ls) (sym c.in_ok-push.ensures.items)
    (none_taken b cs vars day (get_or vs k 0) c.in-Some.lit c.not.result (take k vs) c.loop-variant.assumed.items (sym c.is_active.ensures ∙ c.if-not-is_active.false)
    (c.in-Some.ensures b cs vars are) c.not.ensures (c.loop-variant.invariant cs vars are)))

pub returns : goal.returns
returns c = λ cs vars are _.
    subst (λ (l : List ℕ). AssumesNone c.args.book.now cs vars c.args.day l c.loop-variant.assumed.items) (take_all c.loop-variant.variant-index c.args.variants.now (omega arith))
    (c.loop-variant.invariant cs vars are)
