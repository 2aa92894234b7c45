use Rattle.std.proofs.Common.{◌≡◌, ◌<◌, ◌∙◌, ℕ, List, All, length, ap, ap₂, subst, sym}
use Rattle.std.specs.List.{IsDistinct}
use Rattle.std.proofs.lemmas.Result.{IfOk-weaker}
use Rattle.pb_base.specs.Names.{same_name}
use Rattle.pb_base.specs.Places.{names_at, places_of}
use Rattle.order_added.specs.Added.{Among, IsAdded}
use Rattle.order_added.proofs.OrderLaws.{few_added, few_all, few_among, places_pass}
use Rattle.order_added.proofs.adding.add_by.Goals as goal

pub few_accepted-requires-clause-passes : goal.few_accepted-requires-clause-passes
few_accepted-requires-clause-passes c =
    let b = c.args.book.now in
    let apart : IsDistinct same_name b.codes = subst (λ (codes : List (List ℕ)). IsDistinct same_name codes) c.codes-codes.ensures.value c.names_law.ensures.distinct in
    places_pass b c.args.day apart c.args.ordered.now c.args.others.now c.args.judge.now.ordered c.args.judge.now c.in_ok-places.places.items
    c.requires.set c.requires.judge c.requires.accepted
    (c.in_ok-places.ensures.places ∙ ap (λ (codes : List (List ℕ)). places_of codes c.args.others.now) c.codes-codes.ensures.value)

pub names_at-requires : goal.names_at-requires
names_at-requires c =
    let b = c.args.book.now in
    let apart : IsDistinct same_name b.codes = subst (λ (codes : List (List ℕ)). IsDistinct same_name codes) c.codes-codes.ensures.value c.names_law.ensures.distinct in
    let few : List ℕ = c.in_ok-few.few.items in
    subst (λ (ps : List ℕ). All (λ (place : ℕ). place < length c.codes-codes.result.now) ps) (sym c.deref.ensures.value)
    (subst (λ (codes : List (List ℕ)). All (λ (place : ℕ). place < length codes) few) (sym c.codes-codes.ensures.value)
    (few_all b c.args.day apart c.args.ordered.now c.args.judge.now.ordered c.args.judge.now few c.requires.set c.requires.judge c.in_ok-few.ensures.few))

pub returns-clause-added : goal.returns-clause-added
returns-clause-added c =
    let b = c.args.book.now in
    let apart : IsDistinct same_name b.codes = subst (λ (codes : List (List ℕ)). IsDistinct same_name codes) c.codes-codes.ensures.value c.names_law.ensures.distinct in
    let few : List ℕ = c.in_ok-few.few.items in
    IfOk-weaker _ (λ names. names.items ≡ names_at c.codes-codes.result.now c.deref.result.now) (λ added. IsAdded b c.args.day c.args.ordered.now added.items)
    (λ names named_so. few_added b c.args.day apart c.args.ordered.now c.args.judge.now.ordered c.args.judge.now few names.items c.requires.set c.requires.judge c.in_ok-few.ensures.few
    (named_so ∙ ap₂ (λ (codes : List (List ℕ)) (ps : List ℕ). names_at codes ps) c.codes-codes.ensures.value c.deref.ensures.value)) c.names_at.ensures

pub returns-clause-among : goal.returns-clause-among
returns-clause-among c =
    let b = c.args.book.now in
    let apart : IsDistinct same_name b.codes = subst (λ (codes : List (List ℕ)). IsDistinct same_name codes) c.codes-codes.ensures.value c.names_law.ensures.distinct in
    let few : List ℕ = c.in_ok-few.few.items in
    IfOk-weaker _ (λ names. names.items ≡ names_at c.codes-codes.result.now c.deref.result.now) (λ added. Among c.args.others.now added.items)
    (λ names named_so. few_among b c.args.day apart c.args.ordered.now c.args.others.now c.in_ok-places.places.items few names.items c.requires.accepted
    (c.in_ok-places.ensures.places ∙ ap (λ (codes : List (List ℕ)). places_of codes c.args.others.now) c.codes-codes.ensures.value)
    c.in_ok-few.ensures.among
    (named_so ∙ ap₂ (λ (codes : List (List ℕ)) (ps : List ℕ). names_at codes ps) c.codes-codes.ensures.value c.deref.ensures.value)) c.names_at.ensures
