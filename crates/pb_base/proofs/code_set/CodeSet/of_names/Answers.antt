use Rattle.std.proofs.Common.{◌≡◌, ℕ, ◌+◌, true, false, List, [], ◌∷◌, ◌++◌, Some, Ok, slice_set, sym, ◌∙◌, ap, refl, take}
use Rattle.std.proofs.lemmas.List.{take_more}
use Rattle.pb_base.specs.Names.{place_in}
use Rattle.pb_base.specs.Sets.{has, none_of}
use Rattle.pb_base.specs.Results.{unless}
use Rattle.pb_base.specs.NamedSet.{named}
use Rattle.pb_base.proofs.NamedSets.{named_by_none, named_by_more, code_at_place}
use Rattle.pb_base.proofs.NameFaults.{repeated_fault, no_fault}
use Rattle.pb_base.proofs.code_set.CodeSet.of_names.Goals as goal

pub loop-place-init : goal.loop-place-init
loop-place-init c =
    let codes : List (List ℕ) = c.args.table.now in
    record { marked = c.in_ok-set.ensures ∙ ap none_of c.len.ensures.value ∙ sym (named_by_none codes); fault = refl }

pub returns-then-has-clause-set : goal.returns-then-has-clause-set
returns-then-has-clause-set c =
    let codes : List (List ℕ) = c.args.table.now in
    let names : List (List ℕ) = c.args.names.now in
    let i : ℕ = c.loop-place.place in
    let found : place_in codes c.index-names-place.result ≡ Some c.in-Some.code = cc in
    let repeated : has (named codes (take i names)) c.in-Some.code ≡ true = cc in
    ap (λ f. unless f (Ok (named codes names)))
    (c.loop-place.invariant.fault ∙ repeated_fault codes names i c.index-names-place.result c.in-Some.code c.loop-place-test.true c.index-names-place.is found repeated)

pub loop-place-preserved : goal.loop-place-preserved
loop-place-preserved c =
    let codes : List (List ℕ) = c.args.table.now in
    let names : List (List ℕ) = c.args.names.now in
    let i : ℕ = c.loop-place.place in
    let name : List ℕ = c.index-names-place.result in
    let code : ℕ = c.in-Some.code in
    let found : place_in codes name ≡ Some code = cc in
    let fresh : has (named codes (take i names)) code ≡ false = cc in
    let taken : take i names ++ name ∷ [] ≡ take (i + 1) names = ap (λ n. take i names ++ n ∷ []) c.index-names-place.is ∙ sym (take_more names i name c.loop-place-test.true) in
    record {
      marked =
          c.with.ensures
          ∙ ap (λ x. slice_set x code true) c.loop-place.invariant.marked
          ∙ named_by_more codes (take i names) name code c.len.ensures.distinct (code_at_place codes name code found)
          ∙ ap (named codes) taken;
      fault = c.loop-place.invariant.fault ∙ no_fault codes names i name code c.loop-place-test.true c.index-names-place.is found fresh;
    }
