use Rattle.std.proofs.Common.{◌≡◌, ◌+◌, ◌<◌, ◌≤◌, ◌++◌, [], ◌∷◌, Ok, Err, length, drop, refl, sym, ap, ◌∙◌, arith}
use Rattle.std.proofs.lemmas.List.{drop_more, drop_all, length_push}
use Rattle.std.proofs.lemmas.List.Elements.{All-push}
use Rattle.pb_base.specs.Results.{and_then}
use Rattle.requirements.specs.Pass.{pass}
use Rattle.requirements.specs.Requirements.{requirement_of, with_requirement, RequirementFits}
use Rattle.requirements.proofs.PassLemmas.{pass-more, pass-fault, pass-end}
use Rattle.requirements.proofs.read.read_rules.Goals as goal

pub loop-k-preserved : goal.loop-k-preserved
loop-k-preserved c =
    let inv = c.loop-k.invariant in
    let codes = c.args.codes.now in
    let stated = c.args.stated.now in
    let k = c.loop-k.k in
    let own = c.index-stated-k.result in
    let all = c.loop-k.all.items in
    let step = with_requirement codes in
    let made = c.in-Ok.requirement in
    let here : drop k stated ≡ own ∷ drop (k + 1) stated = drop_more stated k own c.loop-k-test.true ∙ ap (λ s. s ∷ drop (k + 1) stated) (sym c.index-stated-k.is) in
    let read : requirement_of codes own ≡ Ok made = c.in-Ok.ensures.requirement in
    let joined : step all own ≡ Ok (all ++ made ∷ []) = ap (λ answer. and_then answer (λ r. Ok (all ++ r ∷ []))) read in
    rw c.in_ok-push-in-Ok.ensures.items (record {
      rest =
          sym (pass-more step (k + 1) all (all ++ made ∷ []) own (drop (k + 1) stated) joined)
          ∙ ap (pass step (k + 1) all) (sym here) ∙ inv.rest;
      fit = All-push (RequirementFits (length codes)) all made inv.fit c.in-Ok.ensures.fit;
      few = omega (arith, length_push all made, inv.few);
    })

pub returns-in-Err-Refused-clause-requirements : goal.returns-in-Err-Refused-clause-requirements
returns-in-Err-Refused-clause-requirements c =
    let inv = c.loop-k.invariant in
    let codes = c.args.codes.now in
    let stated = c.args.stated.now in
    let k = c.loop-k.k in
    let own = c.index-stated-k.result in
    let all = c.loop-k.all.items in
    let step = with_requirement codes in
    let kind = c.in-Err-Refused.kind in
    let here : drop k stated ≡ own ∷ drop (k + 1) stated = drop_more stated k own c.loop-k-test.true ∙ ap (λ s. s ∷ drop (k + 1) stated) (sym c.index-stated-k.is) in
    let failed : requirement_of codes own ≡ Err kind = rw c.in-Err-Refused.field-0-is at c.in-Err-Refused.ensures.requirement in
    let ends : step all own ≡ Err kind = ap (λ answer. and_then answer (λ r. Ok (all ++ r ∷ []))) failed in
    rw c.in-Err-Refused.field-0-is (
    sym inv.rest ∙ ap (pass step (k + 1) all) here
    ∙ pass-fault step (k + 1) all own (drop (k + 1) stated) kind ends)

pub returns-clause-requirements : goal.returns-clause-requirements
returns-clause-requirements c =
    let stated = c.args.stated.now in
    let k = c.loop-k.k in
    let all = c.loop-k.all.items in
    let step = with_requirement c.args.codes.now in
    let past : length stated ≤ k = omega (arith, c.loop-k-test.false) in
    sym c.loop-k.invariant.rest ∙ ap (pass step (k + 1) all) (drop_all k stated past) ∙ pass-end step (k + 1) all
