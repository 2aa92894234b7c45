use Rattle.std.proofs.Common.{None, Some}
use Rattle.std.proofs.lemmas.Bool.Decides.{Decides-eqb}
use Rattle.std.proofs.lemmas.Slice.Eq.{strip_prefix_is, strip_suffix_is}
use Rattle.http_api.proofs.Between.{found_between, only_between}
use Rattle.http_api.proofs.item.item_in.Goals as goal

pub returns-clause-found : goal.returns-clause-found
returns-clause-found c =
    let front = strip_prefix_is Decides-eqb c.args.path.now c.args.front.now (Some c.in_ok-rest.rest) c.in_ok-rest.ensures.cases in
    let back = strip_suffix_is Decides-eqb c.in_ok-rest.rest.now c.args.back.now c.strip_suffix.result c.strip_suffix.ensures.cases in
    found_between c.args.path.now c.args.front.now c.in_ok-rest.rest.now c.args.back.now c.strip_suffix.result front back

pub returns-clause-only : goal.returns-clause-only
returns-clause-only c =
    let front = strip_prefix_is Decides-eqb c.args.path.now c.args.front.now (Some c.in_ok-rest.rest) c.in_ok-rest.ensures.cases in
    let back = strip_suffix_is Decides-eqb c.in_ok-rest.rest.now c.args.back.now c.strip_suffix.result c.strip_suffix.ensures.cases in
    only_between c.args.path.now c.args.front.now c.in_ok-rest.rest.now c.args.back.now c.strip_suffix.result front back

pub returns-in_err-rest-clause-only : goal.returns-in_err-rest-clause-only
returns-in_err-rest-clause-only c item h =
    absurd ((strip_prefix_is Decides-eqb c.args.path.now c.args.front.now None c.in_err-rest.ensures.cases) _ h)
