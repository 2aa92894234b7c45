use Rattle.std.proofs.Common.{◌≡◌, length, arith}
use Rattle.book_model.proofs.GroupLemmas.{grows-AreGroups}
use Rattle.book_text.proofs.second_pass.add_variant.Goals as goal

pub returns-clause-grouped : goal.returns-clause-grouped
returns-clause-grouped c =
    let place : c.len.result ≡ length c.args.variants.now.items = omega (arith, c.len.ensures, c.args.variants.now.ok.0) in
    rw (c.in_ok-push.ensures.items, c.in_ok-add.ensures.ok, place)
    (grows-AreGroups (length c.args.groups.now) c.args.variants.now.items c.args.groups.now c.args.variant c.requires.within c.requires.grouped)
