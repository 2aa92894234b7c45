use Rattle.std.proofs.Common.{◌∙◌, arith, rules, tests}
use Rattle.std.proofs.lemmas.Iterator.{YieldsList-from_slice}
use Rattle.std.proofs.lemmas.Iterator.Search.{any_from_yields_List}
use Rattle.pb_base.specs.Names.{same_name}
use Rattle.book_text.proofs.GroupLemmas.{any-now}
use Rattle.book_text.proofs.group.may_follow.Goals as goal

pub returns-then-is_some : goal.returns-then-is_some
returns-then-is_some c =
    let any =
    any_from_yields_List (λ n. same_name c.args.name.now n.now) _ _ c.any.result c.any.ensures.ran (YieldsList-from_slice _ c.iter.ensures.rest) (λ x b q k. search (rules, tests))
    ∙ any-now (same_name c.args.name.now) c.args.names.now in
    rw any (grind arith)
