use Rattle.std.proofs.Common.{◌≡◌, List, replicate, subst, sym, rules}
use Rattle.propagate.specs.Block.{no_span, span_at}
use Rattle.propagate.specs.declared.watch_lists.Span.{Span}
use Rattle.propagate.proofs.BlockLaws.{all_empty, replicated_laid}
use Rattle.propagate.proofs.watch_lists.WatchLists.new.Goals as goal

pub returns-clause-empty : goal.returns-clause-empty
returns-clause-empty c =
    let same : c.in_ok-vec.field-0.items ≡ replicate c.args.literals no_span = c.in_ok-vec.ensures.items_if_clones_equal (λ y h. search rules) in
    λ code. all_empty _ _ code (subst (λ (xs : List Span). (span_at xs code).len ≡ 0) (sym same) ((replicated_laid c.args.literals).empty code))
