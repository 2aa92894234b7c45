-- What the clauses of a book are made of.
--     guarded_supplements b ps     the supplementing rules, each where its period is
--     book_rules b ps           the constructibility rules behind them
--     free_usages b                the formulas of all variants, of which nothing is claimed
use Rattle.std.specs.Prelude.{List, ◌++◌, None, map}
use Rattle.book_model.specs.Contents.{Contents}
use Rattle.book_model.specs.declared.record.Slice.{Slice}
use Rattle.book_model.specs.declared.record.Supplement.{Supplement}
use Rattle.book_model.specs.declared.record.Construct.{Construct}
use Rattle.book_model.specs.declared.record.Variant.{Variant}
use Rattle.clausify.specs.Items.{construct_item, free_item, supplement_item}
use Rattle.guarded_rules.specs.Guarded.{GuardedItem, guarded}
use Rattle.book_clauses.specs.BookClauses.{construct_days, guard_in, supplement_days}

abbrev pub guarded_supplement : Contents → List Slice → Supplement → GuardedItem
guarded_supplement b ps s = guarded (guard_in b ps (supplement_days s)) (supplement_item s)

abbrev pub guarded_construct : Contents → List Slice → Construct → GuardedItem
guarded_construct b ps c = guarded (guard_in b ps (construct_days c)) (construct_item c)

abbrev pub free_usage : Variant → GuardedItem
free_usage v = guarded None (free_item v.rule)

abbrev pub guarded_supplements : Contents → List Slice → List GuardedItem
guarded_supplements b ps = map (guarded_supplement b ps) b.supplements

abbrev pub book_rules : Contents → List Slice → List GuardedItem
book_rules b ps = guarded_supplements b ps ++ map (guarded_construct b ps) b.constructs

abbrev pub free_usages : Contents → List GuardedItem
free_usages b = map free_usage b.variants

abbrev pub book_items : Contents → List Slice → List GuardedItem
book_items b ps = book_rules b ps ++ free_usages b
