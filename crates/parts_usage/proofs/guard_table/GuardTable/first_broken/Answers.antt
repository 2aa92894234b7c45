-- The rules are those of the book.
use Rattle.std.proofs.Common.{List, All, length, map, sym, ap, subst, ◌∙◌}
use Rattle.std.specs.List.{position_from}
use Rattle.book_model.specs.Book.{ConstructFits}
use Rattle.book_model.specs.Good.{breaks}
use Rattle.book_model.specs.declared.record.Construct.{Construct}
use Rattle.parts_usage.specs.Broken.{guard_of}
use Rattle.parts_usage.proofs.guard_table.GuardTable.first_broken.Goals as goal

pub first_guarded-requires-clause-fit : goal.first_guarded-requires-clause-fit
first_guarded-requires-clause-fit c =
    subst (λ n. All (ConstructFits n) c.constructs.result.now) (sym c.requires.codes) c.constructs.ensures.fit

pub first_guarded-requires-clause-guards : goal.first_guarded-requires-clause-guards
first_guarded-requires-clause-guards c = c.deref.ensures.value ∙ c.self.view_is ∙ c.requires.guards ∙ ap (map guard_of) (sym c.constructs.ensures.value)

pub returns : goal.returns
returns c =
    c.first_guarded.ensures ∙ ap (λ (rules : List Construct). position_from (breaks c.args.day c.args.set.now) 0 rules) c.constructs.ensures.value
