use Rattle.std.proofs.Common.{◌≡◌, drop, map}
use Rattle.std.specs.List.{filter}
use Rattle.book_model.specs.declared.record.Variant.{Variant}
use Rattle.clausify.specs.Questions.{and_none}
use Rattle.kept_requirements.specs.Kept.{carries, part_rules}
use Rattle.kept_requirements.proofs.broken.and_unused.Given as goal

abbrev pub invariant-loop-variant : goal.invariant-loop-variant
invariant-loop-variant l =
    and_none l.broken (map (λ (v : Variant). v.rule) (filter (carries l.book l.day l.part) (drop l.variant-index l.variant-items)))
    ≡ and_none l.rule (part_rules l.book l.day l.part)
