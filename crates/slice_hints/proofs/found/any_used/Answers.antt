use Rattle.std.proofs.Common.{ℕ, List, ◌&&◌, ap, sym, ◌∙◌}
use Rattle.std.specs.List.{list_any}
use Rattle.pb_base.specs.Rule.{holds}
use Rattle.book_model.specs.Parts.{variants_of}
use Rattle.clausify.specs.Choices.{usage, is_active_variant}
use Rattle.slice_hints.proofs.UsageLaws.{any_of_kept}
use Rattle.slice_hints.proofs.found.any_used.Goals as goal

pub returns : goal.returns
returns c =
    c.any_used_on.ensures
    ∙ ap (λ (vs : List ℕ). list_any (λ v. is_active_variant c.args.book.now c.args.day v && holds (usage c.args.book.now v) c.args.found.now.set) vs) c.variants_of.ensures.value
    ∙ sym (any_of_kept (is_active_variant c.args.book.now c.args.day) (λ v. holds (usage c.args.book.now v) c.args.found.now.set) (variants_of c.args.position c.args.book.now.variants))
