-- The new entry goes before those of its code.
use Rattle.std.proofs.Common.{◌≡◌, ◌<◌, length, Some, eqb, sym, ap, ◌∙◌, set, arith}
use Rattle.pb_base.specs.Node.{is_below}
use Rattle.pb_base.specs.declared.node.Node.TheVariants.{Code}
use Rattle.supplement.specs.Occurrences.{is_code}
use Rattle.supplement.proofs.OccurrenceLemmas.{notes_entry, notes_fewer, is_below-code}
use Rattle.supplement.proofs.occurrences.OccurrenceLists.note_node.Goals as goal

pub returns : goal.returns
returns c =
    let lists = c.args.self.now in
    let last : c.len-place.result ≡ length lists.entries.items = omega (arith, lists.entries.ok.0) in
    let is : Code c.in-Code.code ≡ c.args.node = sym c.in-Code.is in
    let below : c.in-Code.code < length lists.heads.items = is_below-code (length lists.heads.items) c.in-Code.code (ap (is_below (length lists.heads.items)) is ∙ c.requires) in
    notes_fewer lists _ c.args.rule (λ k. eqb c.in-Code.code k) (λ k. is_code k c.args.node) (λ k on. ap (is_code k) is ∙ on)
    (notes_entry lists _ c.in-Code.code c.args.rule c.index-next.result.now below c.index-next.ensures c.in_ok-push.ensures.items (ap (λ n. set lists.heads.items c.in-Code.code (Some n)) last))
