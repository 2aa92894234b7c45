use Rattle.std.proofs.Common.{◌≡◌, map, ap, ◌∙◌, rules}
use Rattle.keeper.specs.Put.{put}
use Rattle.keeper.specs.Keys.{by_name}
use Rattle.journal_keeper.specs.declared.tables.DraftFields.{DraftFields}
use Rattle.journal_keeper.specs.Tables.{draft_of}
use Rattle.journal_keeper.proofs.Sets.{draft_set}
use Rattle.journal_keeper.proofs.tables.set_draft.Goals as goal

pub returns : goal.returns
returns c =
    let name_is : c.in_ok-name.name.items ≡ c.args.name.now = search rules in
    let owner_is : c.in_ok-body.field-0 ≡ c.args.owner.now = c.in_ok-body.ensures in
    let text_is : c.in_ok-body-2.field-0 ≡ c.args.text.now = c.in_ok-body-2.ensures in
    let fields : DraftFields = record { owner = c.in_ok-body.field-0; revision = c.args.revision; text = c.in_ok-body-2.field-0 } in
    ap (map draft_of) c.in_ok-insert.ensures.entries ∙ draft_set c.args.table.now.entries c.in_ok-name.name fields
    ∙ ap (λ n. put by_name (record { name = n; owner = c.in_ok-body.field-0; revision = c.args.revision; text = c.in_ok-body-2.field-0 }) (map draft_of c.args.table.now.entries)) name_is
    ∙ ap (λ o. put by_name (record { name = c.args.name.now; owner = o; revision = c.args.revision; text = c.in_ok-body-2.field-0 }) (map draft_of c.args.table.now.entries)) owner_is
    ∙ ap (λ t. put by_name (record { name = c.args.name.now; owner = c.args.owner.now; revision = c.args.revision; text = t }) (map draft_of c.args.table.now.entries)) text_is
