use Rattle.std.proofs.Common.{◌≡◌, ℕ, true, false, Some, None, MatchOption, sym, subst}
use Rattle.order_desk.specs.Checked.{with_texts}
use Rattle.order_desk.proofs.BookRows.{reached_at}
use Rattle.order_desk.proofs.book_rows.reached.Goals as goal

pub returns-in-None : goal.returns-in-None
returns-in-None c = reached_at c.args.drafts.now.entries c.args.name (with_texts c.args.row.now c.args.released.now) None c.requires c.in-None.ensures.value

pub returns-in-Some : goal.returns-in-Some
returns-in-Some c =
    subst (λ b. MatchOption c.reached_by.result (b ≡ false) (λ (revision : ℕ). (b ≡ true) × (revision ≡ c.args.row.now.revision)))
    (sym (reached_at c.args.drafts.now.entries c.args.name (with_texts c.args.row.now c.args.released.now) (Some c.in-Some.draft.now) c.requires c.in-Some.ensures.value))
    (c.reached_by.ensures c.args.name)
