use Rattle.std.proofs.Common.{◌≡◌, true, sym, subst, ◌∙◌, length, map, arith}
use Rattle.std.proofs.lemmas.Bool.{lt-ltb}
use Rattle.std.proofs.lemmas.List.{length-map}
use Rattle.pb_base.specs.Names.{is_name}
use Rattle.order_desk.specs.declared.limits.TheConstants.{MOST_DRAFTS}
use Rattle.order_desk.specs.Rows.{draft_row}
use Rattle.order_desk.proofs.DraftRows.{draft_row_falls, draft_row_is, draft_rises}
use Rattle.order_desk.proofs.draft_rows.draft_from.Goals as goal

pub returns-then-not-comes_last : goal.returns-then-not-comes_last
returns-then-not-comes_last c =
    let name : c.in_ok-name.name ≡ c.args.row.name = c.in_ok-name.ensures.name.0 ∙ c.as_slice.ensures in
    draft_row_falls (map draft_row c.args.drafts.now.entries) c.args.row
    (draft_rises c.args.drafts.now.entries c.args.row c.in_ok-name.name (sym name) ∙ sym c.comes_last.ensures ∙ c.if-not-comes_last.true)

pub returns : goal.returns
returns c =
    let name : c.in_ok-name.name ≡ c.args.row.name = c.in_ok-name.ensures.name.0 ∙ c.as_slice.ensures in
    let owner : c.in_ok-owner.owner ≡ c.args.row.owner = c.in_ok-owner.ensures.name.0 ∙ c.as_slice-2.ensures in (
      draft_row_is (map draft_row c.args.drafts.now.entries) c.args.row (record {
        name = subst (λ n. is_name n ≡ true) c.as_slice.ensures c.in_ok-name.ensures.name.1;
        owner = subst (λ n. is_name n ≡ true) c.as_slice-2.ensures c.in_ok-owner.ensures.name.1;
        rises = draft_rises c.args.drafts.now.entries c.args.row c.in_ok-name.name (sym name) ∙ sym c.comes_last.ensures ∙ c.if-not-comes_last.false;
        least = grind (arith, c.if-row-lt1.false);
        most = grind (arith, c.if-row-from.false, c.from.ensures);
        size = grind (arith, c.if-as_slice-gt-MOST_TEXT_BYTES.false, c.as_slice-3.ensures);
        room = lt-ltb (length (map draft_row c.args.drafts.now.entries)) MOST_DRAFTS
            (omega (arith, length-map c.args.drafts.now.entries draft_row, c.if-len-ge-MOST_DRAFTS.false, c.len.ensures.len));
      }),
      (λ i. record { name = name i; owner = owner i; revision = c.args.row.revision; text = c.args.row.text }),
    )
