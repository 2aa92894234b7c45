use Rattle.std.proofs.Common.{◌+◌, length, length-drop, ap, arith}
use Rattle.book_text.proofs.PlainLemmas.{begun_first, begun_more, begun_last}
use Rattle.book_text.proofs.plain_rows.read_fields.Goals as goal

pub fields-init : goal.fields-init
fields-init c = begun_first c.args.text.now c.args.fields.now.items c.field_end-end.result c.requires.none c.requires.some c.requires.plain c.requires.first c.field_end-end.ensures

pub fields-preserved : goal.fields-preserved
fields-preserved c =
    let comma = c.is_comma.ensures.comma c.fields-test.true in
    begun_more c.args.text.now c.fields.fields.items c.push.new.self.items c.first_field.result c.fields.rest.now c.behind_field-rest.result.now c.fields.end c.field_end-end-in-fields.result c.fields.invariant comma.0 comma.1
    c.in_ok-push.ensures.items c.first_field.ensures (c.behind_field-rest.ensures.line comma.0) c.field_end-end-in-fields.ensures

pub fields-smaller : goal.fields-smaller
fields-smaller c =
    let comma = c.is_comma.ensures.comma c.fields-test.true in
    omega (arith, comma.0, length-drop (c.fields.end + 1) c.fields.rest.now, ap length (c.behind_field-rest.ensures.line comma.0))

pub returns : goal.returns
returns c =
    begun_last c.args.text.now c.fields.fields.items c.push-2.new.self.items c.first_field-2.result c.fields.rest.now c.behind_field.result.now c.fields.end c.fields.invariant c.requires.some (c.is_comma.ensures.other c.fields-test.false)
    c.in_ok-push-2.ensures.items c.first_field-2.ensures c.behind_field.ensures.line c.behind_field.ensures.all
