use Rattle.std.proofs.Common.{◌≡◌, ◌<◌, ◌^◌, ◌++◌, List, codes, ap, subst, ◌∙◌, arith}
use Rattle.std.specs.List.{AllByRecursion}
use Rattle.std.specs.Result.{OnOk}
use Rattle.derivation.specs.declared.closing.Closing.{Closing}
use Rattle.derivation.specs.Written.{LineFits, line_of, members, close_lines, written}
use Rattle.derivation.proofs.MemberLaws.{members_are_codes}
use Rattle.derivation.proofs.TextLaws.{slice_told}
use Rattle.derivation.proofs.write.put_slice.Goals as goal

pub returns : goal.returns
returns c =
    let table = c.codes.ensures.value in
    let before = c.put_slice_line.new.text in
    let behind = c.put_steps.new.text in
    let end = c.put_closings.new.text in
    let proof = c.args.proof.now in
    let below : c.args.number < 2 ^ 64 = omega arith in
    let Text : List Closing → Type 0 = λ closings. OnOk c.put_closings.result (end ≡ behind ++ written (close_lines closings)) in
    let Fit : List Closing → Type 0 = λ closings. OnOk c.put_closings.result (AllByRecursion LineFits (close_lines closings)) in
    let told = slice_told c.put_closings.result c.args.book.now c.args.number proof c.args.text.now before c.put_set_line.new.text behind end below c.in_ok-put_slice_line.ensures.text
    (c.in_ok-put_set_line.ensures ∙ ap (λ ns. before ++ line_of (codes "set") (members ns proof.set)) table) (members_are_codes c.args.book.now.codes proof.set c.book_laws.ensures.names)
    (record { text = c.in_ok-put_steps.ensures.text; fit = c.in_ok-put_steps.ensures.fit }) c.in_ok-put_steps.ensures.derived
    (subst Text c.deref.ensures.value c.put_closings.ensures.text) (subst Fit c.deref.ensures.value c.put_closings.ensures.fit) in
    record { text = told.text; fit = told.fit; derived = told.derived }
