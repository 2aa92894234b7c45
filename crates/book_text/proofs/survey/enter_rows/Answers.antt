use Rattle.std.proofs.Common.{◌≡◌, ◌+◌, ◌<◌, ◌++◌, [], ◌∷◌, length, append_assoc, refl, sym, ap, ◌∙◌, arith}
use Rattle.std.proofs.lemmas.List.{append-nil, length_push}
use Rattle.pb_base.specs.declared.limits.TheConstants.{MOST_TEXT_BYTES}
use Rattle.book_text.specs.Entry.{text_of}
use Rattle.book_text.specs.FirstPass.{entered_row}
use Rattle.book_text.specs.Pass.{pass}
use Rattle.book_text.specs.Said.{AreSaid}
use Rattle.book_text.proofs.PassLemmas.{pass-more, pass-fault, pass-end, said-push, text-short}
use Rattle.book_text.proofs.RowsLemmas.{short-push}
use Rattle.book_text.proofs.survey.enter_rows.Goals as goal

pub rows-init : goal.rows-init
unfolding AreSaid
rows-init c =
    let (no_entries, no_texts) = c.requires.none in
    record {
      rest = rw no_entries refl;
      said = ([], refl, rw (no_entries, no_texts) tt);
      few = rw no_entries (omega (arith, c.requires.count));
      short = λ place. rw no_texts (omega arith);
    }

pub rows-preserved : goal.rows-preserved
rows-preserved c =
    let inv = c.rows.invariant in
    let row = c.read.new.row in
    let next : c.rows.rows ≡ row ∷ c.read.new.self = rw c.if-branch.true at c.in_ok-read.ensures.next in
    let short = c.in_ok-read.ensures.short c.if-branch.true in
    let step = entered_row c.args.heading.now in
    let n = length c.rows.entries.items + 2 in
    let (read, whole, said) = inv.said in
    rw (c.in_ok-push-in-Ok.ensures.items, c.in_ok-add_text-in-Ok.ensures) (record {
      rest =
          let number : length (c.rows.entries.items ++ c.in-Ok.entry ∷ []) + 2 ≡ n + 1 = omega (arith, length_push c.rows.entries.items c.in-Ok.entry) in
          ap (λ m. pass step m c.enter_row.new.names c.read.new.self) number
          ∙ sym (pass-more step n c.rows.names c.enter_row.new.names row c.read.new.self c.in-Ok.ensures.names)
          ∙ ap (pass step n c.rows.names) (sym next) ∙ inv.rest;
      said = (
        read ++ row ∷ [],
        whole ∙ ap (λ rows. read ++ rows) next ∙ sym (append_assoc read (row ∷ []) c.read.new.self),
        said-push c.args.heading.now read c.rows.entries.items c.rows.texts row c.in-Ok.entry said c.in-Ok.ensures.entry,
      );
      few = omega (arith, length_push c.rows.entries.items c.in-Ok.entry, ap length next, inv.few);
      short = short-push MOST_TEXT_BYTES c.rows.texts (text_of c.in-Ok.entry row) inv.short (text-short c.in-Ok.entry row short);
    })

pub rows-smaller : goal.rows-smaller
rows-smaller c =
    let next : c.rows.rows ≡ c.read.new.row ∷ c.read.new.self = rw c.if-branch.true at c.in_ok-read.ensures.next in
    let fewer : length c.read.new.self < length c.rows.rows = omega (arith, ap length next) in
    fewer

pub returns-in-Err-Refused-clause-names : goal.returns-in-Err-Refused-clause-names
returns-in-Err-Refused-clause-names c =
    let row = c.read.new.row in
    let next : c.rows.rows ≡ row ∷ c.read.new.self = rw c.if-branch.true at c.in_ok-read.ensures.next in
    let step = entered_row c.args.heading.now in
    let n = length c.rows.entries.items + 2 in
    let fault = rw c.in-Err-Refused.field-0-is at c.in-Err-Refused.ensures.names in
    let count : c.len.result ≡ length c.rows.entries.items = omega (arith, c.len.ensures, c.rows.entries.ok.0) in
    rw count (
    sym c.rows.invariant.rest ∙ ap (pass step n c.rows.names) next
    ∙ pass-fault step n c.rows.names row c.read.new.self c.in-Err-Refused.kind fault)

pub returns-clause-names : goal.returns-clause-names
returns-clause-names c =
    let none : c.rows.rows ≡ [] = rw c.if-branch.false at c.in_ok-read.ensures.next in
    let step = entered_row c.args.heading.now in
    let n = length c.rows.entries.items + 2 in
    sym c.rows.invariant.rest ∙ ap (pass step n c.rows.names) none ∙ pass-end step n c.rows.names

pub returns-clause-said : goal.returns-clause-said
returns-clause-said c =
    let none : c.rows.rows ≡ [] = rw c.if-branch.false at c.in_ok-read.ensures.next in
    let (read, whole, said) = c.rows.invariant.said in
    rw (whole ∙ ap (λ rows. read ++ rows) none ∙ append-nil read) said
