use Rattle.std.proofs.Common.{◌++◌, ◌∷◌, [], codes, length, ap, subst, ◌∙◌}
use Rattle.std.specs.Fmt.{decimal}
use Rattle.derivation.specs.CertLine.{book_line}
use Rattle.derivation.specs.Written.{LineFits, line_of}
use Rattle.derivation.proofs.TextLaws.{cert_begun}
use Rattle.derivation.proofs.write.begin_cert.Goals as goal

pub returns : goal.returns
returns c =
    let name = c.name.ensures.value in
    let head = c.put.new.self in
    let count = length c.args.slices.now in
    cert_begun c.args.book.now count c.text_with_room-text.result head c.put_book.new.text c.text_with_room-text.ensures c.in_ok-put.ensures.ok
    (c.in_ok-put_book.ensures.text ∙ ap (λ n. head ++ line_of (codes "book") (n ∷ decimal count ∷ [])) name)
    (subst (λ n. LineFits (book_line n count)) name c.in_ok-put_book.ensures.fit)
