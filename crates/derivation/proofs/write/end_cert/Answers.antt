use Rattle.std.proofs.Common.{ap, ◌∙◌}
use Rattle.derivation.specs.Certificate.{cert_answer}
use Rattle.derivation.proofs.Leading.{answer_shown}
use Rattle.derivation.proofs.TextLaws.{cert_ended}
use Rattle.derivation.proofs.write.end_cert.Goals as goal

pub returns : goal.returns
returns c =
    let b = c.args.book.now in
    let put = c.in_ok-put.ensures.ok in
    record {
      text = λ proofs begun. c.into_body.ensures ∙ (cert_ended b proofs c.args.text c.put.new.self begun put).0;
      answer = λ proofs shows begun.
          let ended = cert_ended b proofs c.args.text c.put.new.self begun put in
          ap (cert_answer b) (c.into_body.ensures ∙ ended.0) ∙ answer_shown b proofs shows c.book_laws.ensures.book.term c.book_laws.ensures.apart begun.derived ended.1;
    }
