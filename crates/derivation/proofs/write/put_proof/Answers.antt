use Rattle.derivation.proofs.TextLaws.{slice_begun}
use Rattle.derivation.proofs.write.put_proof.Goals as goal

pub returns : goal.returns
returns c = λ count before is begun.
    let put = c.in_ok-put_slice.ensures in
    slice_begun c.args.book.now count c.args.number before c.args.proof.now c.args.text.now c.put_slice.new.text is begun put.text put.fit put.derived
