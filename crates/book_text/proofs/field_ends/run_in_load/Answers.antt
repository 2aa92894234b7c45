use Rattle.std.proofs.lemmas.Simd.{zip2_splat, length-chunk}
use lib.Lanes.{chunk}
use Rattle.book_text.proofs.LoadLemmas.{joined, run_found}
use Rattle.book_text.proofs.field_ends.run_in_load.Goals as goal

pub returns : goal.returns
returns c =
    let v = chunk c.args.at 16 c.args.text.now in
    let long = length-chunk c.args.at 16 c.args.text.now c.requires in
    run_found c.args.text.now c.args.at c.first_set.result _ c.requires c.first_set.ensures
    (joined _ _ _ v (zip2_splat _ v 16 44 long) (joined _ _ _ v (zip2_splat _ v 16 10 long) (zip2_splat _ v 16 13 long)))
