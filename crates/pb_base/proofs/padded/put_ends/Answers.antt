use Rattle.std.proofs.Common.{◌-◌, length, arith}
use Rattle.std.proofs.lemmas.List.{take_rest}
use Rattle.pb_base.proofs.PaddingLemmas.{ends_over}
use Rattle.pb_base.proofs.padded.put_ends.Goals as goal

pub returns : goal.returns
returns g c =
    let text = c.args.bytes.now in
    let last = length text - g.row.N in
    let over = rw (take_rest text last) at c.put_first-2.ensures in
    rw (over, c.put_first.ensures) (
    ends_over text c.args.room.now g.row.N last c.requires.fits (omega (arith, c.requires.covers)) c.requires.covers.1)
