use Rattle.std.proofs.Common.{◌≡◌, length, take, arith, length-take-le}
use Rattle.std.proofs.lemmas.Simd.{put_chunk_is}
use Rattle.pb_base.proofs.padded.put_first.Goals as goal

pub returns : goal.returns
returns g c =
    let front = take g.row.N c.args.bytes.now in
    let long : length front ≡ g.row.N = length-take-le g.row.N c.args.bytes.now c.requires.0 in
    rw long at (put_chunk_is c.args.at c.args.room.now front (omega (arith, c.requires.1)))
