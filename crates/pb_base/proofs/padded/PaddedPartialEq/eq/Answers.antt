use Rattle.std.proofs.Common.{◌≡◌, ◌-◌, ◌∙◌, arith}
use Rattle.pb_base.proofs.PaddingLemmas.{same_padded}
use Rattle.pb_base.proofs.padded.PaddedPartialEq.eq.Goals as goal

pub returns-then-self-other : goal.returns-then-self-other
returns-then-self-other g c =
    let a = c.self.inside in
    let b = c.other.inside in
    let lens : b.len ≡ a.len = omega (arith, c.if-self-other.true) in
    let zeros = c.other.invariant.2 in
    rw (← c.self.view_is, ← c.other.view_is, lens) (
    c.eq.ensures ∙ same_padded a.len (g.row.MAX - a.len) a.bytes b.bytes c.self.invariant.2 (rw lens at zeros))
