use Rattle.std.proofs.Common.{◌<◌, ◌+◌, ◌++◌, ◌∷◌, [], length, drop, sym, ap, ◌∙◌, arith}
use Rattle.derivation.specs.Written.{members, spaced}
use Rattle.derivation.proofs.LineLaws.{with_words}
use Rattle.derivation.proofs.MemberLaws.{in_set, left_out}
use Rattle.derivation.proofs.write.put_members.Goals as goal
use Rattle.derivation.proofs.write.put_members.Goals.{then-has+in_ok-put_word, else-has}

pub loop-place-preserved : goal.loop-place-preserved
loop-place-preserved c =
    let there : c.loop-place.place < length c.args.table.now = omega arith in
    let before = c.loop-place.text in
    let names = c.args.table.now in
    let x = c.args.set.now in
    let i = c.loop-place.place in
    elim c.if-has.branch [
      | then-has+in_ok-put_word w ↦
          let here = in_set names x i w.name_of.result.now c.requires there w.name_of.ensures (sym c.has.ensures ∙ w.if-has.true) in
          rw w.text-is
          (with_words (c.args.text.now ++ spaced (members names x)) before w.put_word.new.text (w.name_of.result.now ∷ []) (members (drop (i + 1) names) (drop (i + 1) x))
          (w.in_ok-put_word.ensures ∙ ap (λ n. before ++ spaced (n ∷ [])) w.bytes.ensures.value) (ap (λ ws. before ++ spaced ws) (sym here) ∙ c.loop-place.invariant))
      | else-has w ↦
          let here = left_out names x i c.requires there (sym c.has.ensures ∙ w.if-has.false) in
          rw w.text-is (ap (λ ws. before ++ spaced ws) (sym here) ∙ c.loop-place.invariant)
    ]
