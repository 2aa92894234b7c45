use Rattle.std.proofs.Common.{ℕ, List, ap, ◌∙◌}
use Rattle.book_compare.specs.Numbering.{numbers_of}
use Rattle.book_compare.proofs.JointRuns.{joint_made}
use Rattle.book_compare.proofs.joint.Joint.of.Goals as goal

pub encode-requires-clause-room : goal.encode-requires-clause-room
encode-requires-clause-room c = c.in_ok-encoder.ensures.few c.args.day

pub returns : goal.returns
returns c =
    joint_made c.args.first.now c.args.second.now c.args.day c.in_ok-encoder.encoder c.encode.new.encoder c.with.result c.in_ok-encoder.ensures.clauses c.in_ok-encoder.ensures.truth
    c.in_ok-encoder.ensures.next c.in_ok-usages.ensures.made c.with.ensures.clauses c.with.ensures.vars (c.with.ensures.first ∙ c.in_ok-usages.ensures.first) (c.with.ensures.second ∙ c.in_ok-usages.ensures.second)
    (c.with.ensures.numbers ∙ c.in_ok-numbering.ensures.numbers ∙ ap (λ (cs : List (List ℕ)). numbers_of cs c.codes-2.result.now) c.codes.ensures.value ∙ ap (numbers_of c.args.first.now.codes) c.codes-2.ensures.value)
