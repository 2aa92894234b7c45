use Rattle.std.proofs.Common.{◌≡◌, length, Option, sym, subst, ◌∙◌}
use Rattle.std.specs.Prelude.{IfSome}
use Rattle.std.proofs.lemmas.Bool.{true≢false}
use Rattle.derivation.specs.declared.slice_proof.SliceProof.{SliceProof}
use Rattle.findings.specs.Answering.{ShowsUnlessStopped}
use Rattle.findings.proofs.BookLaws.{shown_more}
use Rattle.findings.proofs.check.SliceChecks.put.Goals as goal
use Rattle.findings.proofs.check.SliceChecks.put.Goals.{in-Some+in_ok-put_shown-in-Some, in-None}

pub put_shown-requires : goal.put_shown-requires
put_shown-requires c =
    subst (λ (o : Option SliceProof). IfSome o (λ p. length p.set ≡ length c.args.book.now.codes)) c.in-Some.is c.requires

pub returns-clause-shown : goal.returns-clause-shown
returns-clause-shown c = λ slices s count is shows so_far free.
    let b = c.args.book.now in
    let own = c.args.checked.notes.items in
    elim c.match-proof-2.branch [
      | in-Some+in_ok-put_shown-in-Some w ↦
          let put = w.in_ok-put_shown-in-Some.ensures in
          let now_free = rw w.self-is at free in
          let old_free = sym put.stopped ∙ now_free in
          rw w.self-is
          (shown_more b slices s count c.args.number own c.args.self.now.text w.put_shown.new.self.text w.in-Some.proof is
          (subst (ShowsUnlessStopped b s own) w.in-Some.is shows) (so_far old_free) (λ before at begun. put.text count before old_free at begun))
      | in-None w ↦ absurd (true≢false (rw w.self-is at free))
    ]
