use Rattle.std.proofs.Common.{◌+◌, List, ◌++◌, drop, take, ap, ◌∙◌, arith}
use Rattle.book_changes.specs.ChangesText.{block_text}
use Rattle.book_changes.specs.declared.run.RunNotes.{RunNotes}
use Rattle.book_changes.proofs.TextLaws.{block_more, blocks_ended, rest_whole}
use Rattle.book_changes.proofs.text.put_blocks.Goals as goal

pub loop-at-preserved : goal.loop-at-preserved
loop-at-preserved c =
    let one = c.args.first.now in
    let other = c.args.second.now in
    let runs = c.args.runs.now in
    let i = c.loop-at.at in
    block_more runs i c.index-runs-at.result (omega arith) one other c.args.budget c.loop-at.text c.put_block.new.text _
    (c.in_ok-put_block.ensures
    ∙ ap (λ (rest : List RunNotes). c.loop-at.text ++ block_text one other c.args.budget (take i runs) c.index-runs-at.result rest) (rest_whole runs i)
    ∙ ap (λ (r : RunNotes). c.loop-at.text ++ block_text one other c.args.budget (take i runs) r (drop (i + 1) runs)) c.index-runs-at.is) c.loop-at.invariant

pub returns : goal.returns
returns c = blocks_ended c.args.first.now c.args.second.now c.args.runs.now c.loop-at.at c.args.budget c.loop-at.text _ (omega (arith, c.loop-at-test.false)) c.loop-at.invariant
