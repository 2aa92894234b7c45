use Rattle.propagate.proofs.AttachLaws.{pushed_back}
use Rattle.propagate.proofs.watch_lists.WatchLists.push_two.Goals as goal

pub returns-in_default-clause-err : goal.returns-in_default-clause-err
returns-in_default-clause-err c =
    rw (c.pop.ensures, c.in_default.ensures.err, c.in_ok-push.ensures.ok) (pushed_back c.args.self.now c.args.first c.args.first_watch c.requires.first)
