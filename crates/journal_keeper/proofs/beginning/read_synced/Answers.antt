use Rattle.std.proofs.Common.{sym, ◌∙◌}
use Rattle.std.proofs.lemmas.Result.{on_ok_weaker}
use Rattle.journal_keeper.proofs.beginning.read_synced.Goals as goal

pub returns-clause-durable : goal.returns-clause-durable
returns-clause-durable g c =
    on_ok_weaker c.read.result (λ counted file told image left.
    c.requires file (sym (c.read.ensures.kept ∙ c.sync.ensures.kept) ∙ told) image (c.in_ok-sync.ensures.durable image (c.read.ensures.crash image left)))
    c.read.ensures.count.stays
