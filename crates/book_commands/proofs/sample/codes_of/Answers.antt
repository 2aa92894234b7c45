use Rattle.book_commands.proofs.sample.codes_of.Goals as goal

pub returns-clause-lawful : goal.returns-clause-lawful
returns-clause-lawful c = record { whole = c.codes.ensures.whole; least = c.codes.ensures.least; most = c.codes.ensures.most }
