use Rattle.std.proofs.Common.{sym, arith}
use Rattle.std.specs.Prelude.{string_bytes}
use Rattle.std.proofs.lemmas.List.{length-map}
use Rattle.command_words.specs.Prepared.{texts_of}
use Rattle.command_words.proofs.Meanings.{uncut_means}
use Rattle.command_words.proofs.SeveralWords.{place_within}
use Rattle.command_words.proofs.several_task.Goals as goal

pub workers_cut-requires : goal.workers_cut-requires
workers_cut-requires c =
    omega (arith, place_within (texts_of c.args.words.now) c.args.place c.requires, length-map c.args.words.now string_bytes)

pub returns-in-None : goal.returns-in-None
returns-in-None c = uncut_means (texts_of c.args.words.now) c.args.place c.requires (sym c.in-None.ensures)
