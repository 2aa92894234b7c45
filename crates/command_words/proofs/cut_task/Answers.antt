use Rattle.std.proofs.Common.{◌++◌, ap, ◌∙◌, take, arith}
use Rattle.std.specs.Prelude.{string_bytes}
use Rattle.std.proofs.lemmas.List.{length-map}
use Rattle.command_words.specs.Prepared.{texts_of}
use Rattle.command_words.proofs.Meanings.{single_means}
use Rattle.command_words.proofs.SeveralWords.{place_within}
use Rattle.command_words.proofs.cut_task.Goals as goal

pub without_option-requires : goal.without_option-requires
without_option-requires c =
    omega (arith, place_within (texts_of c.args.words.now) c.args.place c.requires.stands, length-map c.args.words.now string_bytes)

pub returns : goal.returns
returns c =
    single_means (texts_of c.args.words.now) c.args.place c.args.workers (take c.args.place (texts_of c.args.words.now) ++ texts_of c.args.behind.now) (texts_of c.deref.result.now) c.in_ok-one.one c.task_with.result c.requires.stands c.requires.cut
    (ap texts_of c.deref.ensures.value ∙ c.in_ok-others.ensures) c.in_ok-one.ensures c.task_with.ensures
