use Rattle.std.proofs.Common.{◌++◌, List, ap, sym, take, ◌∙◌}
use Rattle.std.specs.Prelude.{String, string_bytes}
use Rattle.std.specs.declared.alloc.Global.{Global}
use Rattle.std.proofs.lemmas.List.{take-map}
use Rattle.command_words.specs.Parts.{Words}
use Rattle.command_words.specs.Prepared.{texts_of}
use Rattle.command_words.proofs.several.without_option.Goals as goal

pub returns : goal.returns
returns c =
    let front = take c.args.place c.args.words.now in
    c.in_ok-copy_all-2.ensures
    ∙ ap (λ (ws : Words). ws ++ texts_of c.args.behind.now)
    (c.in_ok-copy_all.ensures ∙ ap (λ (ws : List (String Global)). texts_of ws ++ texts_of front) c.new-others.ensures.items
    ∙ sym (take-map string_bytes c.args.place c.args.words.now))
