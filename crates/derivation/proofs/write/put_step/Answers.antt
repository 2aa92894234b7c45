use Rattle.std.proofs.Common.{get_or, ◌-◌, sym, [], ◌∙◌}
use Rattle.std.proofs.lemmas.Option.{same_Some}
use Rattle.derivation.proofs.TextLaws.{step_told, step_fits}
use Rattle.derivation.proofs.write.put_step.Goals as goal

pub returns-in-Some : goal.returns-in-Some
returns-in-Some c =
    let kernel = c.args.kernel.now in
    let n = c.args.at - kernel.given in
    let same = same_Some c.in-Some.start (get_or kernel.starts n 0) (sym c.in-Some.is ∙ c.start_of.ensures.derived c.requires.derived) in
    record {
      text = step_told c.put_step_line.result c.args.text.now c.put_step_line.new.text c.in-Some.start (get_or kernel.starts n 0) c.pairs_of.result.now (get_or kernel.pairs n []) same
          (c.pairs_of.ensures.derived c.requires.derived) c.put_step_line.ensures.text;
      fit = step_fits c.put_step_line.result c.in-Some.start (get_or kernel.starts n 0) c.pairs_of.result.now (get_or kernel.pairs n []) same
          (c.pairs_of.ensures.derived c.requires.derived) (c.pairs_of.ensures.some c.requires.derived) c.put_step_line.ensures.fits;
    }
