use Rattle.std.proofs.Common.{List, ◌≡◌, length, sym, ap, subst, ◌∙◌, arith, All}
use Rattle.std.specs.List.{AllZip}
use Rattle.pb_base.specs.Rule.{Rule}
use Rattle.rules_met.specs.Met.{IsAnswer, RuleIsSmall}
use Rattle.kept_requirements.specs.Kept.{rules_on}
use Rattle.kept_requirements.proofs.AskedLaws.{rules_few, rules_small}
use Rattle.kept_requirements.proofs.CellLaws.{row_through}
use Rattle.kept_requirements.proofs.slice.check_slice.Goals as goal

pub ask_rules-requires-clause-small : goal.ask_rules-requires-clause-small
ask_rules-requires-clause-small c =
    let b = c.args.book.now in
    subst (All (RuleIsSmall (length b.codes))) (sym (c.deref.ensures.value ∙ c.in_ok-rules.ensures))
    (rules_small b c.codes.ensures.book c.args.slice c.args.requirements.now c.requires.fit)

pub ask_rules-requires-clause-few : goal.ask_rules-requires-clause-few
ask_rules-requires-clause-few c =
    omega (arith, ap length (c.deref.ensures.value ∙ c.in_ok-rules.ensures), rules_few c.args.book.now c.args.slice c.args.requirements.now, c.requires.few)

pub returns-clause-cells : goal.returns-clause-cells
returns-clause-cells c =
    let b = c.args.book.now in
    let budget = c.args.budget in
    let slice = c.args.slice in
    let rs = c.args.requirements.now in
    let asked : c.deref.result.now ≡ rules_on b slice rs = c.deref.ensures.value ∙ c.in_ok-rules.ensures in
    let right : AllZip (IsAnswer b slice.first budget) (rules_on b slice rs) c.in_ok-answers.answers.items =
    subst (λ (fs : List Rule). AllZip (IsAnswer b slice.first budget) fs c.in_ok-answers.answers.items) asked c.in_ok-answers.ensures.answers in
    row_through b budget slice rs c.deref-2.result.now c.cells_of.result
    (subst (AllZip (IsAnswer b slice.first budget) (rules_on b slice rs)) (sym c.deref-2.ensures.value) right) c.cells_of.ensures
