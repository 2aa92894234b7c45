use Rattle.std.proofs.Common.{◌≡◌, ◌∙◌, ap, sym, ℕ, List, Option, Some, Bor, Vec, Global}
use Rattle.std.specs.Option.{option_map}
use Rattle.std.proofs.lemmas.Result.{IfOk-weaker}
use Rattle.command_words.specs.Parts.{Words}
use Rattle.command_words.specs.Prepared.{lent, prepared, texts_of}
use Rattle.command_words.proofs.Meanings.{list_means, prepared_form, unprepared}
use Rattle.command_words.proofs.form_task.Goals as goal

abbrev kept_words : Vec (Bor (List ℕ)) Global → Words
kept_words kept = lent kept.items

-- the list that was prepared, as the parser has it
list_is : (words : Words) (found : Option (Vec (Bor (List ℕ)) Global)) (kept : Vec (Bor (List ℕ)) Global) (list : List (Bor (List ℕ)))
    → option_map kept_words found ≡ prepared words → found ≡ Some kept → list ≡ kept.items → prepared words ≡ Some (lent list)
list_is words found kept list prepares is same = sym prepares ∙ ap (option_map kept_words) is ∙ ap (λ l. Some (lent l)) (sym same)

pub parse-requires : goal.parse-requires
parse-requires c =
    (prepared_form (texts_of c.args.words.now) (lent c.deref.result.now)
    (list_is (texts_of c.args.words.now) _ c.in-Some.list c.deref.result.now c.in_ok-list.ensures c.in-Some.is c.deref.ensures.value)).may_be_given

pub returns-in-Some : goal.returns-in-Some
returns-in-Some c =
    let prepared = list_is (texts_of c.args.words.now) _ c.in-Some.list c.deref.result.now c.in_ok-list.ensures c.in-Some.is c.deref.ensures.value in
    IfOk-weaker c.parse.result _ _ (λ found is. list_means (texts_of c.args.words.now) (lent c.deref.result.now) found prepared (sym is)) c.parse.ensures

pub returns-in-None : goal.returns-in-None
returns-in-None c = unprepared (texts_of c.args.words.now) (sym c.in_ok-list.ensures ∙ ap (option_map kept_words) c.in-None.is)
