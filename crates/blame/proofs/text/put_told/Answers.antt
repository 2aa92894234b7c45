use Rattle.std.proofs.Common.{◌≡◌, ℕ, List, ◌++◌, length, codes, sym, ap, subst, ◌∙◌, append_assoc}
use Rattle.std.specs.Prelude.{OnOk}
use Rattle.pb_base.specs.Lines.{number_behind}
use Rattle.blame.specs.declared.blamed.Told.{Told}
use Rattle.blame.specs.AskText.{told_text}
use Rattle.blame.proofs.text.put_told.Goals as goal

pub returns-in_ok-put-in-Undecided : goal.returns-in_ok-put-in-Undecided
returns-in_ok-put-in-Undecided c =
    let count : ℕ = length c.in-Undecided.learnt.clauses in
    let told : c.put-in-Undecided.new.self ++ number_behind c.len.result ≡ c.args.text.now ++ told_text c.args.book.now c.args.told.now =
    ap (λ (n : ℕ). c.put-in-Undecided.new.self ++ number_behind n) c.len.ensures
    ∙ ap (λ (text : List ℕ). text ++ number_behind count) c.in_ok-put-in-Undecided.ensures.ok
    ∙ append_assoc c.args.text.now (codes "undecided after") (number_behind count)
    ∙ sym (ap (λ (t : Told). c.args.text.now ++ told_text c.args.book.now t) c.in-Undecided.is) in
    subst (λ (text : List ℕ). OnOk c.put_number.result (c.put_number.new.text ≡ text)) told c.put_number.ensures
