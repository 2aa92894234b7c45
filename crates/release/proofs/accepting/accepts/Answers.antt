use Rattle.std.proofs.Common.{◌≡◌, Bool, List, false, true, length, sym, ap, subst, ◌∙◌}
use Rattle.std.specs.Prelude.{IfOk, Ok, Err, is_none}
use Rattle.pb_base.specs.NamedSet.{set_of_names}
use Rattle.book_model.specs.Activity.{is_within}
use Rattle.book_model.specs.Contents.{Contents}
use Rattle.book_model.specs.Sound.{IsReleasable}
use Rattle.supplement.specs.Completion.{completion_of}
use Rattle.parts_usage.specs.Broken.{first_broken_of}
use Rattle.release.specs.Accepting.{accepts}
use Rattle.release.proofs.Accepted.{accepts_outside, accepts_misnamed, accepts_named, length-named}
use Rattle.release.proofs.accepting.accepts.Goals as goal

pub breaks_none-requires : goal.breaks_none-requires
breaks_none-requires c =
    let b : Contents = c.book-book.result.now in
    let set : set_of_names b.codes c.args.codes.now ≡ Ok c.in-Ok.ordered =
    ap (λ codes. set_of_names codes c.args.codes.now) (sym c.codes.ensures.value) ∙ c.in-Ok.ensures.set in
    length-named b.codes c.args.codes.now c.in-Ok.ordered set ∙ ap (λ (b : Contents). length b.codes) c.book-book.ensures.value

pub returns-then-not-active : goal.returns-then-not-active
returns-then-not-active c =
    let b : Contents = c.book-book.result.now in
    let outside : is_within b.first b.last c.args.day ≡ false =
    ap (λ f. is_within f b.last c.args.day) (sym c.term-term.ensures.first)
    ∙ ap (λ l. is_within c.term-term.result.first l c.args.day) (sym c.term-term.ensures.last)
    ∙ sym c.active.ensures ∙ c.if-not-active.true in
    sym (ap (λ (b : Contents). accepts b c.args.day c.args.codes.now) (sym c.book-book.ensures.value)
    ∙ accepts_outside b c.args.day c.args.codes.now outside)

pub returns-in-Ok : goal.returns-in-Ok
returns-in-Ok c =
    let b : Contents = c.book-book.result.now in
    let own : b ≡ c.args.released.now.book = c.book-book.ensures.value in
    let day = c.args.day in
    let names = c.args.codes.now in
    let ordered : List Bool = c.in-Ok.ordered in
    let releasable : IsReleasable b = subst IsReleasable (sym own) c.book-book.ensures.release.releasable in
    let within : is_within b.first b.last day ≡ true =
    ap (λ f. is_within f b.last day) (sym c.term-term.ensures.first)
    ∙ ap (λ l. is_within c.term-term.result.first l day) (sym c.term-term.ensures.last)
    ∙ sym c.active.ensures ∙ c.if-not-active.false in
    let set : set_of_names b.codes names ≡ Ok ordered = ap (λ codes. set_of_names codes names) (sym c.codes.ensures.value) ∙ c.in-Ok.ensures.set in
    let same : accepts c.args.released.now.book day names ≡ is_none (first_broken_of c.args.released.now.book day (completion_of c.args.released.now.book day ordered).set) =
    ap (λ (b : Contents). accepts b day names) (sym own)
    ∙ accepts_named b day names ordered c.codes.ensures.book releasable within set
    ∙ ap (λ (b : Contents). is_none (first_broken_of b day (completion_of b day ordered).set)) own in
    subst (λ value. IfOk c.breaks_none.result (λ accepted. accepted ≡ value)) (sym same) c.breaks_none.ensures

pub returns-in-Err-Refused : goal.returns-in-Err-Refused
returns-in-Err-Refused c =
    let b : Contents = c.book-book.result.now in
    let names = c.args.codes.now in
    let misnamed : set_of_names b.codes names ≡ Err c.in-Err-Refused.field-0-0 =
    ap (λ codes. set_of_names codes names) (sym c.codes.ensures.value) ∙ (rw c.in-Err-Refused.field-0-is at c.in-Err-Refused.ensures.set) in
    sym (ap (λ (b : Contents). accepts b c.args.day names) (sym c.book-book.ensures.value)
    ∙ accepts_misnamed b c.args.day names c.in-Err-Refused.field-0-0 misnamed)
