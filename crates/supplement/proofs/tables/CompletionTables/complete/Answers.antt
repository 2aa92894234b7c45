-- What holds of every completion holds of this one.
use Rattle.std.proofs.Common.{◌≡◌, length, List, All, IsTrue, sym, subst}
use Rattle.std.proofs.lemmas.Result.{IfOk-weaker}
use Rattle.book_model.specs.Book.{SupplementFits}
use Rattle.book_model.specs.Good.{is_closed}
use Rattle.book_model.specs.declared.record.Supplement.{Supplement}
use Rattle.supplement.specs.Completion.{Includes, completion_by, completion_of}
use Rattle.supplement.specs.declared.completed.Completed.{Completed}
use Rattle.supplement.proofs.Laws.{IsCompleted, is_completed-completion}
use Rattle.supplement.proofs.tables.CompletionTables.complete.Goals as goal

abbrev is_completion : (c : goal.After-complete_by_worklist) → Completed → Type 0
is_completion c k = k ≡ completion_by c.supplements.result.now c.args.day c.args.set

-- the book has these rules
of_this_book : (c : goal.After-complete_by_worklist) (k : Completed) → is_completion c k → k ≡ completion_of c.args.book.now c.args.day c.args.set
of_this_book c k is = subst (λ rules. k ≡ completion_by rules c.args.day c.args.set) c.supplements.ensures.value is

is_completed : (c : goal.After-complete_by_worklist) (k : Completed) → is_completion c k → IsCompleted c.args.book.now.supplements c.args.day c.args.set k.set
is_completed c k is =
    let rules = c.args.book.now.supplements in
    let fit : All (SupplementFits (length c.args.set)) rules =
    subst (λ n. All (SupplementFits n) rules) (sym c.requires.codes) (subst (λ (ss : List Supplement). All (SupplementFits (length c.args.book.now.codes)) ss) c.supplements.ensures.value c.supplements.ensures.fit) in
    subst (λ (d : Completed). IsCompleted rules c.args.day c.args.set d.set) (sym (of_this_book c k is)) (is_completed-completion rules c.args.day c.args.set fit)

pub returns : goal.returns
returns c =
    let completed = c.complete_by_worklist.ensures in
    record {
      completion = IfOk-weaker _ (is_completion c) (λ k. k ≡ completion_of c.args.book.now c.args.day c.args.set) (of_this_book c) completed;
      closed = IfOk-weaker _ (is_completion c) (λ k. IsTrue (is_closed c.args.book.now c.args.day k.set)) (λ k is. (is_completed c k is).closed) completed;
      includes = IfOk-weaker _ (is_completion c) (λ k. Includes c.args.set k.set) (λ k is. (is_completed c k is).includes) completed;
      same_codes = IfOk-weaker _ (is_completion c) (λ k. length k.set ≡ length c.args.set) (λ k is. (is_completed c k is).same_codes) completed;
    }
