-- What keeps a book back from a comparison, and what the comparison of two released ones comes to.
use Rattle.std.proofs.Common.{◌≡◌, ◌∙◌, ℕ, List, sym, subst, ap, inl, inr}
use Rattle.std.specs.Prelude.{◌⊎◌, Option, None, Some, Result, Ok, Err, IfOk}
use Rattle.book_changes.specs.Changes.{IsChanges}
use Rattle.book_changes.specs.declared.run.RunNotes.{RunNotes}
use Rattle.book_compare.specs.Comparison.{IsComparison, outside}
use Rattle.book_compare.specs.declared.note.CompareNote.{CompareNote}
use Rattle.book_compare.specs.declared.note.Outside.{Outside}
use Rattle.book_model.specs.Contents.{Contents}
use Rattle.book_model.specs.Slices.{slices_of}
use Rattle.book_model.specs.declared.slicing.LimitFault.{LimitFault}
use Rattle.book_text.specs.BookText.{book_of}
use Rattle.release.specs.Release.{Release, IsRelease}
use Rattle.release_check.specs.NotReleased.{IsRefusal}
use Rattle.release_check.specs.declared.not_released.NotReleased.{NotReleased}
use Rattle.book_commands.specs.ChangesReply.{RepliesToChanges, changes_reply}
use Rattle.book_commands.specs.Checks.{kept_back_reply}
use Rattle.book_commands.specs.CompareReply.{IsReleased, IsKeptBack, outside_reply, comparison_reply, RepliesByDay, RepliesOver, RepliesToSecond, RepliesToTexts}
use Rattle.book_commands.specs.RunReply.{RunReply, limit_fault_reply}
use Rattle.book_commands.specs.declared.comparing.Span.{Span}
use Rattle.book_commands.proofs.TextLaws.{kept_by_refusal}

released_as : (text own : List ℕ) (r : Release) → r.text ≡ own → own ≡ text → IsRelease r → IsReleased text r.book
released_as text own r is same released = record {
  reads = sym (ap book_of (is ∙ same)) ∙ released.reads;
  releasable = released.releasable;
}

pub book_released : {E : Type 0} (text own : List ℕ) (result : Result Release E) → own ≡ text → IfOk result (λ r. r.text ≡ own) → IfOk result IsRelease → IfOk result (λ r. IsReleased text r.book)
book_released text own (Ok r) is same released = released_as text own r same is released
book_released text own (Err fail) is same released = tt

pub texts_kept_back : {E : Type 0} (first : List ℕ) (second : Option (List ℕ)) (span : Span) (budget : ℕ) (why : NotReleased) (result : Result RunReply E) → IsRefusal first budget why
    → IfOk result (λ reply. reply ≡ kept_back_reply why) → IfOk result (RepliesToTexts first second span budget)
texts_kept_back first second span budget why (Ok reply) refusal is = inl (subst (IsKeptBack first budget) (sym is) (kept_by_refusal first budget why refusal))
texts_kept_back first second span budget why (Err memory) refusal is = tt

pub texts_released : {E : Type 0} (first : List ℕ) (second : Option (List ℕ)) (span : Span) (budget : ℕ) (b : Contents) (result : Result RunReply E) → IsReleased first b
    → IfOk result (RepliesToSecond b second span budget) → IfOk result (RepliesToTexts first second span budget)
texts_released first second span budget b (Ok reply) released answer = inr (record { book = b; released = released; answer = answer })
texts_released first second span budget b (Err memory) released answer = tt

pub second_kept_back : {E : Type 0} (one : Contents) (text : List ℕ) (span : Span) (budget : ℕ) (why : NotReleased) (result : Result RunReply E) → IsRefusal text budget why
    → IfOk result (λ reply. reply ≡ kept_back_reply why) → IfOk result (RepliesToSecond one (Some text) span budget)
second_kept_back one text span budget why (Ok reply) refusal is = inl (subst (IsKeptBack text budget) (sym is) (kept_by_refusal text budget why refusal))
second_kept_back one text span budget why (Err memory) refusal is = tt

pub second_released : {E : Type 0} (one other : Contents) (text : List ℕ) (span : Span) (budget : ℕ) (result : Result RunReply E) → IsReleased text other
    → IfOk result (RepliesOver span one other budget) → IfOk result (RepliesToSecond one (Some text) span budget)
second_released one other text span budget (Ok reply) released answer = inr (record { book = other; released = released; answer = answer })
second_released one other text span budget (Err memory) released answer = tt

pub by_notes : {E : Type 0} (one other : Contents) (day budget : ℕ) (notes : List CompareNote) (result : Result RunReply E) → outside one other day ≡ None → IsComparison one other day budget notes
    → IfOk result (λ reply. reply ≡ comparison_reply notes) → IfOk result (RepliesByDay (outside one other day) one other day budget)
by_notes one other day budget notes (Ok reply) none right is =
    subst (λ (o : Option Outside). RepliesByDay o one other day budget reply) (sym none) (record { notes = notes; is_right = right; answer = is })
by_notes one other day budget notes (Err memory) none right is = tt

pub by_outside : {E : Type 0} (one other : Contents) (day budget : ℕ) (which : Outside) (result : Result RunReply E) → outside one other day ≡ Some which
    → IfOk result (λ reply. reply ≡ outside_reply which) → IfOk result (RepliesByDay (outside one other day) one other day budget)
by_outside one other day budget which (Ok reply) some is = subst (λ (o : Option Outside). RepliesByDay o one other day budget reply) (sym some) is
by_outside one other day budget which (Err memory) some is = tt

pub by_runs : {E : Type 0} (one other : Contents) (budget : ℕ) (runs : List RunNotes) (result : Result RunReply E) → IsChanges one other budget runs
    → IfOk result (λ reply. reply ≡ changes_reply one other budget runs) → IfOk result (RepliesToChanges one other budget)
by_runs one other budget runs (Ok reply) right is = inl (record { runs = runs; is_right = right; answer = is })
by_runs one other budget runs (Err memory) right is = tt

pub by_limit : {E : Type 0} (one other : Contents) (budget : ℕ) (fault : LimitFault) (result : Result RunReply E) → (slices_of one ≡ Err fault) ⊎ (slices_of other ≡ Err fault)
    → IfOk result (λ reply. reply ≡ limit_fault_reply fault) → IfOk result (RepliesToChanges one other budget)
by_limit one other budget fault (Ok reply) exceeds is = inr (record { fault = fault; exceeds = exceeds; answer = is })
by_limit one other budget fault (Err memory) exceeds is = tt
