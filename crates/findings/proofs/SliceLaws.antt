-- What is known of a slice's clauses and questions, and what its notes are put together of.
use Rattle.std.proofs.Common.{◌≡◌, ℕ, suc, ◌*◌, ◌<◌, ◌≤◌, Bool, true, false, cond, List, [], ◌∷◌, ◌++◌, Option, Some, None, Result, Ok, Err, IfOk, All, length, drop, get_or, refl, sym, ap, subst, ◌∙◌, arith}
use Rattle.std.specs.List.{filter, list_any, slice_get}
use Rattle.std.specs.Result.{OnOk}
use Rattle.std.proofs.lemmas.Bool.{false≢true, or_left, cond_both}
use Rattle.std.proofs.lemmas.List.{take_all}
use Rattle.std.proofs.lemmas.Option.{slice_get-get_or}
use Rattle.pb_base.specs.InParts.{InParts}
use Rattle.book_model.specs.Contents.{Contents}
use Rattle.book_model.specs.declared.record.Slice.{Slice}
use Rattle.clause_pool.proofs.ClauseLaws.{all_found}
use Rattle.clause_pool.specs.Derivation.{Derivation, kernel_of}
use Rattle.clausify.specs.Coded.{IsCoded, slice_clauses, slice_variables, slice_asked}
use Rattle.clausify.specs.Goals.{void_asked}
use Rattle.clausify.specs.Lifting.{CodesGoodSets, CodesSlice, DecidesEach, IsMet}
use Rattle.clausify.specs.Questions.{HasSet, QuestionFits}
use Rattle.clausify.specs.Ranges.{IsInRange}
use Rattle.clausify.specs.declared.question.Asked.{Asked}
use Rattle.clausify.specs.declared.question.Coded.{Coded}
use Rattle.clausify.specs.declared.question.Question.TheVariants.{Void}
use Rattle.derivation.specs.Showing.{StandsOver, AllClosed, ShowsSlice}
use Rattle.derivation.specs.Stage.{to_close}
use Rattle.derivation.specs.declared.closing.Closing.{Closing}
use Rattle.chains.specs.Growth.{Extends}
use Rattle.solver.specs.Solver.{Solving}
use Rattle.findings.specs.Findings.{MeetsThrough}
use Rattle.findings.specs.Notes.{Inquiry, OwnNotes, IsNoteOf, SliceNotes, is_asked}
use Rattle.findings.specs.Answering.{SliceFacts, IsAsked, IsOver, AreTold, ShowsUnlessStopped, proof_in, stops}
use Rattle.findings.specs.declared.slice.Shown.{Shown}
use Rattle.findings.specs.declared.slice.SliceCheck.{SliceCheck}
use Rattle.findings.specs.declared.slice.SliceTold.{SliceTold}
use Rattle.findings.specs.declared.outcome.Told.{Told}
use Rattle.findings.proofs.Lifting.{on_first, has_from_meets}
use Rattle.findings.specs.declared.report.Note.{Note}
use Rattle.findings.specs.declared.report.Note.TheVariants.{Days}

pub slice_facts : (b : Contents) (s : Slice) (c : Coded) → s.first ≤ s.last → IsCoded b s.first c → CodesSlice b s c → DecidesEach b s c → SliceFacts b s
slice_facts b s c order coded sets decides = record {
  order = order;
  on_each_day = λ day within.
      subst (λ (cs : List (List ℕ)). CodesGoodSets b day cs (slice_variables b s.first) (slice_asked b s.first)) coded.clauses
      (subst (λ (n : ℕ). CodesGoodSets b day c.pool.clauses n (slice_asked b s.first)) coded.variables
      (subst (λ (qs : List Asked). CodesGoodSets b day c.pool.clauses c.vars qs) coded.asked (sets.on_each_day day within)));
  decides = λ k a is.
      let h = decides k a (ap (λ (qs : List Asked). slice_get qs k) coded.asked ∙ is) in
      ((λ has. subst (λ (cs : List (List ℕ)). IsMet cs a.goal) coded.clauses (h.0 has)), (λ met. h.1 (subst (λ (cs : List (List ℕ)). IsMet cs a.goal) (sym coded.clauses) met)));
}

behind_first : (xs : List Asked) (k : ℕ) (x : Asked) → slice_get (drop 1 xs) k ≡ Some x → slice_get xs (suc k) ≡ Some x
behind_first [] k x h = let none : None ≡ Some x = h in absurd (cc)
behind_first (y ∷ xs) k x h = h

-- each question behind Void is one of the slice, and names what is in the book
pub asked_each : (b : Contents) (s : Slice) (c : Coded) → IsCoded b s.first c → IsInRange b c → All (IsAsked b s) (drop 1 c.questions.items)
asked_each b s c coded ranges k d within =
    let a : Asked = get_or (drop 1 c.questions.items) k d in
    let here : slice_get (drop 1 c.questions.items) k ≡ Some a = slice_get-get_or (drop 1 c.questions.items) k d within in
    let there : slice_get c.questions.items (suc k) ≡ Some a = behind_first c.questions.items k a here in
    record {
      number = suc k;
      is_its = ap (λ (qs : List Asked). slice_get qs (suc k)) (sym coded.asked) ∙ there;
      below = subst (λ (n : ℕ). a.goal < 2 * n) coded.variables (all_found (λ (q : Asked). q.goal < 2 * c.vars) c.questions.items (suc k) a ranges.goals_below there);
      fits = all_found (λ (q : Asked). QuestionFits b q.question) (drop 1 c.questions.items) k a ranges.later_fit here;
    }

-- a slice with a good set, of which the questions behind Void have these notes
pub notes_with_set : (i : Inquiry) (s : Slice) (notes : List Note) → HasSet i.book s Void
    → InParts (OwnNotes i s) (filter (λ a. is_asked i.ask a.question) (drop 1 (slice_asked i.book s.first))) notes → SliceNotes i s (Days s.first s.last ∷ notes)
notes_with_set i s notes has parts =
    (refl, ([], notes, refl, record { no_fault = λ must. absurd (false≢true must); some_set = λ _. has }, parts))

-- a slice with a note on Void
pub notes_void : (i : Inquiry) (s : Slice) (note : Note) → IsNoteOf i s (void_asked (length i.book.codes)) note → SliceNotes i s (Days s.first s.last ∷ note ∷ [])
notes_void i s note h = (refl, (note ∷ [], [], refl, h, refl))

-- the closings of the questions behind Void are all closings
pub closed_all : (b : Contents) (s : Slice) (clauses : List (List ℕ)) (closings : List Closing) → AllClosed clauses (to_close 1 (drop 1 (slice_asked b s.first))) closings
    → AllClosed clauses (to_close 0 (slice_asked b s.first)) closings
closed_all b s clauses closings h = h

-- a kernel that only derived further clauses stands over the same given ones
pub stands_over : (clauses : List (List ℕ)) (old new : Derivation) → StandsOver clauses old → Extends old new → StandsOver clauses new
stands_over clauses old new h more = record { number = more.same_number ∙ h.number; given = more.same_given ∙ h.given }

stops_own : (s : Slice) (own : List Note) → list_any stops (Days s.first s.last ∷ own) ≡ list_any stops own
stops_own s own = refl

-- the notes of a slice with a good set, and what they come to
pub stops_told : (s : Slice) (head notes own : List Note) → head ≡ Days s.first s.last ∷ [] → notes ≡ head ++ own → list_any stops notes ≡ list_any stops own
stops_told s head notes own first all =
    ap (list_any stops) (all ∙ ap (λ (l : List Note). l ++ own) first) ∙ stops_own s own

pub slice_told : (i : Inquiry) (s : Slice) (later : List Asked) (x : List Bool) (head notes : List Note) (told : Told) (clauses : List (List ℕ))
    → s.first ≤ s.last → MeetsThrough i.book s Void x → later ≡ drop 1 (slice_asked i.book s.first) → AreTold i s later told clauses
    → head ≡ Days s.first s.last ∷ [] → notes ≡ head ++ told.notes.items → SliceNotes i s notes
slice_told i s later x head notes told clauses order met are h first all =
    subst (SliceNotes i s) (sym (all ∙ ap (λ (l : List Note). l ++ told.notes.items) first))
    (notes_with_set i s told.notes.items (has_from_meets i.book s Void x order met)
    (subst (λ (qs : List Asked). InParts (OwnNotes i s) (filter (λ (a : Asked). is_asked i.ask a.question) qs) told.notes.items) are h.notes))

slice_shown : (i : Inquiry) (s : Slice) (later : List Asked) (x : List Bool) (told : Told) (k : Derivation)
    → s.first ≤ s.last → MeetsThrough i.book s Void x → length x ≡ length i.book.codes → later ≡ drop 1 (slice_asked i.book s.first)
    → StandsOver (slice_clauses i.book s.first) k → AreTold i s later told k.clauses → list_any stops told.notes.items ≡ false
    → ShowsSlice i.book s (record { set = x; kernel = k; closed = told.closed })
slice_shown i s later x told k order met counted are over h free = record {
  kernel = over;
  codes = counted;
  good = met.good_then s.first (on_first s order);
  closed =
      closed_all i.book s k.clauses told.closed.items
      (subst (λ (qs : List Asked). AllClosed k.clauses (to_close 1 qs) told.closed.items) are (h.closed free));
}

pub void_below : (b : Contents) (c : Coded) → IsInRange b c → (void_asked (length b.codes)).goal < 2 * c.vars
void_below b c ranges = all_found (λ (q : Asked). q.goal < 2 * c.vars) c.questions.items 0 (void_asked (length b.codes)) ranges.goals_below ranges.void_first

-- a fresh kernel stands over its clauses
pub over_kernel : (clauses : List (List ℕ)) (kernel : Derivation) → kernel ≡ kernel_of clauses → StandsOver clauses kernel
over_kernel clauses kernel is =
    subst (StandsOver clauses) (sym is) (record { number = refl; given = take_all (length clauses) clauses (omega arith) })

-- a solver that was begun over the clauses of a slice
pub over_begun : (b : Contents) (s : Slice) (clauses : List (List ℕ)) (vars : ℕ) (solving : Solving) → clauses ≡ slice_clauses b s.first → vars ≡ slice_variables b s.first
    → StandsOver clauses solving.kernel → solving.vars ≡ vars → solving.codes ≡ length b.codes → IsOver b s solving
over_begun b s clauses vars solving are count over counted codes = record {
  stands = subst (λ (cs : List (List ℕ)). StandsOver cs solving.kernel) are over;
  variables = counted ∙ count;
  codes = codes;
}

-- of a call that answers the notes of a slice of which only Void was asked
pub void_notes : {E : Type 0} (i : Inquiry) (s : Slice) (r : Result SliceTold E) (note : Note) → IsNoteOf i s (void_asked (length i.book.codes)) note
    → IfOk r (λ t. t.notes.items ≡ Days s.first s.last ∷ note ∷ []) → IfOk r (λ t. SliceNotes i s t.notes.items)
void_notes i s (Ok t) note h is = subst (SliceNotes i s) (sym is) (notes_void i s note h)
void_notes i s (Err e) note h is = tt

pub void_stops : {E : Type 0} (s : Slice) (r : Result SliceTold E) (note : Note) → stops note ≡ true
    → IfOk r (λ t. t.notes.items ≡ Days s.first s.last ∷ note ∷ []) → IfOk r (λ t. list_any stops t.notes.items ≡ true)
void_stops s (Ok t) note stop is = ap (list_any stops) is ∙ or_left (stops note) false stop
void_stops s (Err e) note stop is = tt

-- where some note stops the release nothing is shown
pub void_shown : {E : Type 0} (b : Contents) (s : Slice) (k : Derivation) (r : Result SliceTold E) → IfOk r (λ t. list_any stops t.notes.items ≡ true)
    → IfOk r (λ t. t.shown ≡ None) → IfOk r (λ t. ShowsUnlessStopped b s t.notes.items (proof_in k t.shown))
void_shown b s k (Ok t) stop none = subst (λ (o : Option Shown). ShowsUnlessStopped b s t.notes.items (proof_in k o)) (sym none) stop
void_shown b s k (Err e) stop none = tt

-- of a call that answers the notes of a slice with a good set, and what is shown unless one of them stops the release
pub later_told : {E : Type 0} (i : Inquiry) (s : Slice) (later : List Asked) (x : List Bool) (told : Told) (clauses : List (List ℕ)) (r : Result SliceTold E)
    → s.first ≤ s.last → MeetsThrough i.book s Void x → later ≡ drop 1 (slice_asked i.book s.first) → AreTold i s later told clauses
    → IfOk r (λ t. t.notes.items ≡ Days s.first s.last ∷ told.notes.items) → IfOk r (λ t. SliceNotes i s t.notes.items)
later_told i s later x told clauses (Ok t) order met are h is =
    slice_told i s later x (Days s.first s.last ∷ []) t.notes.items told clauses order met are h refl is
later_told i s later x told clauses (Err e) order met are h is = tt

pub later_shown : {E : Type 0} (i : Inquiry) (s : Slice) (later : List Asked) (x : List Bool) (told : Told) (k : Derivation) (r : Result SliceTold E)
    → s.first ≤ s.last → MeetsThrough i.book s Void x → length x ≡ length i.book.codes → later ≡ drop 1 (slice_asked i.book s.first)
    → StandsOver (slice_clauses i.book s.first) k → AreTold i s later told k.clauses
    → IfOk r (λ t. t.notes.items ≡ Days s.first s.last ∷ told.notes.items)
    → IfOk r (λ t. t.shown ≡ cond (list_any stops told.notes.items) None (Some (record { set = x; closed = told.closed })))
    → IfOk r (λ t. ShowsUnlessStopped i.book s t.notes.items (proof_in k t.shown))
later_shown i s later x told k (Ok t) order met counted are over h notes is =
    subst (λ (o : Option Shown). ShowsUnlessStopped i.book s t.notes.items (proof_in k o)) (sym is)
    (cond_both (list_any stops told.notes.items) None (Some (record { set = x; closed = told.closed })) (λ (o : Option Shown). ShowsUnlessStopped i.book s t.notes.items (proof_in k o))
    (λ stop. ap (list_any stops) notes ∙ stop)
    (λ free. (
      ap (list_any stops) notes ∙ free,
      slice_shown i s later x told k order met counted are over h free,
    )))
later_shown i s later x told k (Err e) order met counted are over h notes is = tt

-- what holds in any case holds where a call answers
pub on_ok : {A E : Type 0} (r : Result A E) (P : Type 0) → P → OnOk r P
on_ok (Ok a) P p = p
on_ok (Err e) P p = tt

-- the same with the kernel
pub concluded_notes : {E : Type 0} (i : Inquiry) (s : Slice) (told : SliceTold) (r : Result SliceCheck E) → SliceNotes i s told.notes.items
    → IfOk r (λ c. c.notes ≡ told.notes) → IfOk r (λ c. SliceNotes i s c.notes.items)
concluded_notes i s told (Ok c) h is = subst (λ notes. SliceNotes i s notes.items) (sym is) h
concluded_notes i s told (Err e) h is = tt

pub concluded_proof : {E : Type 0} (b : Contents) (s : Slice) (k : Derivation) (told : SliceTold) (r : Result SliceCheck E)
    → ShowsUnlessStopped b s told.notes.items (proof_in k told.shown) → IfOk r (λ c. c.notes ≡ told.notes) → IfOk r (λ c. c.proof ≡ proof_in k told.shown)
    → IfOk r (λ c. ShowsUnlessStopped b s c.notes.items c.proof)
concluded_proof b s k told (Ok c) h notes proof =
    subst (ShowsUnlessStopped b s c.notes.items) (sym proof)
    (subst (λ own. ShowsUnlessStopped b s own.items (proof_in k told.shown)) (sym notes) h)
concluded_proof b s k told (Err e) h notes proof = tt
