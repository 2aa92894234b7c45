-- What is known at each stage of a certificate without fault, and what its end proves of the book.
use Rattle.std.proofs.Common.{◌≡◌, ℕ, suc, ◌+◌, ◌-◌, ◌<◌, Bool, true, false, cond, eqb, ltb, ◌&&◌, List, [], ◌∷◌, ◌++◌, Option, None, Some, Result, Ok, Err, length, inl, inr, refl, sym, ap, subst, ◌∙◌, arith, append_assoc, append-nil}
use Rattle.std.specs.List.{slice_get, flat_map, AllByRecursion}
use Rattle.std.proofs.lemmas.Bool.{false≢true, eqb-true, cases_eq}
use Rattle.std.proofs.lemmas.Option.{slice_get_within}
use Rattle.pb_base.specs.Names.{same_name}
use Rattle.pb_base.specs.NamedSet.{set_of_names}
use Rattle.pb_base.specs.Results.{and_then, unless}
use Rattle.pb_base.specs.declared.named_set.NameFault.{NameFault}
use Rattle.book_model.specs.Contents.{Contents}
use Rattle.book_model.specs.Book.{IsBook}
use Rattle.book_model.specs.Good.{is_good}
use Rattle.book_model.specs.Sound.{IsReleasable}
use Rattle.book_model.specs.Slices.{days_in, days_of, IsSteady}
use Rattle.book_model.specs.declared.record.Slice.{Slice}
use Rattle.book_model.proofs.DaysAlike.{slice_of, good_alike, sound_alike}
use Rattle.clause_pool.specs.Clause.{Follows}
use Rattle.clause_pool.specs.Chain.{chain}
use Rattle.clause_pool.specs.declared.chain.Pair.{Pair}
use Rattle.clause_pool.specs.declared.chain.StepFault.{StepFault}
use Rattle.clause_pool.proofs.ChainLaws.{Follows-chain, Follows-cut, Follows-given}
use Rattle.clause_pool.proofs.ClauseLaws.{all_found}
use Rattle.clausify.specs.Coded.{slice_clauses, slice_asked}
use Rattle.clausify.proofs.ListLaws.{all-append}
use Rattle.clausify.proofs.QuestionLaws.{asked_in_order}
use Rattle.clausify.proofs.SliceLaws.{codes_good_sets}
use Rattle.derivation.specs.declared.closing.ToClose.{ToClose}
use Rattle.derivation.specs.declared.fault.CertKind.{CertKind}
use Rattle.derivation.specs.declared.fault.CertKind.TheVariants.{Syntax, WrongBook, NotClosed, BadSet}
use Rattle.derivation.specs.declared.fault.Certified.{Certified}
use Rattle.derivation.specs.After.{after, after_head, after_name, after_slices, after_number, after_within, next_slice, is_good_set, opened, good_then, with_clause, closes, closed_by, close_next, first_left, end_behind}
use Rattle.derivation.specs.CertLine.{CertLine, head_line, book_line, slice_line, set_line, step_line, close_line, end_line, cert_line}
use Rattle.derivation.specs.Certificate.{at_line, line_at, is_step, taken_as, taken_line, after_last, with_line, read_lines, read_cert}
use Rattle.derivation.specs.Pieces.{pieces}
use Rattle.derivation.specs.Stage.{SliceSoFar, Stage, at_head, at_book, at_slices, at_set, within, at_end, to_close}
use Rattle.derivation.proofs.Refuted.{IsClosed, AllRefuted, all_refuted}
use Rattle.derivation.proofs.Fit.{sound_from_refuted}

-- some set is good on the day, and each of its questions that has to be closed is closed
pub record IsDone (b : Contents) (day : ℕ) : Type 0 where
  pub set : List Bool
  pub is_good_then : is_good b day set ≡ true
  pub closed : AllByRecursion (IsClosed (slice_clauses b day)) (to_close 0 (slice_asked b day))

-- the slices before a place are done
abbrev pub AreDone : Contents → List Slice → ℕ → Type 0
AreDone b slices k = (j : ℕ) (s : Slice) → j < k → slice_get slices j ≡ Some s → IsDone b s.first

record IsUnderWay (b : Contents) (slices : List Slice) (w : SliceSoFar) : Type 0 where
  before : AreDone b slices w.slice
  slice : Slice
  is_its : slice_get slices w.slice ≡ Some slice
  set : List Bool
  is_good_then : is_good b slice.first set ≡ true
  follow : AllByRecursion (Follows (slice_clauses b slice.first)) w.clauses
  done : List ToClose
  parts : to_close 0 (slice_asked b slice.first) ≡ done ++ w.left
  closed : AllByRecursion (IsClosed (slice_clauses b slice.first)) done

abbrev Holds : Contents → List Slice → Stage → Type 0
Holds b slices at_head = Unit {0}
Holds b slices at_book = Unit {0}
Holds b slices at_slices = Unit {0}
Holds b slices (at_set k) = AreDone b slices k
Holds b slices (within w) = IsUnderWay b slices w
Holds b slices at_end = AreDone b slices (length slices)

-- an answer that is Ok comes of the branch that isn't a refusal
ok_if : {A E : Type 0} (t : Bool) (r : Result A E) (e : E) (v : A) → cond t r (Err e) ≡ Ok v → (t ≡ true) × (r ≡ Ok v)
ok_if true r e v h = (refl, h)
ok_if false r e v h = absurd (cc)

abbrev ok_at : Stage → Result Stage CertKind
ok_at stage = Ok stage

same_stage : (s t : Stage) → ok_at s ≡ ok_at t → s ≡ t
same_stage s t h = cc

no_more : (left : List ToClose) (next behind : Stage) → unless (first_left left) (Ok next) ≡ Ok behind → (left ≡ []) × (next ≡ behind)
no_more [] next behind h = (refl, same_stage next behind h)
no_more (w ∷ ws) next behind h = absurd (cc)

some_set : (b : Contents) (day : ℕ) (r : Result (List Bool) NameFault) → is_good_set b day r ≡ true → (x : List Bool) × (is_good b day x ≡ true)
some_set b day (Err fault) h = absurd (false≢true h)
some_set b day (Ok x) h = (x, h)

holds_good_then : (b : Contents) (slices : List Slice) (k : ℕ) (o : Option Slice) (names : List (List ℕ)) (behind : Stage) → slice_get slices k ≡ o → AreDone b slices k
    → good_then b k o names ≡ Ok behind → Holds b slices behind
holds_good_then b slices k None names behind is before h = absurd (cc)
holds_good_then b slices k (Some s) names behind is before h =
    let good = ok_if (is_good_set b s.first (set_of_names b.codes names)) (Ok (within (opened b s.first k))) (BadSet k) behind h in
    let x = some_set b s.first (set_of_names b.codes names) good.0 in
    subst (Holds b slices) (same_stage (within (opened b s.first k)) behind good.1)
    (record {
      before = before;
      slice = s;
      is_its = is;
      set = x.0;
      is_good_then = x.1;
      follow = Follows-given (slice_clauses b s.first);
      done = [];
      parts = refl;
      closed = tt;
    })

holds_with_clause : (b : Contents) (slices : List Slice) (w : SliceSoFar) (start : ℕ) (pairs : List Pair) (r : Result (List ℕ) StepFault) (behind : Stage) → IsUnderWay b slices w
    → chain w.clauses start pairs ≡ r → with_clause w r ≡ Ok behind → Holds b slices behind
holds_with_clause b slices w start pairs (Err fault) behind way is h = absurd (cc)
holds_with_clause b slices w start pairs (Ok clause) behind way is h =
    subst (Holds b slices) (same_stage (within (record w { clauses = w.clauses ++ clause ∷ [] })) behind h)
    (record {
      before = way.before;
      slice = way.slice;
      is_its = way.is_its;
      set = way.set;
      is_good_then = way.is_good_then;
      follow = all-append (Follows (slice_clauses b way.slice.first)) w.clauses (clause ∷ []) way.follow
          (Follows-cut (slice_clauses b way.slice.first) w.clauses clause way.follow (Follows-chain w.clauses start pairs clause is), tt);
      done = way.done;
      parts = way.parts;
      closed = way.closed;
    })

holds_closed_by : (b : Contents) (slices : List Slice) (w : SliceSoFar) (next : ToClose) (left : List ToClose) (k : ℕ) (o : Option (List ℕ)) (behind : Stage) → IsUnderWay b slices w
    → w.left ≡ next ∷ left → slice_get w.clauses k ≡ o → closed_by w next left o ≡ Ok behind → Holds b slices behind
holds_closed_by b slices w next left k None behind way waits is h = absurd (cc)
holds_closed_by b slices w next left k (Some clause) behind way waits is h =
    let fits = ok_if (closes next.goal clause) (Ok (within (record w { left = left }))) (NotClosed next.question) behind h in
    subst (Holds b slices) (same_stage (within (record w { left = left })) behind fits.1)
    (record {
      before = way.before;
      slice = way.slice;
      is_its = way.is_its;
      set = way.set;
      is_good_then = way.is_good_then;
      follow = way.follow;
      done = way.done ++ next ∷ [];
      parts = way.parts ∙ ap (λ l. way.done ++ l) waits ∙ sym (append_assoc way.done (next ∷ []) left);
      closed = all-append (IsClosed (slice_clauses b way.slice.first)) way.done (next ∷ []) way.closed
          (record { clause = clause; follows = all_found (Follows (slice_clauses b way.slice.first)) w.clauses k clause way.follow is; closes_it = fits.0 }, tt);
    })

holds_close_next : (b : Contents) (slices : List Slice) (w : SliceSoFar) (left : List ToClose) (question clause : ℕ) (behind : Stage) → IsUnderWay b slices w
    → w.left ≡ left → close_next w left question clause ≡ Ok behind → Holds b slices behind
holds_close_next b slices w [] question clause behind way is h = absurd (cc)
holds_close_next b slices w (next ∷ left) question clause behind way is h =
    let right = ok_if (eqb question next.question) (closed_by w next left (slice_get w.clauses clause)) (NotClosed next.question) behind h in
    holds_closed_by b slices w next left clause (slice_get w.clauses clause) behind way is refl right.1

-- a slice with nothing left to close is done, and so are all up to it
done_with : (b : Contents) (slices : List Slice) (w : SliceSoFar) → IsUnderWay b slices w → w.left ≡ [] → AreDone b slices (w.slice + 1)
done_with b slices w way none j s below is =
    elim (cases_eq j w.slice) [
      | inl here ↦
          let same : way.slice ≡ s = let e : Some way.slice ≡ Some s = sym way.is_its ∙ ap (slice_get slices) (sym here) ∙ is in cc in
          subst (λ t. IsDone b t.first) same
          (record {
            set = way.set;
            is_good_then = way.is_good_then;
            closed = subst (AllByRecursion (IsClosed (slice_clauses b way.slice.first))) (sym (way.parts ∙ ap (λ l. way.done ++ l) none ∙ append-nil way.done)) way.closed;
          })
      | inr other ↦ way.before j s (omega arith) is
    ]

holds_next : (b : Contents) (slices : List Slice) (w : SliceSoFar) (number : ℕ) (behind : Stage) → IsUnderWay b slices w
    → next_slice (length slices) (w.slice + 1) (first_left w.left) number ≡ Ok behind → Holds b slices behind
holds_next b slices w number behind way h =
    let form = ok_if (eqb number (w.slice + 1) && ltb (w.slice + 1) (length slices)) (unless (first_left w.left) (Ok (at_set (w.slice + 1)))) Syntax behind h in
    let none = no_more w.left (at_set (w.slice + 1)) behind form.1 in
    subst (Holds b slices) none.1 (done_with b slices w way none.0)

holds_end : (b : Contents) (slices : List Slice) (w : SliceSoFar) (behind : Stage) → IsUnderWay b slices w → end_behind (length slices) (w.slice + 1) (first_left w.left) ≡ Ok behind → Holds b slices behind
holds_end b slices w behind way h =
    let form = ok_if (eqb (w.slice + 1) (length slices)) (unless (first_left w.left) (Ok at_end)) Syntax behind h in
    let none = no_more w.left at_end behind form.1 in
    subst (Holds b slices) none.1 (subst (AreDone b slices) (eqb-true (w.slice + 1) (length slices) form.0) (done_with b slices w way none.0))

holds_within : (b : Contents) (slices : List Slice) (w : SliceSoFar) (line : CertLine) (behind : Stage) → IsUnderWay b slices w → after_within (length slices) w line ≡ Ok behind → Holds b slices behind
holds_within b slices w (step_line start pairs) behind way h = holds_with_clause b slices w start pairs (chain w.clauses start pairs) behind way refl h
holds_within b slices w (close_line question clause) behind way h = holds_close_next b slices w w.left question clause behind way refl h
holds_within b slices w (slice_line number) behind way h = holds_next b slices w number behind way h
holds_within b slices w end_line behind way h = holds_end b slices w behind way h
holds_within b slices w head_line behind way h = absurd (cc)
holds_within b slices w (book_line name count) behind way h = absurd (cc)
holds_within b slices w (set_line names) behind way h = absurd (cc)

holds_head : (b : Contents) (slices : List Slice) (line : CertLine) (behind : Stage) → after_head line ≡ Ok behind → Holds b slices behind
holds_head b slices head_line behind h = subst (Holds b slices) (same_stage at_book behind h) tt
holds_head b slices (book_line name count) behind h = absurd (cc)
holds_head b slices (slice_line number) behind h = absurd (cc)
holds_head b slices (set_line names) behind h = absurd (cc)
holds_head b slices (step_line start pairs) behind h = absurd (cc)
holds_head b slices (close_line question clause) behind h = absurd (cc)
holds_head b slices end_line behind h = absurd (cc)

holds_name : (b : Contents) (slices : List Slice) (line : CertLine) (behind : Stage) → after_name b (length slices) line ≡ Ok behind → Holds b slices behind
holds_name b slices head_line behind h = absurd (cc)
holds_name b slices (book_line name count) behind h =
    subst (Holds b slices) (same_stage at_slices behind (ok_if (same_name name b.name && eqb count (length slices)) (Ok at_slices) WrongBook behind h).1) tt
holds_name b slices (slice_line number) behind h = absurd (cc)
holds_name b slices (set_line names) behind h = absurd (cc)
holds_name b slices (step_line start pairs) behind h = absurd (cc)
holds_name b slices (close_line question clause) behind h = absurd (cc)
holds_name b slices end_line behind h = absurd (cc)

holds_slices : (b : Contents) (slices : List Slice) (line : CertLine) (behind : Stage) → after_slices (length slices) line ≡ Ok behind → Holds b slices behind
holds_slices b slices head_line behind h = absurd (cc)
holds_slices b slices (book_line name count) behind h = absurd (cc)
holds_slices b slices (slice_line number) behind h =
    let form = ok_if (eqb number 0 && ltb 0 (length slices)) (Ok (at_set 0)) Syntax behind h in
    subst (Holds b slices) (same_stage (at_set 0) behind form.1) (λ j s below is. absurd (omega arith))
holds_slices b slices (set_line names) behind h = absurd (cc)
holds_slices b slices (step_line start pairs) behind h = absurd (cc)
holds_slices b slices (close_line question clause) behind h = absurd (cc)
holds_slices b slices end_line behind h = absurd (cc)

holds_number : (b : Contents) (slices : List Slice) (k : ℕ) (line : CertLine) (behind : Stage) → AreDone b slices k → after_number b slices k line ≡ Ok behind → Holds b slices behind
holds_number b slices k head_line behind before h = absurd (cc)
holds_number b slices k (book_line name count) behind before h = absurd (cc)
holds_number b slices k (slice_line number) behind before h = absurd (cc)
holds_number b slices k (set_line names) behind before h = holds_good_then b slices k (slice_get slices k) names behind refl before h
holds_number b slices k (step_line start pairs) behind before h = absurd (cc)
holds_number b slices k (close_line question clause) behind before h = absurd (cc)
holds_number b slices k end_line behind before h = absurd (cc)

holds_after : (b : Contents) (slices : List Slice) (stage : Stage) (line : CertLine) (behind : Stage) → Holds b slices stage → after b slices stage line ≡ Ok behind → Holds b slices behind
holds_after b slices at_head line behind k h = holds_head b slices line behind h
holds_after b slices at_book line behind k h = holds_name b slices line behind h
holds_after b slices at_slices line behind k h = holds_slices b slices line behind h
holds_after b slices (at_set n) line behind k h = holds_number b slices n line behind k h
holds_after b slices (within w) line behind k h = holds_within b slices w line behind k h
holds_after b slices at_end line behind k h = absurd (cc)

-- what goes on from an answer comes of a value
value_of : {A B E : Type 0} (r : Result A E) (more : A → Result B E) (v : B) → and_then r more ≡ Ok v → (x : A) × (r ≡ Ok x) × (more x ≡ Ok v)
value_of (Ok x) more v h = (x, refl, h)
value_of (Err e) more v h = absurd (cc)

no_fault_at : {A : Type 0} (n : ℕ) (r : Result A CertKind) (x : A) → at_line n r ≡ Ok x → r ≡ Ok x
no_fault_at n (Ok y) x h = let same : y ≡ x = cc in ap (λ z. Ok z) same
no_fault_at n (Err kind) x h = absurd (cc)

abbrev ok_taken : Stage × Bool → Result (Stage × Bool) CertKind
ok_taken taken = Ok taken

same_taken : (s t : Stage × Bool) → ok_taken s ≡ ok_taken t → s ≡ t
same_taken s t h = cc

holds_taken : (b : Contents) (slices : List Slice) (stage : Stage) (line : Option CertLine) (taken : Stage × Bool) → Holds b slices stage → taken_line b slices stage line ≡ Ok taken → Holds b slices taken.0
holds_taken b slices stage line taken k h =
    let read = value_of (line_at stage line) (λ l. and_then (after b slices stage l) (taken_as (is_step l))) taken h in
    let done = value_of (after b slices stage read.0) (taken_as (is_step read.0)) taken read.2 in
    let same : done.0 ≡ taken.0 = ap (λ r. r.0) (same_taken (done.0, is_step read.0) taken done.2) in
    subst (Holds b slices) same (holds_after b slices stage read.0 done.0 k done.1)

done_at_last : (b : Contents) (slices : List Slice) (stage : Stage) (so_far c : Certified) (rest : List ℕ) → Holds b slices stage
    → after_last so_far stage rest ≡ Ok c → AreDone b slices (length slices)
done_at_last b slices at_end so_far c [] k h = k
done_at_last b slices at_end so_far c (x ∷ xs) k h = absurd (cc)
done_at_last b slices at_head so_far c rest k h = absurd (cc)
done_at_last b slices at_book so_far c rest k h = absurd (cc)
done_at_last b slices at_slices so_far c rest k h = absurd (cc)
done_at_last b slices (at_set n) so_far c rest k h = absurd (cc)
done_at_last b slices (within w) so_far c rest k h = absurd (cc)

done_at_end : (b : Contents) (slices : List Slice) (stage : Stage) (n : ℕ) (so_far c : Certified) (texts : List (List ℕ)) → Holds b slices stage
    → read_lines b slices stage n so_far texts ≡ Ok c → AreDone b slices (length slices)
done_at_end b slices stage n so_far c [] k h = absurd (cc)
done_at_end b slices stage n so_far c (rest ∷ []) k h = done_at_last b slices stage so_far c rest k (no_fault_at n (after_last so_far stage rest) c h)
done_at_end b slices stage n so_far c (text ∷ next ∷ texts) k h =
    let taken = value_of (at_line n (taken_line b slices stage (cert_line text))) (λ taken. read_lines b slices taken.0 (n + 1) (with_line so_far taken.1) (next ∷ texts)) c h in
    let line = no_fault_at n (taken_line b slices stage (cert_line text)) taken.0 taken.1 in
    done_at_end b slices taken.0.0 (n + 1) (with_line so_far taken.0.1) c (next ∷ texts) (holds_taken b slices stage (cert_line text) taken.0 k line) taken.2

-- A book can be released where its term is parted into slices that are done.
pub releasable_when_done : (b : Contents) (slices : List Slice) → IsBook b → flat_map days_in slices ≡ days_of b → ((k : ℕ) (s : Slice) → slice_get slices k ≡ Some s → IsSteady b s)
    → AreDone b slices (length slices) → IsReleasable b
releasable_when_done b slices book parts steady done = record {
  not_void = λ day from until.
      let s = slice_of b slices b.first (suc (b.last - b.first)) day parts steady from (omega arith) in
      let d = done s.place s.slice (slice_get_within slices s.place s.slice s.is_there) s.is_there in
      (d.set, good_alike b day s.slice.first d.set s.alike ∙ d.is_good_then);
  sound = λ day from until x good.
      let s = slice_of b slices b.first (suc (b.last - b.first)) day parts steady from (omega arith) in
      let d = done s.place s.slice (slice_get_within slices s.place s.slice s.is_there) s.is_there in
      let lift = (codes_good_sets b s.slice.first book).lifts x (sym (good_alike b day s.slice.first x s.alike) ∙ good) in
      sound_alike b day s.slice.first x s.alike
      ∙ sound_from_refuted b s.slice.first x
      (subst (AllRefuted b s.slice.first x) (asked_in_order b s.slice.first) (all_refuted b s.slice.first x lift.0 (slice_clauses b s.slice.first) 0 (slice_asked b s.slice.first) lift.1.satisfies d.closed lift.1.goals));
}

pub releasable_when_read : (b : Contents) (slices : List Slice) (text : List ℕ) (c : Certified) → IsBook b → flat_map days_in slices ≡ days_of b
    → ((k : ℕ) (s : Slice) → slice_get slices k ≡ Some s → IsSteady b s) → read_cert b text slices ≡ Ok c → IsReleasable b
releasable_when_read b slices text c book parts steady h =
    releasable_when_done b slices book parts steady (done_at_end b slices at_head 1 (record { slices = length slices; steps = 0 }) c (pieces 10 text) tt h)
