-- What a caller is told along a whole history, by the caller's dealings alone.
use Rattle.std.proofs.Common.{◌≡◌, ℕ, Bool, true, false, not, ◌&&◌, cond, List, [], ◌∷◌, refl, sym, ap, ◌∙◌, inl, inr}
use Rattle.std.proofs.lemmas.Bool.{and_cases, and_parts, true≢false}
use Rattle.turn_book.specs.History.{end_of}
use Rattle.turn_book.specs.declared.entry.Entry.{Entry}
use Rattle.order_desk.specs.Effect.{effect}
use Rattle.order_desk.specs.Fits.{Fits}
use Rattle.order_desk.specs.History.{IsLegal, Reaches}
use Rattle.order_desk.specs.Step.{Step}
use Rattle.order_desk.specs.Tables.{Tables, State}
use Rattle.order_desk.specs.Valid.{IsValid}
use Rattle.order_desk.specs.declared.answer.Answer.{Answer}
use Rattle.order_desk.specs.declared.event.Event.{Event}
use Rattle.order_desk.specs.declared.event.Event.TheVariants as event
use Rattle.caller_laws.specs.Callers.{AreToldAlike, BeginAlike, IsAnsweredAlike, IsSeenAlone, IsToldAlone, answers_of, answers_to, changes, concerns, dealings, events_of, is_dealing, is_settled, only_reads, seen_by, tables_after, tables_due}
use Rattle.caller_laws.proofs.OwnSteps.{IsDue, Reads, answered_alike, others_unseen, own_step, unsettled_unchanged}

abbrev pub StaysValid : Type 0
StaysValid = (old new : State) (e : Event) (given : Answer) → IsValid old.tables → Fits old.tables e → Step old e given new
    → IsValid new.tables

module _ (stays_valid : StaysValid) (reads : Reads) (caller : List ℕ) where
  -- an entry that is no dealing changes nothing that the caller sees
  unseen : (old new : State) (e : Event) (given : Answer) → (concerns caller e && is_settled given) ≡ false → Step old e given new
      → seen_by caller new.tables ≡ seen_by caller old.tables
  unseen old new e given none step = elim (and_cases (concerns caller e) (is_settled given) none) [
    | inl other ↦ others_unseen reads caller old new e given other step
    | inr unsettled ↦ ap (seen_by caller) (unsettled_unchanged reads old new e given unsettled step)
  ]

  further : (start : State) (e : Entry State Event Answer) (es : List (Entry State Event Answer)) → is_dealing caller e ≡ true
      → IsDue (effect (seen_by caller start.tables) e.call) (seen_by caller start.tables) e.reply (seen_by caller e.after.tables)
      → IsToldAlone caller e.after es → IsToldAlone caller start (e ∷ es)
  further start e es is step later =
      let first : dealings caller (e ∷ es) ≡ e ∷ dealings caller es =
      ap (λ (b : Bool). cond b (e ∷ dealings caller es) (dealings caller es)) is in
      let rest : answers_of (dealings caller es) ≡ answers_to (tables_due (effect (seen_by caller start.tables) e.call) (seen_by caller start.tables)) (events_of (dealings caller es)) =
      later.told ∙ ap (λ (t : Tables). answers_to t (events_of (dealings caller es))) step.kept in
      let here : answers_of (e ∷ dealings caller es) ≡ answers_to (seen_by caller start.tables) (events_of (e ∷ dealings caller es)) =
      λ i. step.said i ∷ rest i in
      record {
        told = ap answers_of first ∙ here
            ∙ sym (ap (λ (entries : List (Entry State Event Answer)). answers_to (seen_by caller start.tables) (events_of entries)) first);
        seen = later.seen ∙ ap (λ (t : Tables). tables_after t (events_of (dealings caller es))) step.kept
            ∙ sym (ap (λ (entries : List (Entry State Event Answer)). tables_after (seen_by caller start.tables) (events_of entries)) first);
      }

  passed : (start : State) (e : Entry State Event Answer) (es : List (Entry State Event Answer)) → is_dealing caller e ≡ false
      → seen_by caller e.after.tables ≡ seen_by caller start.tables → IsToldAlone caller e.after es → IsToldAlone caller start (e ∷ es)
  passed start e es none same later =
      let out : dealings caller (e ∷ es) ≡ dealings caller es =
      ap (λ (b : Bool). cond b (e ∷ dealings caller es) (dealings caller es)) none in
      record {
        told = ap answers_of out ∙ later.told ∙ ap (λ (t : Tables). answers_to t (events_of (dealings caller es))) same
            ∙ sym (ap (λ (entries : List (Entry State Event Answer)). answers_to (seen_by caller start.tables) (events_of entries)) out);
        seen = later.seen ∙ ap (λ (t : Tables). tables_after t (events_of (dealings caller es))) same
            ∙ sym (ap (λ (entries : List (Entry State Event Answer)). tables_after (seen_by caller start.tables) (events_of entries)) out);
      }

  pub told_alone : (start : State) (history : List (Entry State Event Answer)) → IsValid start.tables → IsLegal start history
      → IsToldAlone caller start history
  told_alone start [] valid legal = record { told = refl; seen = refl }
  told_alone start (e ∷ es) valid legal =
      by (is_dealing caller e) refl (told_alone e.after es (stays_valid start e.after e.call e.reply valid legal.0 legal.1) legal.2)
    where
      by : (b : Bool) → is_dealing caller e ≡ b → IsToldAlone caller e.after es → IsToldAlone caller start (e ∷ es)
      by true is later =
          let both = and_parts (concerns caller e.call) (is_settled e.reply) is in
          further start e es is (own_step caller start e.after e.call e.reply valid both.0 legal.1 both.1) later
      by false none later = passed start e es none (unseen start e.after e.call e.reply none legal.1) later

  -- ---- by the changes alone

  read_unseen : (old new : State) (e : Event) (given : Answer) → not (only_reads e) ≡ false → Step old e given new
      → seen_by caller new.tables ≡ seen_by caller old.tables
  read_unseen old new (event.Read asked) given reading step = ap (λ (s : State). seen_by caller s.tables) (reads old new asked given step)
  read_unseen old new (event.PutDraft by_caller draft text) given reading step = absurd (true≢false reading)
  read_unseen old new (event.GiveDraft by_caller draft to) given reading step = absurd (true≢false reading)
  read_unseen old new (event.Commit by_caller draft revision released) given reading step = absurd (true≢false reading)
  read_unseen old new (event.Withdraw by_caller number) given reading step = absurd (true≢false reading)
  read_unseen old new (event.Place by_caller number order) given reading step = absurd (true≢false reading)

  pub seen_alone : (start : State) (history : List (Entry State Event Answer)) → IsValid start.tables → IsLegal start history
      → IsSeenAlone caller start history
  seen_alone start [] valid legal = refl
  seen_alone start (e ∷ es) valid legal =
      by (not (only_reads e.call) && is_dealing caller e) refl
      (seen_alone e.after es (stays_valid start e.after e.call e.reply valid legal.0 legal.1) legal.2)
    where
      by : (b : Bool) → (not (only_reads e.call) && is_dealing caller e) ≡ b → IsSeenAlone caller e.after es → IsSeenAlone caller start (e ∷ es)
      by true is later =
          let change = and_parts (not (only_reads e.call)) (is_dealing caller e) is in
          let both = and_parts (concerns caller e.call) (is_settled e.reply) change.1 in
          let step = own_step caller start e.after e.call e.reply valid both.0 legal.1 both.1 in
          let first : changes caller (e ∷ es) ≡ e ∷ changes caller es = ap (λ (b : Bool). cond b (e ∷ changes caller es) (changes caller es)) is in
          later ∙ ap (λ (t : Tables). tables_after t (events_of (changes caller es))) step.kept
          ∙ sym (ap (λ (entries : List (Entry State Event Answer)). tables_after (seen_by caller start.tables) (events_of entries)) first)
      by false none later =
          let same : seen_by caller e.after.tables ≡ seen_by caller start.tables = elim (and_cases (not (only_reads e.call)) (is_dealing caller e) none) [
            | inl reading ↦ read_unseen start e.after e.call e.reply reading legal.1
            | inr undealt ↦ unseen start e.after e.call e.reply undealt legal.1
          ] in
          let out : changes caller (e ∷ es) ≡ changes caller es = ap (λ (b : Bool). cond b (e ∷ changes caller es) (changes caller es)) none in
          later ∙ ap (λ (t : Tables). tables_after t (events_of (changes caller es))) same
          ∙ sym (ap (λ (entries : List (Entry State Event Answer)). tables_after (seen_by caller start.tables) (events_of entries)) out)

  -- ---- two histories

  pub told_alike : (one other : State) (first second : List (Entry State Event Answer)) → BeginAlike caller one other first second
      → events_of (dealings caller first) ≡ events_of (dealings caller second) → AreToldAlike caller one other first second
  told_alike one other first second begin events =
      let here = told_alone one first begin.valid begin.legal in
      let there = told_alone other second begin.other_valid begin.other_legal in
      let told : answers_to (seen_by caller one.tables) (events_of (dealings caller first))
      ≡ answers_to (seen_by caller other.tables) (events_of (dealings caller second)) = λ i. answers_to (begin.seen i) (events i) in
      let after : tables_after (seen_by caller one.tables) (events_of (dealings caller first))
      ≡ tables_after (seen_by caller other.tables) (events_of (dealings caller second)) = λ i. tables_after (begin.seen i) (events i) in
      record { told = here.told ∙ told ∙ sym there.told; seen = here.seen ∙ after ∙ sym there.seen }

  pub answered_after : ((old new : State) → Reaches old new → IsValid old.tables → IsValid new.tables) → (one other : State)
      (first second : List (Entry State Event Answer)) → BeginAlike caller one other first second
      → events_of (changes caller first) ≡ events_of (changes caller second) → (e : Event) → concerns caller e ≡ true
      → IsAnsweredAlike caller (end_of one first) (end_of other second) e
  answered_after reached one other first second begin events e own =
      let after : tables_after (seen_by caller one.tables) (events_of (changes caller first))
      ≡ tables_after (seen_by caller other.tables) (events_of (changes caller second)) = λ i. tables_after (begin.seen i) (events i) in
      answered_alike caller (end_of one first) (end_of other second) e
      (reached one (end_of one first) (first, begin.legal, refl) begin.valid)
      (reached other (end_of other second) (second, begin.other_legal, refl) begin.other_valid)
      (seen_alone one first begin.valid begin.legal ∙ after ∙ sym (seen_alone other second begin.other_valid begin.other_legal)) own
