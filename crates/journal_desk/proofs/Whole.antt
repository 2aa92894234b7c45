-- What a start finds after a stop at any moment of a run.
use Rattle.std.proofs.Common.{◌≡◌, ◌⊎◌, inl, inr, ℕ, true, false, List, [], ◌∷◌, ◌++◌, Option, None, Some, refl, sym, ap, subst, ◌∙◌, arith}
use Rattle.std.specs.Prelude.{IfSome, if◌then◌else◌}
use Rattle.desk_words.specs.declared.order_words.OrderWords.{OrderWords}
use Rattle.journal_keeper.specs.declared.stage.Stage.{Stage}
use Rattle.journal_keeper.specs.declared.stage.Stage.TheVariants.{Shut, Late, Open}
use Rattle.journal_keeper.specs.Journal.{kept_in, is_empty_store, journal_in, rows_of}
use Rattle.journal_keeper.specs.Journal as journal
use Rattle.journal_keeper.specs.Record.{Entry}
use Rattle.journal_keeper.specs.Record as put
use Rattle.journal_keeper.specs.Stage.{seen_by, doubted_by, is_open, StillStands, IsBegun, IsFound}
use Rattle.keeper.specs.Rows.{Kept, bare, begun, migrated}
use Rattle.order_desk.specs.declared.answer.Answer.{Answer}
use Rattle.order_desk.specs.declared.event.Event.{Event}
use Rattle.order_desk.specs.Effect.{keeps, effect}
use Rattle.order_desk.specs.Fits.{Fits}
use Rattle.order_desk.specs.Rows as desk
use Rattle.order_desk.specs.Step.{Follows, Step}
use Rattle.order_desk.specs.Tables.{Tables, State, key_of, order_at}
use Rattle.order_desk.specs.Valid.{IsValid}
use Rattle.order_desk.proofs.RowsTell.{rows_tell}
use Rattle.order_desk.proofs.StepValid.{step_valid}
use Rattle.turn_book.specs.History.{end_of}
use Rattle.turn_book.specs.declared.entry.Entry as taken
use Rattle.journal_desk.specs.Run.{Standing, late_of, IsOverJournal, IsStart, IsStoreFault, Moves, History, IsRun, put_that_goes_on, StandsWith, MayBeLeft, IsStartedOn, HasFailed, WasCutOff, IsThatOrOneMore, WasPlaced}
use Rattle.journal_desk.specs.Stop.{put_of}
use Rattle.journal_desk.proofs.OnePut.{none_is_some, put_keeps, orders_stay}
use Rattle.journal_desk.proofs.Placed.{placed_last}

-- ---- a run

-- what is so between two calls, where P are the events of which one more may be there
record IsKnown (P : Event → Type 0) (s : Standing) : Type 0 where
  over : IsOverJournal s
  valid : IsValid s.desk.tables
  late : (entry : Entry) → late_of s ≡ Some entry → (event : Event) × P event × Fits s.desk.tables event × (put_of s.desk.tables event ≡ Some entry)

no_late : (o : Option Entry) (entry : Entry) → o ≡ None → o ≡ Some entry → ⊥
no_late o entry none some = cc

step_known : (P : Event → Type 0) (old : Standing) (e : taken.Entry Standing Event Answer) → IsKnown P old → Fits old.desk.tables e.call → Moves old e.call e.reply e.after
    → (IsStoreFault e.reply → P e.call) → IsKnown P e.after
step_known P old e known fits moves may = record {
  over = moves.over;
  valid = step_valid old.desk e.call e.reply e.after.desk known.valid fits moves.step;
  late = λ entry is. elim moves.doubt [
    | inl none ↦ absurd (no_late (late_of e.after) entry none is)
    | inr still ↦ elim still.1 [
      | inl same ↦
          let was = known.late entry (sym same ∙ is) in
          (was.0, was.1, subst (λ t. Fits t was.0) (sym still.0) was.2, ap (λ t. put_of t was.0) still.0 ∙ was.3)
      | inr own ↦
          (e.call, may own.0, subst (λ t. Fits t e.call) (sym still.0) fits, ap (λ t. put_of t e.call) still.0 ∙ sym own.1 ∙ is)
    ]
  ];
}

run_known : (P : Event → Type 0) (s : Standing) (es : History) → IsKnown P s → IsRun s es → ((e : Event) → HasFailed es e → P e) → IsKnown P (end_of s es)
run_known P s [] known run may = known
run_known P s (e ∷ es) known run may =
    run_known P e.after es (step_known P s e known run.0 run.1 (λ fault. may e.call (inl (refl, fault)))) run.2 (λ event failed. may event (inr failed))

start_known : (P : Event → Type 0) (s : Standing) → IsStart s → IsKnown P s
start_known P s start = record { over = start.over; valid = start.valid; late = λ entry is. absurd (no_late (late_of s) entry start.sure is) }

-- ---- what is found

found_is : (t found : Tables) (image : List ℕ) → IsValid t → kept_in image ≡ desk.rows_of t → IsStartedOn image found → found ≡ t
found_is t found image valid is started = rows_tell found t (started.rows ∙ ap (λ k. migrated (begun k)) is) started.valid valid

kept_valid : (t : Tables) (e : Event) (due : Answer) (after : Tables) → IsValid t → Fits t e → effect t e ≡ keeps due after → IsValid after
kept_valid t e due after valid fits is =
    let old : State = record { tables = t; faults = record { count = 0; faultless = true }; calls = None } in
    let new : State = record { tables = after; faults = record { count = 0; faultless = true }; calls = None } in
    let step : Step old e due new = subst (λ f. Follows f old due new) (sym is)
    (record { never_falls = omega arith; kept = λ k. k }, inl (record { said = refl; changed = refl; count = refl; once = refl })) in
    step_valid old e due new valid fits step

one_more : (P : Event → Type 0) (t found : Tables) (e : Event) (entry : Entry) (image : List ℕ) → IsValid t → P e → Fits t e → put_of t e ≡ Some entry
    → kept_in image ≡ put.effect entry (desk.rows_of t) → IsStartedOn image found → IsThatOrOneMore t P found
one_more P t found e entry image valid may fits puts is started =
    let k = put_keeps t e entry puts in
    inr (e, k.0, k.1, may, k.2, found_is k.1 found image (kept_valid t e k.0 k.1 valid fits k.2) (is ∙ sym k.3) started)

-- the told rows, those with the record in doubt, or those with the put that goes on
abbrev Is3 : Option Entry → Stage → List ℕ → List ℕ → Type 0
Is3 going stage file image =
    (kept_in image ≡ seen_by stage file)
    ⊎ ((entry : Entry) × (doubted_by stage file ≡ Some entry) × (kept_in image ≡ put.effect entry (seen_by stage file)))
    ⊎ ((entry : Entry) × (going ≡ Some entry) × (kept_in image ≡ put.effect entry (seen_by stage file)))

shut_open : false ≡ true → ⊥
shut_open is = cc

stands : (going : Option Entry) (stage : Stage) (file image : List ℕ) → is_open stage ≡ true → StillStands stage file image → Is3 going stage file image
stands going Shut file image opened left = absurd (shut_open opened)
stands going Late file image opened left = absurd (shut_open opened)
stands going (Open gate in_doubt) file image opened left = elim left [
  | inl same ↦ inl same
  | inr late ↦ inr (inl late)
]

stands_with : (going : Option Entry) (stage : Stage) (file image : List ℕ) → is_open stage ≡ true → StandsWith going stage file image → Is3 going stage file image
stands_with None stage file image opened left = stands None stage file image opened left
stands_with (Some entry) stage file image opened left = elim left [
  | inl still ↦ stands (Some entry) stage file image opened still
  | inr grew ↦ inr (inr (entry, refl, grew))
]

going_more : (P : Event → Type 0) (t found : Tables) (going : Option Event) (entry : Entry) (image : List ℕ) → IsValid t → ((e : Event) → going ≡ Some e → P e) → IfSome going (Fits t)
    → put_that_goes_on t going ≡ Some entry → kept_in image ≡ put.effect entry (desk.rows_of t) → IsStartedOn image found → IsThatOrOneMore t P found
going_more P t found None entry image valid may fits puts is started = absurd (none_is_some entry puts)
going_more P t found (Some e) entry image valid may fits puts is started = one_more P t found e entry image valid (may e refl) fits puts is started

found_known : (P : Event → Type 0) (s : Standing) (going : Option Event) (image : List ℕ) (found : Tables) → IsKnown P s → ((e : Event) → going ≡ Some e → P e)
    → IfSome going (Fits s.desk.tables) → MayBeLeft s going image → IsStartedOn image found → IsThatOrOneMore s.desk.tables P found
found_known P s going image found known may fits left started =
    let told = known.over.told in
    elim (stands_with (put_that_goes_on s.desk.tables going) s.stage s.file image known.over.opened left) [
      | inl same ↦ inl (found_is s.desk.tables found image known.valid (same ∙ told) started)
      | inr more ↦ elim more [
        | inl late ↦
            let was = known.late late.0 late.1 in
            one_more P s.desk.tables found was.0 late.0 image known.valid was.1 was.2 was.3 (late.2 ∙ ap (put.effect late.0) told) started
        | inr grew ↦
            going_more P s.desk.tables found going grew.0 image known.valid may fits grew.1 (grew.2 ∙ ap (put.effect grew.0) told) started
      ]
    ]

pub whole_run : (start : Standing) (history : History) (going : Option Event) (image : List ℕ) (found : Tables) → IsStart start → IsRun start history
    → IfSome going (Fits (end_of start history).desk.tables) → MayBeLeft (end_of start history) going image → IsStartedOn image found
    → IsThatOrOneMore (end_of start history).desk.tables (WasCutOff history going) found
whole_run start history going image found is_start run fits left started =
    let P = WasCutOff history going in
    found_known P (end_of start history) going image found
    (run_known P start history (start_known P start is_start) run (λ e failed. inr failed)) (λ e is. inl is) fits left started

still_in : (t found : Tables) (P : Event → Type 0) (caller : List ℕ) (number : ℕ) (order : OrderWords) → IsThatOrOneMore t P found → order_at t.orders (key_of caller number) ≡ Some order
    → order_at found.orders (key_of caller number) ≡ Some order
still_in t found P caller number order either there = elim either [
  | inl same ↦ ap (λ (u : Tables). order_at u.orders (key_of caller number)) same ∙ there
  | inr more ↦
      ap (λ (u : Tables). order_at u.orders (key_of caller number)) more.5 ∙ orders_stay t more.0 more.1 more.2 more.4 (key_of caller number) order there
]

pub placed_found : (start : Standing) (history : History) (going : Option Event) (found : Tables) (caller : List ℕ) (number : ℕ) (order : OrderWords) → IsRun start history
    → IsThatOrOneMore (end_of start history).desk.tables (WasCutOff history going) found → WasPlaced history caller number order
    → order_at found.orders (key_of caller number) ≡ Some order
placed_found start history going found caller number order run either placed =
    still_in (end_of start history).desk.tables found (WasCutOff history going) caller number order either (placed_last start history caller number order run placed)

-- ---- a start

empty_rows : (file : List ℕ) → is_empty_store file ≡ true → migrated (begun (kept_in file)) ≡ bare 2
empty_rows file empty = ap (λ b. migrated (begun (if b then bare 0 else rows_of (journal_in file)))) empty

blank_rows : (file : List ℕ) → (is_empty_store file ≡ true) ⊎ (file ≡ journal.header ++ 0 ∷ []) → migrated (begun (kept_in file)) ≡ bare 2
blank_rows file (inl empty) = empty_rows file empty
blank_rows file (inr is) = ap (λ f. migrated (begun (kept_in f))) is

pub start_again : (file image : List ℕ) (t found : Tables) → IsBegun Shut file (λ other. other ≡ file) image → IsStartedOn file t → IsStartedOn image found → found ≡ t
start_again file image t found left first second = rows_tell found t (second.rows ∙ same left ∙ sym first.rows) second.valid first.valid
  where
    same : IsBegun Shut file (λ other. other ≡ file) image → migrated (begun (kept_in image)) ≡ migrated (begun (kept_in file))
    same (inl is) = ap (λ f. migrated (begun (kept_in f))) is
    same (inr blank) = blank_rows image blank.1 ∙ sym (empty_rows file blank.0)

three_two : (t : Tables) → bare 3 ≡ desk.rows_of t → ⊥
three_two t is = let forms : 3 ≡ 2 = ap (λ (k : Kept). k.form) is in omega (arith, forms)

pub opened_by : (stage : Stage) (file : List ℕ) (t : Tables) → IsFound stage file → seen_by stage file ≡ desk.rows_of t → is_open stage ≡ true
opened_by Shut file t found told = absurd (three_two t (sym (other_rows found) ∙ told))
  where
    other_rows : (is_empty_store file ≡ false) × (journal_in file ≡ None) → kept_in file ≡ bare 3
    other_rows found = ap (λ b. if b then bare 0 else rows_of (journal_in file)) found.0 ∙ ap rows_of found.1
opened_by Late file t found told = absurd found
opened_by (Open gate in_doubt) file t found told = refl
