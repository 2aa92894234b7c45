-- What a start finds after a stop.
use Rattle.std.proofs.Common.{◌≡◌, inl, inr, ℕ, Bool, List, Option, None, Some, refl, sym, ap, ◌∙◌}
use Rattle.desk_words.specs.declared.order_words.OrderWords.{OrderWords}
use Rattle.journal_keeper.specs.declared.stage.Stage.TheVariants as Stage
use Rattle.journal_keeper.specs.Journal.{kept_in}
use Rattle.journal_keeper.specs.Record.{Entry}
use Rattle.journal_keeper.specs.Record as put
use Rattle.journal_keeper.specs.Stage.{seen_by, doubted_by, StandsOrGrew}
use Rattle.keeper.specs.Rows.{begun}
use Rattle.order_desk.specs.declared.answer.Answer.{Answer}
use Rattle.order_desk.specs.declared.event.Event.{Event}
use Rattle.order_desk.specs.declared.order_key.OrderKey.{OrderKey}
use Rattle.order_desk.specs.Effect.{keeps, effect}
use Rattle.order_desk.specs.Rows.{rows_of, IsDesk}
use Rattle.order_desk.specs.Tables.{Tables, order_at}
use Rattle.order_desk.specs.Valid.{IsValid}
use Rattle.order_desk.proofs.RowsTell.{rows_tell}
use Rattle.journal_desk.specs.Stop.{put_of, MayFind, IsEither}
use Rattle.journal_desk.proofs.OnePut.{same_entry, one_put, orders_stay}

pub found_after : (t : Tables) (e : Event) (due : Answer) (after : Tables) (entry : Entry) (gate : ℕ) (in_doubt : Bool) (file image : List ℕ) → effect t e ≡ keeps due after
    → put_of t e ≡ Some entry → seen_by (Stage.Open gate in_doubt) file ≡ rows_of t → StandsOrGrew entry (Stage.Open gate in_doubt) file image
    → MayFind t after (Stage.Open gate in_doubt) file image
found_after t e due after entry gate in_doubt file image is puts told left =
    let one = one_put t e due after is in
    let rows : rows_of after ≡ put.effect entry (rows_of t) = one.2 ∙ ap (λ x. put.effect x (rows_of t)) (same_entry (put_of t e) one.0 entry one.1 puts) in
    elim left [
      | inl stands ↦ elim stands [
        | inl same ↦ inl (same ∙ told)
        | inr late ↦ inr (inr (late.0, late.1, late.2 ∙ ap (put.effect late.0) told))
      ]
      | inr grew ↦ inr (inl (grew ∙ ap (put.effect entry) told ∙ sym rows))
    ]

begun_rows : (t : Tables) → begun (rows_of t) ≡ rows_of t
begun_rows t = refl

-- the rows that were found tell the tables
found_tables : (t found : Tables) (image : List ℕ) → IsValid t → kept_in image ≡ rows_of t → IsDesk found (Some (begun (kept_in image))) → found ≡ t
found_tables t found image valid is desk = rows_tell found t (sym desk.kept ∙ ap begun is ∙ begun_rows t) desk.valid valid

none_late : (o : Option Entry) (late : Entry) → o ≡ None → o ≡ Some late → ⊥
none_late o late none some = cc

pub started : (t after found : Tables) (gate : ℕ) (in_doubt : Bool) (file image : List ℕ) → IsValid t → IsValid after → MayFind t after (Stage.Open gate in_doubt) file image
    → doubted_by (Stage.Open gate in_doubt) file ≡ None → IsDesk found (Some (begun (kept_in image))) → IsEither t after found
started t after found gate in_doubt file image t_valid after_valid may none desk = elim may [
  | inl before ↦ inl (found_tables t found image t_valid before desk)
  | inr later ↦ elim later [
    | inl grew ↦ inr (found_tables after found image after_valid grew desk)
    | inr late ↦ absurd (none_late (doubted_by (Stage.Open gate in_doubt) file) late.0 none late.1)
  ]
]

pub order_found : (t : Tables) (e : Event) (due : Answer) (after found : Tables) (key : OrderKey) (order : OrderWords) → effect t e ≡ keeps due after → IsEither t after found
    → order_at t.orders key ≡ Some order → order_at found.orders key ≡ Some order
order_found t e due after found key order is either there = elim either [
  | inl same ↦ ap (λ (u : Tables). order_at u.orders key) same ∙ there
  | inr same ↦ ap (λ (u : Tables). order_at u.orders key) same ∙ orders_stay t e due after is key order there
]
