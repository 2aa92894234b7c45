-- How a step follows from what its body did, and that the rows stay those of the tables.
use Rattle.std.proofs.Common.{◌≡◌, Option, None, Some, refl, sym, ap, subst, ◌∙◌, inl, inr, arith}
use Rattle.std.specs.Prelude.{Result, Ok, Err, IfSome}
use Rattle.std.specs.Option.{option_map}
use Rattle.pb_outside.specs.declared.error.OutError.{OutError}
use Rattle.pb_outside.specs.declared.error.OutError.TheVariants as out
use Rattle.keeper.specs.Rows.{Kept}
use Rattle.desk_words.specs.declared.reply.Reply.TheVariants as reply
use Rattle.order_desk.specs.declared.answer.Answer.{Answer}
use Rattle.order_desk.specs.declared.answer.Answer.TheVariants as answer
use Rattle.order_desk.specs.Effect.{Effect, says, shows, keeps}
use Rattle.order_desk.specs.Rows.{rows_of, IsDesk}
use Rattle.order_desk.specs.Step.{Follows, Shows}
use Rattle.order_desk.specs.Tables.{Tables, State}
use Rattle.order_desk.specs.Valid.{IsValid}
use Rattle.order_desk.specs.Writing.{IsWritten}

pub follows_from_shows : (u : Effect) (old : State) (given : Answer) → Shows u given → Follows u old given old
follows_from_shows (says due) old given so = (so, refl)
follows_from_shows (shows due) old given so = (so, refl)
follows_from_shows (keeps due tables) old given so = absurd so

-- where no memory was found before the write
pub follows_memory : (due : Answer) (tables : Tables) (old : State) → Follows (keeps due tables) old (answer.Say reply.Memory) old
follows_memory due tables old =
    (record { never_falls = omega arith; kept = λ so. so }, inr (record { said = inl refl; unchanged = refl; at_most_once = inl refl }))

told_after : (change : Kept → Kept) (t changed : Tables) (told : Option Kept) → rows_of changed ≡ change (rows_of t)
    → IfSome told (λ rows. rows ≡ rows_of t) → IfSome (option_map change told) (λ rows. rows ≡ rows_of changed)
told_after change t changed None rows so = so
told_after change t changed (Some kept) rows so = ap change so ∙ sym rows

pub desk_write : (change : Kept → Kept) (t changed new : Tables) (told told' : Option Kept) (written : Result (Unit {0}) OutError)
    → IsDesk t told → IsValid changed → rows_of changed ≡ change (rows_of t) → IsWritten written t changed new
    → IsWritten written told (option_map change told) told' → IsDesk new told'
desk_write change t changed new told told' (Ok done) desk valid rows is told_is = record {
  valid = subst IsValid (sym is.done) valid;
  kept = subst (λ o. IfSome o (λ r. r ≡ rows_of new)) (sym told_is.done)
      (subst (λ u. IfSome (option_map change told) (λ r. r ≡ rows_of u)) (sym is.done) (told_after change t changed told rows desk.kept));
}
desk_write change t changed new told told' (Err fault) desk valid rows is told_is = record {
  valid = subst IsValid (sym is.unchanged) desk.valid;
  kept = subst (λ o. IfSome o (λ r. r ≡ rows_of new)) (sym told_is.unchanged)
      (subst (λ u. IfSome told (λ r. r ≡ rows_of u)) (sym is.unchanged) desk.kept);
}
