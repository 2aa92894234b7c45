-- A step that is settled answers what is due and keeps what is due; every other step changes no tables.
use Rattle.std.proofs.Common.{◌≡◌, ◌⊎◌, ℕ, ◌+◌, Bool, true, false, List, Option, None, Some, length, refl, sym, ap, subst, ◌∙◌, inl, inr}
use Rattle.std.specs.Prelude.{Result, Ok, Err, if◌then◌else◌}
use Rattle.std.proofs.lemmas.Bool.{true≢false}
use Rattle.desk_words.specs.declared.order_words.OrderWords.{OrderWords}
use Rattle.desk_words.specs.declared.reply.Reply.{Reply}
use Rattle.desk_words.specs.declared.reply.Reply.TheVariants as reply
use Rattle.order_desk.specs.Effect.{Effect, says, shows, keeps, go_on, effect, owned, next_draft, put_draft, give_draft, to_release, commit, book_of, withdraw, shows_kept, same_order, unless_kept, to_place, place}
use Rattle.order_desk.specs.Step.{Follows, IsKept, IsNotKept, IsStoreFault, Step}
use Rattle.order_desk.specs.Tables.{Tables, State, key_of, order_at, with_draft, with_book, with_order, with_withdrawn}
use Rattle.order_desk.specs.Valid.{IsValid}
use Rattle.order_desk.specs.declared.answer.Answer.{Answer}
use Rattle.order_desk.specs.declared.answer.Answer.TheVariants as answer
use Rattle.order_desk.specs.declared.event.Event.{Event}
use Rattle.order_desk.specs.declared.event.Event.TheVariants as event
use Rattle.order_desk.specs.declared.event.Reading.{Reading}
use Rattle.order_desk.proofs.EffectWrites.{effect_writes, followed}
use Rattle.caller_laws.specs.Callers.{IsAnsweredAlike, answer_due, concerns, is_settled, seen_by, seen_effect, tables_due}
use Rattle.caller_laws.proofs.OwnEffects.{IsSeenAs, no_room, seen_as}
use Rattle.caller_laws.proofs.OwnOrders.{others_put}

both_ways : (b : Bool) → b ≡ true → b ≡ false → ⊥
both_ways b is is_not = true≢false (sym is ∙ is_not)

memory_unsettled : (given : Answer) → given ≡ answer.Say reply.Memory → is_settled given ≡ false
memory_unsettled given is = ap is_settled is

not_kept_unsettled : (old : State) (given : Answer) (new : State) → IsNotKept old given new → is_settled given ≡ false
not_kept_unsettled old given new not_kept = by not_kept.said
  where
    by : ((given ≡ answer.Say reply.Memory) ⊎ IsStoreFault old given new) → is_settled given ≡ false
    by (inl memory) = memory_unsettled given memory
    by (inr fault) = ap is_settled fault.said

-- ---- what is settled

pub record IsDue (u : Effect) (t : Tables) (given : Answer) (after : Tables) : Type 0 where
  pub said : given ≡ answer_due u
  pub kept : after ≡ tables_due u t

pub settled_due : (u : Effect) (old new : State) (given : Answer) → Follows u old given new → is_settled given ≡ true
    → IsDue u old.tables given new.tables
settled_due (says due) old new given f settled = record { said = f.0; kept = ap (λ (s : State). s.tables) f.1 }
settled_due (shows due) old new given f settled = record { said = by f.0; kept = ap (λ (s : State). s.tables) f.1 }
  where
    by : ((given ≡ due) ⊎ (given ≡ answer.Say reply.Memory)) → given ≡ due
    by (inl is) = is
    by (inr memory) = absurd (both_ways (is_settled given) settled (memory_unsettled given memory))
settled_due (keeps due tables) old new given f settled = by f.1
  where
    by : (IsKept due tables old given new ⊎ IsNotKept old given new) → IsDue (keeps due tables) old.tables given new.tables
    by (inl kept) = record { said = kept.said; kept = kept.changed }
    by (inr not_kept) = absurd (both_ways (is_settled given) settled (not_kept_unsettled old given new not_kept))

seen_answer : (caller : List ℕ) (u : Effect) → answer_due (seen_effect caller u) ≡ answer_due u
seen_answer caller (says due) = refl
seen_answer caller (shows due) = refl
seen_answer caller (keeps due tables) = refl

seen_tables : (caller : List ℕ) (t : Tables) (u : Effect) → tables_due (seen_effect caller u) (seen_by caller t) ≡ seen_by caller (tables_due u t)
seen_tables caller t (says due) = refl
seen_tables caller t (shows due) = refl
seen_tables caller t (keeps due tables) = refl

-- an event that concerns the caller is answered as at a desk with that caller's orders alone
pub own_step : (caller : List ℕ) (old new : State) (e : Event) (given : Answer) → IsValid old.tables → concerns caller e ≡ true
    → Step old e given new → is_settled given ≡ true
    → IsDue (effect (seen_by caller old.tables) e) (seen_by caller old.tables) given (seen_by caller new.tables)
own_step caller old new e given valid own step settled = by (seen_as caller old.tables e own valid.orders_in_order)
  where
    by : IsSeenAs caller old.tables (effect old.tables e) (effect (seen_by caller old.tables) e)
        → IsDue (effect (seen_by caller old.tables) e) (seen_by caller old.tables) given (seen_by caller new.tables)
    by (inl same) =
        let due = settled_due (effect old.tables e) old new given step settled in
        record {
          said = due.said ∙ sym (seen_answer caller (effect old.tables e)) ∙ ap answer_due same;
          kept = ap (seen_by caller) due.kept ∙ sym (seen_tables caller old.tables (effect old.tables e))
              ∙ ap (λ (u : Effect). tables_due u (seen_by caller old.tables)) same;
        }
    by (inr none) =
        let said : Follows (says no_room) old given new = subst (λ (u : Effect). Follows u old given new) none.0 step in
        absurd (both_ways (is_settled given) settled (ap is_settled said.0))

pub answered_alike : (caller : List ℕ) (one other : State) (e : Event) → IsValid one.tables → IsValid other.tables
    → seen_by caller one.tables ≡ seen_by caller other.tables → concerns caller e ≡ true → IsAnsweredAlike caller one other e
answered_alike caller one other e one_valid other_valid same own = λ given told one_after other_after step other_step settled other_settled.
    let first = own_step caller one one_after e given one_valid own step settled in
    let second = own_step caller other other_after e told other_valid own other_step other_settled in
    let due : Tables → Answer = λ (t : Tables). answer_due (effect t e) in
    let after : Tables → Tables = λ (t : Tables). tables_due (effect t e) t in
    (first.said ∙ ap due same ∙ sym second.said, first.kept ∙ ap after same ∙ sym second.kept)

-- ---- what isn't

-- what is kept is answered by something else
abbrev KeepsSettled : Effect → Type 0
KeepsSettled (says due) = Unit {0}
KeepsSettled (shows due) = Unit {0}
KeepsSettled (keeps due tables) = is_settled due ≡ true

settled-go_on : {A : Type 0} (r : Result A Reply) (done : A → Effect) → ((a : A) → KeepsSettled (done a)) → KeepsSettled (go_on r done)
settled-go_on (Ok found) done so = so found
settled-go_on (Err said) done so = tt

settled-if : (b : Bool) (u w : Effect) → KeepsSettled u → KeepsSettled w → KeepsSettled (if b then u else w)
settled-if true u w first second = first
settled-if false u w first second = second

settled-unless : (o : Option OrderWords) (t : Tables) (order : OrderWords) (free : Effect) → KeepsSettled free → KeepsSettled (unless_kept o t order free)
unfolding shows_kept
settled-unless None t order free so = so
settled-unless (Some kept) t order free so =
    settled-if (same_order kept order) (shows_kept t kept) (says (answer.Say (reply.NumberUsed kept.book)))
    (settled-go_on (book_of t kept.book) (λ b. shows (answer.Kept kept b.released)) (λ b. tt)) tt

kept_alone_changes : (u : Effect) (old new : State) (given : Answer) → KeepsSettled u → Follows u old given new → is_settled given ≡ false
    → new.tables ≡ old.tables
kept_alone_changes (says due) old new given so f unsettled = ap (λ (s : State). s.tables) f.1
kept_alone_changes (shows due) old new given so f unsettled = ap (λ (s : State). s.tables) f.1
kept_alone_changes (keeps due tables) old new given so f unsettled = by f.1
  where
    by : (IsKept due tables old given new ⊎ IsNotKept old given new) → new.tables ≡ old.tables
    by (inl kept) = absurd (both_ways (is_settled given) (ap is_settled kept.said ∙ so) unsettled)
    by (inr not_kept) = not_kept.unchanged

-- what only reads changes nothing
abbrev pub Reads : Type 0
Reads = (old new : State) (asked : Reading) (given : Answer) → Step old (event.Read asked) given new → new ≡ old

pub unsettled_unchanged : Reads → (old new : State) (e : Event) (given : Answer) → is_settled given ≡ false → Step old e given new
    → new.tables ≡ old.tables
unfolding put_draft give_draft commit withdraw place
unsettled_unchanged reads old new (event.Read asked) given unsettled step = ap (λ (s : State). s.tables) (reads old new asked given step)
unsettled_unchanged reads old new (event.PutDraft caller draft text) given unsettled step =
    kept_alone_changes (effect old.tables (event.PutDraft caller draft text)) old new given
    (settled-go_on (next_draft old.tables caller draft text) (λ d. keeps (answer.Say (reply.Kept draft d.revision)) (with_draft old.tables draft d)) (λ d. refl))
    step unsettled
unsettled_unchanged reads old new (event.GiveDraft caller draft to) given unsettled step =
    kept_alone_changes (effect old.tables (event.GiveDraft caller draft to)) old new given
    (settled-go_on (owned old.tables caller draft)
    (λ d. keeps (answer.Say (reply.Given draft to)) (with_draft old.tables draft (record d { owner = to }))) (λ d. refl))
    step unsettled
unsettled_unchanged reads old new (event.Commit caller draft revision released) given unsettled step =
    kept_alone_changes (effect old.tables (event.Commit caller draft revision released)) old new given
    (settled-go_on (to_release old.tables caller draft revision)
    (λ d. keeps (answer.Say (reply.BookIs (length old.tables.books + 1) true))
    (with_book old.tables (record { draft = draft; revision = revision; released = released; withdrawn = false }))) (λ d. refl))
    step unsettled
unsettled_unchanged reads old new (event.Withdraw caller number) given unsettled step =
    kept_alone_changes (effect old.tables (event.Withdraw caller number)) old new given
    (settled-go_on (book_of old.tables number)
    (λ b. go_on (owned old.tables caller b.draft) (λ d.
    if b.withdrawn then says (answer.Say (reply.Withdrawn number)) else keeps (answer.Say (reply.Withdrawn number)) (with_withdrawn old.tables number b)))
    (λ b. settled-go_on (owned old.tables caller b.draft)
    (λ d. if b.withdrawn then says (answer.Say (reply.Withdrawn number)) else keeps (answer.Say (reply.Withdrawn number)) (with_withdrawn old.tables number b))
    (λ d. settled-if b.withdrawn (says (answer.Say (reply.Withdrawn number)))
    (keeps (answer.Say (reply.Withdrawn number)) (with_withdrawn old.tables number b)) tt refl)))
    step unsettled
unsettled_unchanged reads old new (event.Place caller number order) given unsettled step =
    kept_alone_changes (effect old.tables (event.Place caller number order)) old new given
    (settled-unless (order_at old.tables.orders (key_of caller number)) old.tables order
    (go_on (to_place old.tables order) (λ b. keeps answer.Placed (with_order old.tables (key_of caller number) order)))
    (settled-go_on (to_place old.tables order) (λ b. keeps answer.Placed (with_order old.tables (key_of caller number) order)) (λ b. refl)))
    step unsettled

-- ---- what is about another caller's orders

pub others_unseen : Reads → (caller : List ℕ) (old new : State) (e : Event) (given : Answer) → concerns caller e ≡ false → Step old e given new
    → seen_by caller new.tables ≡ seen_by caller old.tables
others_unseen reads caller old new (event.PutDraft by_caller draft text) given other step = absurd (true≢false other)
others_unseen reads caller old new (event.GiveDraft by_caller draft to) given other step = absurd (true≢false other)
others_unseen reads caller old new (event.Commit by_caller draft revision released) given other step = absurd (true≢false other)
others_unseen reads caller old new (event.Withdraw by_caller number) given other step = absurd (true≢false other)
others_unseen reads caller old new (event.Read asked) given other step = ap (λ (s : State). seen_by caller s.tables) (reads old new asked given step)
others_unseen reads caller old new (event.Place by_caller number order) given other step =
    followed (λ (t : Tables). seen_by caller t ≡ seen_by caller old.tables) (effect old.tables (event.Place by_caller number order)) old given new refl
    (effect_writes (λ (t : Tables). seen_by caller t ≡ seen_by caller old.tables) old.tables (event.Place by_caller number order)
    (λ b none is. ap (λ orders. record old.tables { orders = orders }) (others_put caller (key_of by_caller number) order other old.tables.orders)))
    step
