-- A new order is accepted exactly where it can be built, and one whose number is taken changes nothing.
use Rattle.std.proofs.Common.{◌≡◌, ◌∙◌, ◌⊎◌, ℕ, ◌≤◌, ◌-◌, zero, suc, Bool, true, false, List, [], ◌∷◌, Option, None, Some, Ok, Err, Result, refl, sym, ap, subst, arith, inl, inr}
use Rattle.std.specs.Prelude.{length, nat_lt, ok_or, slice_get, if◌then◌else◌}
use Rattle.std.specs.List.{AllByRecursion}
use Rattle.std.proofs.lemmas.Bool.{lt-ltb}
use Rattle.pb_base.specs.Results.{and_then}
use Rattle.book_model.specs.Contents.{Contents}
use Rattle.book_model.specs.Parts.{PartsLine, parts}
use Rattle.parts_usage.specs.Outcome.{outcome_of}
use Rattle.parts_usage.specs.declared.fault.OrderFault.{OrderFault}
use Rattle.parts_usage.specs.declared.judgement.Outcome.{Outcome}
use Rattle.parts_usage.specs.declared.judgement.Outcome.TheVariants as outcome
use Rattle.order_text.specs.OutcomeText.{accepted_text}
use Rattle.book_model.specs.Ids.{construct_id}
use Rattle.release.specs.Orders.{IsWellFormed, can_be_built, supplemented}
use Rattle.release.specs.Release.{Release, IsRelease}
use Rattle.release.proofs.OrderLaws.{built, turned_away}
use Rattle.desk_words.specs.declared.order_words.OrderWords.{OrderWords}
use Rattle.desk_words.specs.declared.reply.FullOf.TheVariants as full
use Rattle.desk_words.specs.declared.reply.Missing.TheVariants as missing
use Rattle.desk_words.specs.declared.reply.Reply.{Reply}
use Rattle.desk_words.specs.declared.reply.Reply.TheVariants as reply
use Rattle.order_desk.specs.declared.answer.Answer.{Answer}
use Rattle.order_desk.specs.declared.answer.Answer.TheVariants as answer
use Rattle.order_desk.specs.declared.event.Event.TheVariants.{Place, Read}
use Rattle.order_desk.specs.declared.event.Reading.TheVariants.{Look}
use Rattle.order_desk.specs.declared.kept_book.KeptBook.{KeptBook}
use Rattle.order_desk.specs.declared.limits.TheConstants.{MOST_ORDERS}
use Rattle.order_desk.specs.Effect.{shows, keeps, go_on, book_of, look, place, to_place, unless_kept}
use Rattle.order_desk.specs.Fits.{IsReleaseOf}
use Rattle.order_desk.specs.History.{IsLaterBook, Stays}
use Rattle.order_desk.specs.Step.{Follows, IsKept, IsNotKept, IsOrMemory, IsStoreFault}
use Rattle.order_desk.specs.Tables.{Tables, State, book_at, key_of, with_order}
use Rattle.order_desk.specs.Valid.{IsValid}
use Rattle.order_desk.proofs.EffectWrites.{reads_nothing}
use Rattle.order_desk.proofs.Growth.{place_of_number, reaches_grows}
use Rattle.order_desk.proofs.StepValid.{reaches_valid}
use Rattle.answering.specs.Answers.{after_looking, after_placing, by_accepted, by_outcome, ordering, placing}
use Rattle.answering.specs.Course.{ends_with, or_memory}
use Rattle.answering.specs.Hand.{Begins, Hand, Stepped}
use Rattle.answering.specs.Headline.{AcceptsExactly, IsAccepted, IsKeptList, IsNewOrder, IsNumberUsed, IsRepeated, IsToldAgain, IsUnwritten, IsUsedFor, OrderComes, PlacesOrder, WantsMemory, list_text}
use Rattle.answering.specs.Told.{IsBookThere, as_looked, as_placed}
use Rattle.answering.specs.declared.asked.KeptOrder.{KeptOrder}
use Rattle.answering.specs.declared.asked.Looked.{Looked}
use Rattle.answering.specs.declared.asked.Looked.TheVariants.{Free, Kept}
use Rattle.answering.proofs.LaterHands.{begins_reached, hand_same, hand_stepped}
use Rattle.answering.proofs.Repeats.{follows_said, follows_shown, kept_list, look_says_used, look_shows_kept, place_says_used, place_shows_kept, told_list}
use Rattle.answering.proofs.ToldLaws.{tells_taken}

-- ---- books in valid tables

released_at : (books : List KeptBook) (place : ℕ) (b : KeptBook) → (P : KeptBook → Type 0) → AllByRecursion P books → slice_get books place ≡ Some b → P b
released_at [] place b P all is = absurd (cc)
released_at (c ∷ books) zero b P all is = let same : c ≡ b = cc in subst P same all.0
released_at (c ∷ books) (suc place) b P all is = released_at books place b P all.1 is

-- a book of valid tables is a release
pub is_release : (t : Tables) (number : ℕ) (b : KeptBook) → IsValid t → book_at t.books number ≡ Some b → IsRelease b.released
is_release t number b valid there =
    (released_at t.books (number - 1) b (λ c. IsReleaseOf t.drafts c.draft c.revision c.released) valid.books (place_of_number t.books number b there)).release

-- a book stays the one that was released
stays_released : (t later : Tables) (number : ℕ) (b c : KeptBook) → Stays IsLaterBook (book_at t.books number) (book_at later.books number)
    → book_at t.books number ≡ Some b → book_at later.books number ≡ Some c → c.released ≡ b.released
stays_released t later number b c stays is is' =
    (subst (λ o. Stays IsLaterBook (Some b) o) is' (subst (λ o. Stays IsLaterBook o (book_at later.books number)) is stays)).released

-- ---- what the events of a new order do

module _ (t : Tables) (caller : List ℕ) (number : ℕ) (order : OrderWords) (b : KeptBook) (fresh : IsNewOrder t caller number order b) where
  takes_one_more : to_place t order ≡ Ok b
  unfolding to_place book_of
  takes_one_more =
      ap (λ o. and_then (ok_or o (reply.NoSuch missing.Book)) (λ book. if book.withdrawn then Err (reply.Gone order.book)
      else if nat_lt (length t.orders) MOST_ORDERS then Ok book else Err (reply.Full full.Orders))) fresh.there
      ∙ ap (λ w. if w then Err (reply.Gone order.book) else if nat_lt (length t.orders) MOST_ORDERS then Ok b else Err (reply.Full full.Orders)) fresh.in_force
      ∙ ap (λ less. if less then Ok b else Err (reply.Full full.Orders)) (lt-ltb (length t.orders) MOST_ORDERS fresh.room)

  look_shows : look t caller number order ≡ shows (answer.Book b.released)
  unfolding look
  look_shows =
      ap (λ o. unless_kept o t order (go_on (to_place t order) (λ book. shows (answer.Book book.released)))) fresh.free
      ∙ ap (λ r. go_on r (λ book. shows (answer.Book book.released))) takes_one_more

  place_keeps : place t caller number order ≡ keeps answer.Placed (with_order t (key_of caller number) order)
  unfolding place
  place_keeps =
      ap (λ o. unless_kept o t order (go_on (to_place t order) (λ book. keeps answer.Placed (with_order t (key_of caller number) order)))) fresh.free
      ∙ ap (λ r. go_on r (λ book. keeps answer.Placed (with_order t (key_of caller number) order))) takes_one_more

  -- the book, or want of memory
  look_tells : (s : State) → s.tables ≡ t → (a : Answer) (new : State) → Follows (look s.tables caller number order) s a new
      → IsOrMemory (answer.Book b.released) a × (new ≡ s)
  look_tells s same a new f =
      subst (λ u. Follows u s a new) (subst (λ tables. look tables caller number order ≡ shows (answer.Book b.released)) (sym same) look_shows) f

  -- the order is kept, or nothing is
  place_tells : (s : State) → s.tables ≡ t → (a : Answer) (new : State) → Follows (place s.tables caller number order) s a new
      → IsKept answer.Placed (with_order t (key_of caller number) order) s a new ⊎ IsNotKept s a new
  place_tells s same a new f =
      (subst (λ u. Follows u s a new)
      (subst (λ tables. place tables caller number order ≡ keeps answer.Placed (with_order t (key_of caller number) order)) (sym same) place_keeps) f).1

-- ---- where a call ends

again_ends : (o : Result Outcome OrderFault) (b : Contents) (kind : List ℕ → Reply) (h : Hand) (said : Reply) (new : Hand)
    → or_memory (by_accepted o b (λ text. ends_with (kind text))) h said new → new ≡ h
again_ends o b kind h said new (inl memory) = memory.1
again_ends (Ok (outcome.Accepted set list)) b kind h said new (inr is) = is.1
again_ends (Ok (outcome.Refused rule)) b kind h said new (inr is) = absurd is
again_ends (Ok (outcome.Unfit position count)) b kind h said new (inr is) = absurd is
again_ends (Err fault) b kind h said new (inr is) = absurd is

placing_ends : (text : List ℕ) (o : Option KeptOrder) (h : Hand) (said : Reply) (new : Hand) → after_placing text o h said new → new ≡ h
placing_ends text None h said new is = is.1
placing_ends text (Some k) h said new is =
    again_ends (outcome_of k.book.book k.order.day k.order.codes) k.book.book (reply.Placed false) h said new is

-- what is replied behind the last event
abbrev Replied : List ℕ → Answer → Reply → Type 0
Replied text (answer.Say r) said = said ≡ r
Replied text answer.Placed said = said ≡ reply.Placed true text
Replied text (answer.Kept order r) said = IsKeptList r.book order said
Replied text _ said = Unit {0}

replied : (text : List ℕ) (o : Option KeptOrder) (h : Hand) (said : Reply) (new : Hand) → after_placing text o h said new
    → Replied text (as_placed o) said
replied text None h said new is = is.0
replied text (Some k) h said new is = told_list k h said new is

-- ---- the call of an order

module _ (caller : List ℕ) (number : ℕ) (order : OrderWords) where
  abbrev Comes : State → Contents → Reply → State → Type 0
  Comes old b said new = AcceptsExactly old caller number order b said new

  wanting : (old : State) (b : KeptBook) (said : Reply) (new : State) → IsRelease b.released
      → IsWellFormed b.released.book order.day order.codes → WantsMemory old said new → Comes old b.released.book said new
  wanting old b said new release formed wants = record {
    built = λ can. inr (inl wants);
    unbuilt = λ cannot. inr wants;
    one_list = λ can. (built b.released order.day order.codes release formed can).one_list;
  }

  abbrev Came : Outcome → Result Outcome OrderFault
  Came o = Ok o

  -- an order has one outcome
  other_outcome : (r : Release) (is : Result Outcome OrderFault) → IsRelease r → IsWellFormed r.book order.day order.codes
      → outcome_of r.book order.day order.codes ≡ is → can_be_built r.book order.day order.codes ≡ true
      → is ≡ Ok (outcome.Accepted (supplemented r.book order.day order.codes) (parts r.book order.day (supplemented r.book order.day order.codes)))
  other_outcome r is release formed same can = sym same ∙ (built r order.day order.codes release formed can).accepted

  refused_outcome : (r : Release) (is : Result Outcome OrderFault) (release : IsRelease r) (formed : IsWellFormed r.book order.day order.codes)
      → outcome_of r.book order.day order.codes ≡ is → (cannot : can_be_built r.book order.day order.codes ≡ false)
      → is ≡ Ok (outcome.Refused (turned_away r order.day order.codes release formed cannot).rule)
  refused_outcome r is release formed same cannot = sym same ∙ (turned_away r order.day order.codes release formed cannot).refused

  -- ---- the look is the last event

  module _ (h : Hand) (a : Answer) (mid : Hand) (s : Stepped h (Read (Look caller number order)) a mid) where
    same_state : mid.state ≡ s.first
    same_state = reads_nothing s.first mid.state (Look caller number order) a s.step

    begun : h.book ≡ None → s.first ≡ h.state
    begun alone = subst (λ b. Begins b h.state s.first) alone s.begins

    valid_first : IsValid h.state.tables → IsValid s.first.tables
    valid_first valid = reaches_valid h.state s.first (begins_reached h.book h.state s.first s.begins) valid

    ended : (said : Reply) → OrderComes s.first caller number order said mid.state → PlacesOrder h caller number order said mid
    ended said so = inr (
      record {
        between = h;
        event = Read (Look caller number order);
        answer = a;
        its_event = inl refl;
        before = hand_same h;
        step = s;
        at_once = begun;
      },
      so,
    )

    no_memory : (said : Reply) → IsValid h.state.tables → said ≡ reply.Memory → PlacesOrder h caller number order said mid
    no_memory said valid is = ended said (record {
      fresh = λ b fresh.
          wanting s.first b said mid.state (is_release s.first.tables order.book b (valid_first valid) fresh.there) fresh.formed
          (record { told = is; unchanged = ap (λ k. k.tables) same_state });
      repeated = λ b again. record { told = inr is; unchanged = same_state };
      used = λ kept used. record { told = inr is; unchanged = same_state };
    })

    looks_again : (b : KeptBook) → IsRepeated s.first.tables caller number order b → IsOrMemory (answer.Kept order b.released) a
    looks_again b again =
        (follows_shown (look s.first.tables caller number order) (answer.Kept order b.released) s.first a mid.state
        (look_shows_kept s.first.tables caller number order b again) s.step).0

    looks_used : (kept : OrderWords) → IsUsedFor s.first.tables caller number order kept → a ≡ answer.Say (reply.NumberUsed kept.book)
    looks_used kept used =
        (follows_said (look s.first.tables caller number order) (answer.Say (reply.NumberUsed kept.book)) s.first a mid.state
        (look_says_used s.first.tables caller number order kept used) s.step).0

  -- the look found a kept order
  found_kept : (h : Hand) (k : KeptOrder) (mid : Hand) (s : Stepped h (Read (Look caller number order)) (answer.Kept k.order k.book) mid)
      (said : Reply) → IsKeptList k.book.book k.order said → PlacesOrder h caller number order said mid
  found_kept h k mid s said is =
      ended h (answer.Kept k.order k.book) mid s said (record {
        fresh = λ b fresh. elim ((look_tells s.first.tables caller number order b fresh s.first refl (answer.Kept k.order k.book) mid.state s.step).0) [
          | inl other ↦ absurd (cc)
          | inr other ↦ absurd (cc)
        ];
        repeated = λ b again. record {
          told = elim (looks_again h (answer.Kept k.order k.book) mid s b again) [
            | inl same ↦ kept_list k order b.released said same is
            | inr other ↦ absurd (cc)
          ];
          unchanged = same_state h (answer.Kept k.order k.book) mid s;
        };
        used = λ kept used. let other = looks_used h (answer.Kept k.order k.book) mid s kept used in absurd (cc);
      })

  -- the look found a book, so no order is kept
  free_comes : (h : Hand) (r : Release) (mid : Hand) (s : Stepped h (Read (Look caller number order)) (answer.Book r) mid) (said : Reply)
      → ((b : KeptBook) → IsNewOrder s.first.tables caller number order b → Comes s.first b.released.book said mid.state)
      → PlacesOrder h caller number order said mid
  free_comes h r mid s said fresh = ended h (answer.Book r) mid s said (record {
    fresh = fresh;
    repeated = λ b again. elim (looks_again h (answer.Book r) mid s b again) [
      | inl other ↦ absurd (cc)
      | inr other ↦ absurd (cc)
    ];
    used = λ kept used. let other = looks_used h (answer.Book r) mid s kept used in absurd (cc);
  })

  same_release : (r : Release) (b : KeptBook) → IsOrMemory (answer.Book b.released) (answer.Book r) → r ≡ b.released
  same_release r b (inl is) = cc
  same_release r b (inr is) = absurd (cc)

  -- a refusal, and a fault that a well-formed order doesn't have
  module _ (h : Hand) (r : Release) (mid : Hand) (s : Stepped h (Read (Look caller number order)) (answer.Book r) mid) (valid : IsValid h.state.tables) where
    its_release : (b : KeptBook) → IsNewOrder s.first.tables caller number order b → r ≡ b.released
    its_release b fresh = same_release r b (look_tells s.first.tables caller number order b fresh s.first refl (answer.Book r) mid.state s.step).0

    released : (b : KeptBook) → IsNewOrder s.first.tables caller number order b → IsRelease b.released
    released b fresh = is_release s.first.tables order.book b (valid_first h (answer.Book r) mid s valid) fresh.there

    comes_to : (b : KeptBook) → IsNewOrder s.first.tables caller number order b → (is : Result Outcome OrderFault)
        → outcome_of r.book order.day order.codes ≡ is → outcome_of b.released.book order.day order.codes ≡ is
    comes_to b fresh is same = subst (λ (q : Release). outcome_of q.book order.day order.codes ≡ is) (its_release b fresh) same

    refuses : (said : Reply) (rule : ℕ) → outcome_of r.book order.day order.codes ≡ Ok (outcome.Refused rule)
        → said ≡ (reply.Refused (construct_id r.book rule)) → PlacesOrder h caller number order said mid
    refuses said rule is told = free_comes h r mid s said (λ b fresh. record {
      built = λ can. let no_ = other_outcome b.released (Ok (outcome.Refused rule)) (released b fresh) fresh.formed (comes_to b fresh _ is) can in absurd (cc);
      unbuilt = λ cannot.
          let turned = turned_away b.released order.day order.codes (released b fresh) fresh.formed cannot in
          let same_rule : rule ≡ turned.rule = refused_same rule turned.rule
          (refused_outcome b.released (Ok (outcome.Refused rule)) (released b fresh) fresh.formed (comes_to b fresh _ is) cannot) in
          inl (record {
            rule = turned.rule;
            first = turned.first;
            told = told ∙ ap (λ (q : Release). (reply.Refused (construct_id q.book rule))) (its_release b fresh)
                ∙ ap (λ k. (reply.Refused (construct_id b.released.book k))) same_rule;
            unchanged = same_state h (answer.Book r) mid s;
          });
      one_list = λ can. (built b.released order.day order.codes (released b fresh) fresh.formed can).one_list;
    })
      where
        refused_same : (k n : ℕ) → Came (outcome.Refused k) ≡ Came (outcome.Refused n) → k ≡ n
        refused_same k n is = cc

    faulty : (said : Reply) (fault : OrderFault) → outcome_of r.book order.day order.codes ≡ Err fault → PlacesOrder h caller number order said mid
    faulty said fault is = free_comes h r mid s said (λ b fresh. record {
      built = λ can. let no_ = other_outcome b.released (Err fault) (released b fresh) fresh.formed (comes_to b fresh _ is) can in absurd (cc);
      unbuilt = λ cannot. let no_ = refused_outcome b.released (Err fault) (released b fresh) fresh.formed (comes_to b fresh _ is) cannot in absurd (cc);
      one_list = λ can. let no_ = other_outcome b.released (Err fault) (released b fresh) fresh.formed (comes_to b fresh _ is) can in absurd (cc);
    })

    -- ---- the order is placed

    module _ (set : List Bool) (list : List PartsLine) (is : outcome_of r.book order.day order.codes ≡ Ok (outcome.Accepted set list))
        (a : Answer) (late : Hand) (p : Stepped mid (Place caller number order) a late) where
      valid_mid : IsValid mid.state.tables
      valid_mid = reaches_valid h.state mid.state (hand_stepped h (Read (Look caller number order)) (answer.Book r) mid s).reaches valid

      valid_placed : IsValid p.first.tables
      valid_placed = reaches_valid mid.state p.first (begins_reached mid.book mid.state p.first p.begins) valid_mid

      shown : IsBookThere mid.state.tables order.book r
      shown = tells_taken h (Read (Look caller number order)) (answer.Book r) mid (inr s)

      -- the book by which it was judged is the one that it is placed under
      same_book : (b : KeptBook) → IsNewOrder p.first.tables caller number order b → r ≡ b.released
      same_book b fresh =
          sym (stays_released mid.state.tables p.first.tables order.book shown.book b
          ((reaches_grows mid.state p.first (begins_reached mid.book mid.state p.first p.begins)).books order.book) shown.there fresh.there
          ∙ shown.its_release)

      outcome_there : (b : KeptBook) → IsNewOrder p.first.tables caller number order b
          → outcome_of b.released.book order.day order.codes ≡ Ok (outcome.Accepted set list)
      outcome_there b fresh = subst (λ (q : Release). outcome_of q.book order.day order.codes ≡ Ok (outcome.Accepted set list)) (same_book b fresh) is

      release_there : (b : KeptBook) → IsNewOrder p.first.tables caller number order b → IsRelease b.released
      release_there b fresh = is_release p.first.tables order.book b valid_placed fresh.there

      printed : (b : KeptBook) → IsNewOrder p.first.tables caller number order b → can_be_built b.released.book order.day order.codes ≡ true
          → accepted_text r.book set list ≡ list_text b.released.book order.day order.codes
      printed b fresh can =
          let same = other_outcome b.released (Ok (outcome.Accepted set list)) (release_there b fresh) fresh.formed (outcome_there b fresh) can in
          let x = supplemented b.released.book order.day order.codes in
          let same_set : set ≡ x = cc in
          let same_list : list ≡ parts b.released.book order.day x = cc in
          ap (λ (q : Release). accepted_text q.book set list) (same_book b fresh)
          ∙ ap (λ y. accepted_text b.released.book y list) same_set
          ∙ ap (λ l. accepted_text b.released.book x l) same_list

      ends_so : (b : KeptBook) → IsNewOrder p.first.tables caller number order b → (said : Reply) → can_be_built b.released.book order.day order.codes ≡ true
          → Replied (accepted_text r.book set list) a said
          → IsAccepted p.first caller number order b.released.book said late.state
          ⊎ (WantsMemory p.first said late.state ⊎ IsUnwritten p.first said late.state)
      ends_so b fresh said can rest =
          elim (place_tells p.first.tables caller number order b fresh p.first refl a late.state p.step) [
            | inl kept ↦ inl (record {
              printed =
                  subst (λ given. Replied (accepted_text r.book set list) given said) kept.said rest
                  ∙ ap (λ text. (reply.Placed true text)) (printed b fresh can);
              kept = kept.changed;
              count = kept.count;
            })
            | inr unkept ↦ inr (unwritten unkept)
          ]
        where
          unwritten : IsNotKept p.first a late.state → WantsMemory p.first said late.state ⊎ IsUnwritten p.first said late.state
          unwritten unkept = by unkept.said
            where
              by : (a ≡ answer.Say reply.Memory) ⊎ IsStoreFault p.first a late.state
                  → WantsMemory p.first said late.state ⊎ IsUnwritten p.first said late.state
              by (inl memory) = inl (record {
                told = subst (λ given. Replied (accepted_text r.book set list) given said) memory rest;
                unchanged = unkept.unchanged;
              })
              by (inr fault) = inr (record {
                told = subst (λ given. Replied (accepted_text r.book set list) given said) fault.said rest;
                fails = fault.fails;
                unchanged = unkept.unchanged;
              })

      again_placed : (b : KeptBook) → IsRepeated p.first.tables caller number order b → (said : Reply)
          → Replied (accepted_text r.book set list) a said → IsToldAgain p.first order b.released.book said late.state
      again_placed b again said rest =
          let came = follows_shown (place p.first.tables caller number order) (answer.Kept order b.released) p.first a late.state
          (place_shows_kept p.first.tables caller number order b again) p.step in
          record {
            told = elim came.0 [
              | inl kept ↦ subst (λ given. Replied (accepted_text r.book set list) given said) kept rest
              | inr memory ↦ inr (subst (λ given. Replied (accepted_text r.book set list) given said) memory rest)
            ];
            unchanged = came.1;
          }

      used_placed : (kept : OrderWords) → IsUsedFor p.first.tables caller number order kept → (said : Reply)
          → Replied (accepted_text r.book set list) a said → IsNumberUsed p.first kept said late.state
      used_placed kept used said rest =
          let came = follows_said (place p.first.tables caller number order) (answer.Say (reply.NumberUsed kept.book)) p.first a late.state
          (place_says_used p.first.tables caller number order kept used) p.step in
          record { told = inl (subst (λ given. Replied (accepted_text r.book set list) given said) came.0 rest); unchanged = came.1 }

      placed : (said : Reply) → Replied (accepted_text r.book set list) a said → PlacesOrder h caller number order said late
      placed said rest = inr (
        record {
          between = mid;
          event = Place caller number order;
          answer = a;
          its_event = inr refl;
          before = hand_stepped h (Read (Look caller number order)) (answer.Book r) mid s;
          step = p;
          at_once = λ alone.
              subst (λ b. Begins b mid.state p.first) (s.book ∙ alone) p.begins
              ∙ same_state h (answer.Book r) mid s ∙ begun h (answer.Book r) mid s alone;
        },
        record {
          fresh = λ b fresh. record {
            built = λ can. ends_so b fresh said can rest;
            unbuilt = λ cannot.
                let no_ = refused_outcome b.released (Ok (outcome.Accepted set list)) (release_there b fresh) fresh.formed (outcome_there b fresh) cannot in absurd (cc);
            one_list = λ can. (built b.released order.day order.codes (release_there b fresh) fresh.formed can).one_list;
          };
          repeated = λ b again. again_placed b again said rest;
          used = λ kept used. used_placed kept used said rest;
        },
      )

    judged : 2 ≤ h.left → (o : Result Outcome OrderFault) → outcome_of r.book order.day order.codes ≡ o → (said : Reply) (new : Hand)
        → by_outcome o r.book (placing caller number order) mid said new → PlacesOrder h caller number order said new
    judged left (Ok (outcome.Refused rule)) is said new ends =
        subst (λ (k : Hand). PlacesOrder h caller number order said k) (sym ends.1) (refuses said rule is ends.0)
    judged left (Ok (outcome.Unfit position count)) is said new ends = absurd ends
    judged left (Err fault) is said new ends = subst (λ (k : Hand). PlacesOrder h caller number order said k) (sym ends.1) (faulty said fault is)
    judged left (Ok (outcome.Accepted set list)) is said new (inl (inl over)) = absurd (omega (arith, s.left, over.none_left, left))
    judged left (Ok (outcome.Accepted set list)) is said new (inl (inr p)) = placed set list is (answer.Say said) new p said refl
    judged left (Ok (outcome.Accepted set list)) is said new (inr (o, late, inl over, rest)) = absurd (omega (arith, s.left, over.none_left, left))
    judged left (Ok (outcome.Accepted set list)) is said new (inr (o, late, inr p, rest)) =
        subst (λ (k : Hand). PlacesOrder h caller number order said k) (sym (placing_ends (accepted_text r.book set list) o late said new rest))
        (placed set list is (as_placed o) late p said (replied (accepted_text r.book set list) o late said new rest))

  -- the look says a reply: it found no memory, or the order isn't new
  look_said : (h : Hand) → IsValid h.state.tables → (said : Reply) (new : Hand) → Stepped h (Read (Look caller number order)) (answer.Say said) new
      → PlacesOrder h caller number order said new
  look_said h valid said new s =
      let same = same_state h (answer.Say said) new s in
      ended h (answer.Say said) new s said (record {
        fresh = λ b fresh. elim ((look_tells s.first.tables caller number order b fresh s.first refl (answer.Say said) new.state s.step).0) [
          | inl is ↦ absurd (cc)
          | inr is ↦
              let memory : said ≡ reply.Memory = cc in
              wanting s.first b said new.state (is_release s.first.tables order.book b (valid_first h (answer.Say said) new s valid) fresh.there) fresh.formed
              (record { told = memory; unchanged = ap (λ k. k.tables) same })
        ];
        repeated = λ b again. elim (looks_again h (answer.Say said) new s b again) [
          | inl is ↦ absurd (cc)
          | inr is ↦ let memory : said ≡ reply.Memory = cc in record { told = inr memory; unchanged = same }
        ];
        used = λ kept used.
            let is = looks_used h (answer.Say said) new s kept used in
            let named : said ≡ reply.NumberUsed kept.book = cc in
            record { told = inl named; unchanged = same };
      })

  after_look : (h : Hand) → IsValid h.state.tables → 2 ≤ h.left → (l : Looked) (mid : Hand)
      → Stepped h (Read (Look caller number order)) (as_looked l) mid → (said : Reply) (new : Hand)
      → after_looking caller number order l mid said new → PlacesOrder h caller number order said new
  after_look h valid left (Kept k) mid s said new ends =
      subst (λ (n : Hand). PlacesOrder h caller number order said n)
      (sym (again_ends (outcome_of k.book.book k.order.day k.order.codes) k.book.book (reply.Placed false) mid said new ends))
      (found_kept h k mid s said (told_list k mid said new ends))
  after_look h valid left (Free r) mid s said new (inl memory) =
      subst (λ (k : Hand). PlacesOrder h caller number order said k) (sym memory.1) (no_memory h (answer.Book r) mid s said valid memory.0)
  after_look h valid left (Free r) mid s said new (inr goes) =
      judged h r mid s valid left (outcome_of r.book order.day order.codes) refl said new goes

  pub places_order : (h : Hand) (said : Reply) (new : Hand) → IsValid h.state.tables → 2 ≤ h.left → ordering caller number order h said new
      → PlacesOrder h caller number order said new
  places_order h said new valid left (inl memory) = inl memory
  places_order h said new valid left (inr (inl (inl over))) = absurd (omega (arith, over.none_left, left))
  places_order h said new valid left (inr (inl (inr s))) = look_said h valid said new s
  places_order h said new valid left (inr (inr (l, mid, inl over, rest))) = absurd (omega (arith, over.none_left, left))
  places_order h said new valid left (inr (inr (l, mid, inr s, rest))) = after_look h valid left l mid s said new rest

  -- who is alone finds the desk as it was when the call began
  pub places_alone : (h : Hand) (said : Reply) (new : Hand) → h.book ≡ None → IsValid h.state.tables → 2 ≤ h.left
      → ordering caller number order h said new → OrderComes h.state caller number order said new.state
  places_alone h said new alone valid left ends = by (places_order h said new valid left ends)
    where
      by : PlacesOrder h caller number order said new → OrderComes h.state caller number order said new.state
      by (inl (told, same)) =
          subst (λ (k : Hand). OrderComes h.state caller number order said k.state) (sym same) (record {
            fresh = λ b fresh.
                wanting h.state b said h.state (is_release h.state.tables order.book b valid fresh.there) fresh.formed (record { told = told; unchanged = refl });
            repeated = λ b again. record { told = inr told; unchanged = refl };
            used = λ kept used. record { told = inr told; unchanged = refl };
          })
      by (inr (last, so)) = subst (λ s. OrderComes s caller number order said new.state) (last.at_once alone) so
