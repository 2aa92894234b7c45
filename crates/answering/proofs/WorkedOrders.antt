-- What the definitions of Headline and Dealt refuse, on the worked book: a weaker word of theirs would not be refuted here.
use Rattle.std.proofs.Common.{◌≡◌, ◌≢◌, ℕ, Bool, true, false, List, [], ◌∷◌, refl, arith, inl, inr}
use Rattle.std.specs.Prelude.{codes}
use Rattle.book_model.specs.Sound.{IsReleasable}
use Rattle.book_model.specs.WorkedBook.{a_gearbox, an_engine, book_t, book_with, one_gearbox, set_t}
use Rattle.supplement.specs.Completion.{completion_by}
use Rattle.release.specs.Orders.{can_be_built}
use Rattle.desk_words.specs.declared.order_words.OrderWords.{OrderWords}
use Rattle.desk_words.specs.declared.reply.Reply.TheVariants as reply
use Rattle.order_desk.specs.Tables.{State, key_of, with_order}
use Rattle.answering.specs.Headline.{AcceptsExactly, IsNumberUsed, IsToldAgain, list_text}

-- one engine, and two
abbrev pub one_order : OrderWords
one_order = record { book = 1; day = 1; codes = codes "M1" ∷ [] }

abbrev pub two_order : OrderWords
two_order = record { book = 1; day = 1; codes = codes "M1" ∷ codes "M2" ∷ [] }

one_can : can_be_built book_t 1 one_order.codes ≡ true
unfolding completion_by
one_can = refl

two_cannot : can_be_built book_t 1 two_order.codes ≡ false
unfolding completion_by
two_cannot = refl

module _ (caller : List ℕ) (number : ℕ) (old new : State) where
  -- two engines are not accepted, whatever list is told
  pub two_not_placed : (fresh : Bool) (text : List ℕ) → AcceptsExactly old caller number two_order book_t (reply.Placed fresh text) new → ⊥
  two_not_placed fresh text is = elim (is.unbuilt two_cannot) [
    | inl refused ↦ let other = refused.told in cc
    | inr memory ↦ let other = memory.told in cc
  ]

  -- one engine is not refused, by no rule
  one_not_refused : (rule : List ℕ) → AcceptsExactly old caller number one_order book_t (reply.Refused rule) new → ⊥
  one_not_refused rule is = elim (is.built one_can) [
    | inl accepted ↦ let other = accepted.printed in cc
    | inr unkept ↦ elim unkept [
      | inl memory ↦ let other = memory.told in cc
      | inr fault ↦ let other = fault.told in cc
    ]
  ]

  -- no other list is told of it, as that of another day
  no_other_list : (text : List ℕ) → text ≢ list_text book_t 1 one_order.codes
      → AcceptsExactly old caller number one_order book_t (reply.Placed true text) new → ⊥
  no_other_list text other is = elim (is.built one_can) [
    | inl accepted ↦ let printed = accepted.printed in other (cc)
    | inr unkept ↦ elim unkept [
      | inl memory ↦ let told = memory.told in cc
      | inr fault ↦ let told = fault.told in cc
    ]
  ]

  -- it isn't told as accepted where the tables don't have it
  not_unkept : (text : List ℕ) → new.tables ≢ with_order old.tables (key_of caller number) one_order
      → AcceptsExactly old caller number one_order book_t (reply.Placed true text) new → ⊥
  not_unkept text lacks is = elim (is.built one_can) [
    | inl accepted ↦ lacks accepted.kept
    | inr unkept ↦ elim unkept [
      | inl memory ↦ let told = memory.told in cc
      | inr fault ↦ let told = fault.told in cc
    ]
  ]

  -- a repeated order isn't told another list than that of its own book, nor that it is new, nor does it change anything
  no_newer_list : (text : List ℕ) → text ≢ list_text book_t 1 one_order.codes
      → IsToldAgain old one_order book_t (reply.Placed false text) new → ⊥
  no_newer_list text other is = elim is.told [
    | inl told ↦ other (cc)
    | inr told ↦ absurd (cc)
  ]

  not_new_again : (text : List ℕ) → IsToldAgain old one_order book_t (reply.Placed true text) new → ⊥
  not_new_again text is = elim is.told [
    | inl told ↦ absurd (cc)
    | inr told ↦ absurd (cc)
  ]

  acts_once : (text : List ℕ) → new ≢ old → IsToldAgain old one_order book_t (reply.Placed false text) new → ⊥
  acts_once text changed is = changed is.unchanged

  -- another order under a number that is taken is not placed
  not_placed_under : (fresh : Bool) (text : List ℕ) → IsNumberUsed old one_order (reply.Placed fresh text) new → ⊥
  not_placed_under fresh text is = elim is.told [
    | inl told ↦ absurd (cc)
    | inr told ↦ absurd (cc)
  ]

-- without the rule that there is at most one engine the book can't be released: two engines select two motors
two_motors : IsReleasable (book_with (an_engine ∷ a_gearbox ∷ one_gearbox ∷ []) book_t.variants) → ⊥
two_motors r =
    let sound = r.sound 1 (omega arith) (omega arith) (set_t true true true false false) refl in
    cc
