-- What the tables tell of a draft that was taken, of a kept order, and of an order that is to be placed.
use Rattle.std.proofs.Common.{◌≡◌, ℕ, ◌≤◌, Bool, true, false, cond, List, ◌∷◌, [], Some, Result, Ok, Err, sym, ap, subst, ◌∙◌}
use Rattle.std.specs.Prelude.{IfOk, All}
use Rattle.std.specs.List.{AllByRecursion}
use Rattle.std.specs.Map.{lookup}
use Rattle.std.proofs.lemmas.Option.{same_Some}
use Rattle.std.specs.BTreeMap.{is_at}
use Rattle.book_model.specs.Contents.{Contents}
use Rattle.parts_usage.specs.Outcome.{outcome_of}
use Rattle.parts_usage.specs.declared.fault.OrderFault.{OrderFault}
use Rattle.parts_usage.specs.declared.judgement.Outcome.{Outcome}
use Rattle.parts_usage.specs.declared.judgement.Outcome.TheVariants as outcome
use Rattle.book_model.specs.Parts.{PartsLine}
use Rattle.order_text.specs.OutcomeText.{outcome_text}
use Rattle.pb_base.specs.Names.{is_code_name}
use Rattle.release.specs.Judged.{as_outcome}
use Rattle.release.specs.declared.judging.Judged.{Judged}
use Rattle.release.specs.declared.judging.Judged.TheVariants as judged
use Rattle.order_desk.specs.declared.limits.TheConstants.{MOST_ORDER_NUMBER}
use Rattle.release.specs.Release.{Release}
use Rattle.desk_words.specs.declared.order_words.OrderWords.{OrderWords}
use Rattle.order_desk.specs.declared.kept_book.KeptBook.{KeptBook}
use Rattle.order_desk.specs.declared.order_key.OrderKey.{OrderKey}
use Rattle.order_desk.specs.Fits.{IsOrderUnder, IsPlaced}
use Rattle.order_desk.specs.Judging.{accepts, is_accepted}
use Rattle.order_desk.specs.Tables.{Tables, book_at, by_key}
use Rattle.order_desk.specs.Valid.{IsValid}
use Rattle.answering.specs.Told.{IsDraftThere, IsBookThere, IsOrderThere, TellsDraft, as_taken}
use Rattle.answering.specs.declared.asked.Taken.{Taken}
use Rattle.answering.specs.Answers.{TextBy}

-- the draft that was taken to be released
pub draft_there : (name : List ℕ) (revision : ℕ) (d : Taken) (t : Tables) → TellsDraft name (Some revision) (as_taken d) t
    → IsDraftThere t name d.text revision
draft_there name revision d t told = subst (λ k. IsDraftThere t name d.text k) (sym told.1) told.0

-- what is found at a key is one of the entries
found_among : {K X : Type 0} (P : K × X → Type 0) (test : K → Bool) (es : List (K × X)) (x : X)
    → AllByRecursion P es → lookup test es ≡ Some x → (k : K) × P (k, x)
found_among P test [] x all is = absurd (cc)
found_among {K} {X} P test (e ∷ es) x all is = by (test e.0) is (found_among P test es x all.1)
  where
    by : (b : Bool) → cond b (Some e.1) (lookup test es) ≡ Some x → (lookup test es ≡ Some x → (k : K) × P (k, x)) → (k : K) × P (k, x)
    by true h later = (e.0, subst (λ (v : X). P (e.0, v)) (same_Some e.1 x h) all.0)
    by false h later = later h

same_book_there : (books : List KeptBook) (number : ℕ) (b c : KeptBook) → book_at books number ≡ Some b → book_at books number ≡ Some c → b ≡ c
same_book_there books number b c is is' = cc

-- a kept order is one that its book accepts
pub kept_accepted : (t : Tables) (order : OrderWords) (r : Release) → IsValid t → IsOrderThere t order r → accepts r.book order.day order.codes ≡ true
kept_accepted t order r valid there =
    let found = found_among (λ (e : OrderKey × OrderWords). IsPlaced t.books e.0.caller e.0.number e.1) (is_at (by_key there.key)) t.orders order
    valid.orders there.there in
    let under = found.1.under in
    let same : under.book ≡ there.book.book = same_book_there t.books order.book under.book there.book.book under.there there.book.there in
    subst (λ (s : Release). accepts s.book order.day order.codes ≡ true) (ap (λ b. b.released) same ∙ there.book.its_release) under.accepted

-- ---- what an order comes to

pub accepted_outcome : (b : Contents) (day : ℕ) (names : List (List ℕ)) → accepts b day names ≡ true → is_accepted (outcome_of b day names) ≡ true
unfolding accepts
accepted_outcome b day names yes_ = yes_

pub no_fault : (o : Result Outcome OrderFault) (fault : OrderFault) → o ≡ Err fault → is_accepted o ≡ true → ⊥
no_fault o fault is yes_ =
    let no_ : false ≡ true = subst (λ (r : Result Outcome OrderFault). is_accepted r ≡ true) is yes_ in
    cc

-- the text of an order that is accepted
pub text_by_judged : (o : Result Outcome OrderFault) (b : Contents) (judged : Judged) (text : List ℕ)
    → o ≡ Ok (as_outcome judged) → is_accepted o ≡ true → text ≡ outcome_text b (as_outcome judged) → TextBy o b text
text_by_judged o b (judged.Accepted set list) text is yes_ same = subst (λ (r : Result Outcome OrderFault). TextBy r b text) (sym is) same
text_by_judged o b (judged.Refused rule) text is yes_ same =
    let no_ : false ≡ true = subst (λ (r : Result Outcome OrderFault). is_accepted r ≡ true) is yes_ in
    absurd (cc)

pub kept_text : {E : Type 0} (o : Result Outcome OrderFault) (b : Contents) (judged : Judged) (result : Result (List ℕ) E)
    → o ≡ Ok (as_outcome judged) → is_accepted o ≡ true → IfOk result (λ text. text ≡ outcome_text b (as_outcome judged)) → IfOk result (TextBy o b)
kept_text o b judged (Ok text) is yes_ same = text_by_judged o b judged text is yes_ same
kept_text o b judged (Err want) is yes_ same = tt

-- what the judge accepts
pub judged_accepted : (b : Contents) (day : ℕ) (names : List (List ℕ)) (set : List Bool) (list : List PartsLine)
    → outcome_of b day names ≡ Ok (outcome.Accepted set list) → accepts b day names ≡ true
unfolding accepts
judged_accepted b day names set list is = ap is_accepted is

pub under_there : (t : Tables) (number : ℕ) (order : OrderWords) (r : Release) → 1 ≤ number → number ≤ MOST_ORDER_NUMBER
    → IsBookThere t order.book r → All (λ code. is_code_name code ≡ true) order.codes → accepts r.book order.day order.codes ≡ true
    → IsOrderUnder t.books number order
under_there t number order r least most there codes yes_ = record {
  least = least;
  most = most;
  book = there.book;
  there = there.there;
  codes = codes;
  accepted = subst (λ (s : Release). accepts s.book order.day order.codes ≡ true) (sym there.its_release) yes_;
}
