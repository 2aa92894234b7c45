-- The steps of reading a book's text, from its bytes to the passes.
use Rattle.std.proofs.Common.{◌≡◌, ◌≤◌, ◌<◌, ℕ, Bool, true, false, List, length, Result, Err, refl, arith, nat_lt}
use Rattle.std.specs.Str.{is_utf8}
use Rattle.pb_base.specs.Answers.{Answers, Gives}
use Rattle.pb_base.specs.declared.answer.Fail.{Fail}
use Rattle.pb_base.specs.declared.answer.Fail.TheVariants.{Refused, Memory}
use Rattle.book_text.specs.Rows.{rows_of}
use Rattle.pb_base.specs.Results.{and_then}
use Rattle.pb_base.specs.declared.limits.TheConstants.{MOST_TEXT_BYTES}
use Rattle.book_text.specs.BookText.{book_of, book_of_rows}
use Rattle.book_text.specs.declared.fault.BookFault.{BookFault}
use Rattle.book_text.specs.declared.fault.BookKind.TheVariants.{TooLarge, NotUtf8}

pub false-unless : (b : Bool) → (b ≡ true → ⊥) → false ≡ b
false-unless true h = absurd (h refl)
false-unless false h = refl

pub book_of-large : (text : List ℕ) → MOST_TEXT_BYTES < length text → book_of text ≡ Err (record { row = 0; kind = TooLarge })
unfolding book_of
book_of-large text h = let large : nat_lt MOST_TEXT_BYTES (length text) ≡ true = grind arith in rw large refl

pub book_of-not_utf8 : (text : List ℕ) → length text ≤ MOST_TEXT_BYTES → is_utf8 text ≡ false → book_of text ≡ Err (record { row = 0; kind = NotUtf8 })
unfolding book_of
book_of-not_utf8 text h u = let small : nat_lt MOST_TEXT_BYTES (length text) ≡ false = grind arith in rw (small, u) refl

pub book_of-rows : (text : List ℕ) → length text ≤ MOST_TEXT_BYTES → is_utf8 text ≡ true → book_of text ≡ book_of_rows (rows_of text)
unfolding book_of
book_of-rows text h u = let small : nat_lt MOST_TEXT_BYTES (length text) ≡ false = grind arith in rw (small, u) refl

-- a fault of a step is the fault of what follows it
pub refused-through : {U A B : Type 0} (error : Fail BookFault) (view : U → A) (answer : Result A BookFault) (f : A → Result B BookFault)
    → Gives (Err error) view answer → Answers (Err error) (and_then answer f)
refused-through (Refused fault) view answer f h = rw h refl
refused-through Memory view answer f h = tt
